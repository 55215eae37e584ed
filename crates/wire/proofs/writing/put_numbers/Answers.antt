-- `writing::put_numbers` meets its contract: after i turns the first i are laid. Assumes nothing.
use mathlib.Core.Path.{◌≡◌, refl, ◌∙◌}
use native.Mathlib.Numerals.{add-one}
use native.Mathlib.Omega.{arith}
use lib.ListN.{length}
use Rattle.wire.specs.Bytes.{laid}
use Rattle.wire.proofs.writing.put_numbers.Goals as goal

pub loop-i-init : goal.loop-i-init
unfolding laid
loop-i-init c = refl

pub loop-i-preserved : goal.loop-i-preserved
unfolding laid
loop-i-preserved c =
    rw add-one (c.lay_number.ensures ∙ rw c.loop-i.invariant)

pub returns : goal.returns
returns c =
    let all : c.loop-i.i ≡ length c.args.from.now = omega arith in
    c.loop-i.invariant ∙ rw all
