-- `writing::put_samples` meets its contract: after i turns the first i are laid. Assumes nothing.
use mathlib.Core.Path.{◌≡◌, refl, ◌∙◌}
use native.Mathlib.Numerals.{add-one}
use native.Mathlib.Omega.{arith}
use borrow.Author.Rules.{rules}
use mir.Syntax.{w16}
use mir.Facts.{to_z-of_z}
use lib.IntN.{pos}
use lib.ListN.{length, get_or}
use Rattle.wire.specs.Bytes.{laid}
use Rattle.wire.proofs.writing.put_samples.Goals as goal

pub loop-i-init : goal.loop-i-init
unfolding laid
loop-i-init c = refl

pub loop-i-preserved : goal.loop-i-preserved
unfolding laid
loop-i-preserved c =
    let back = to_z-of_z {w = w16} {z = get_or c.args.from.now c.loop-i.i (pos 0)} (search rules) in
    rw add-one (c.lay_sample.ensures ∙ rw (back, c.loop-i.invariant))

pub returns : goal.returns
returns c =
    let all : c.loop-i.i ≡ length c.args.from.now = omega arith in
    c.loop-i.invariant ∙ rw all
