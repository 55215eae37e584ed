-- `reading::numbers` meets its contract: after i turns the first i places are written. Assumes nothing.
use mathlib.Core.Path.{◌≡◌, refl}
use native.Mathlib.Numerals.{add-one}
use native.Mathlib.Omega.{arith}
use borrow.Author.Rules.{rules}
use lib.ListN.{length}
use Rattle.numbers.specs.Firsts.{firsts}
use Rattle.numbers.proofs.Firsts.{written_step}
use Rattle.wire.specs.Bytes.{number_at_lem}
use Rattle.wire.proofs.Slices.{filled}
use Rattle.wire.proofs.Bytes.{eight_bytes}
use Rattle.wire.proofs.reading.numbers.Goals as goal

pub loop-i-init : goal.loop-i-init
unfolding firsts
loop-i-init c = refl

pub loop-i-preserved : goal.loop-i-preserved
loop-i-preserved c =
    let l = c.loop-i in
    let a = c.args in
    let long : length c.read.result ≡ 8 = search rules in
    rw (l.invariant, c.from_le_bytes.ensures, eight_bytes c.read.result long, c.read.ensures, add-one l.i) (written_step (number_at_lem a.from.now) l.i a.to.now 0 (omega arith))

pub returns : goal.returns
returns c =
    let l = c.loop-i in
    filled (number_at_lem c.args.from.now) l.i c.args.to.now l.to (omega arith) l.invariant (omega arith)
