-- `write_window` meets its contract: after i turns the first i places are written. Assumes nothing.
use mathlib.Core.Path.{◌≡◌, refl, ap, ◌∙◌}
use mathlib.Core.List.{List, ◌++◌}
use Prim.Native.Nat.{ℕ}
use native.Mathlib.Numerals.{add-one}
use native.Mathlib.Omega.{arith}
use lib.ListN.{take, drop}
use lib.Ieee.{Float, nan}
use Rattle.std.proofs.lemmas.List.{length-take-le}
use Rattle.numbers.specs.Firsts.{firsts}
use Rattle.numbers.proofs.Firsts.{written_step}
use Rattle.decode.specs.Correlator.{symbol_of}
use Rattle.demodulator.specs.Spans.{symbol_at}
use Rattle.demodulator.specs.Record.{ring_back}
use Rattle.demodulator.proofs.WrittenPart.{written_part}
use Rattle.demodulator.proofs.ring.write_window.Goals as goal

pub loop-i-init : goal.loop-i-init
unfolding firsts
loop-i-init c = refl

pub overflow_sub-i : goal.overflow_sub-i
overflow_sub-i c = omega (arith, length-take-le 192 c.args.room.now c.requires.1)

pub loop-i-preserved : goal.loop-i-preserved
unfolding symbol_of
loop-i-preserved c =
    let l = c.loop-i in
    let a = c.args in
    let f : ℕ → Float = symbol_at a.p a.shown (ring_back a.p a.ring.now a.cursor) in
    rw (l.invariant, c.symbol_back.ensures, add-one l.i) (written_step f l.i (take 192 a.room.now) nan c.loop-i-test.true)

pub returns : goal.returns
returns c =
    let l = c.loop-i in
    let a = c.args in
    let f : ℕ → Float = symbol_at a.p a.shown (ring_back a.p a.ring.now a.cursor) in
    let done : l.i ≡ 192 = omega (arith, length-take-le 192 a.room.now c.requires.1) in
    ap (λ (q : List Float). q ++ drop 192 a.room.now) (l.invariant ∙ rw done) ∙ written_part f 192 a.room.now c.requires.1
