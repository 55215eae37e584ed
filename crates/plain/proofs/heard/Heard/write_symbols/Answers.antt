-- `write_symbols` meets its contract: after i turns the first i places are written. Assumes nothing.
use mathlib.Core.Path.{◌≡◌, refl, sym, ap, ◌∙◌}
use mathlib.Core.List.{List, ◌++◌}
use Prim.Native.Nat.{ℕ}
use native.Mathlib.Numerals.{add-one}
use native.Mathlib.Omega.{arith}
use borrow.Author.Rules.{rules}
use lib.Ieee.{Float}
use lib.ListN.{drop, length-set}
use lib.Seq.{take_all, length-take-le}
use Rattle.numbers.specs.Firsts.{firsts}
use Rattle.numbers.proofs.Firsts.{prefix_step}
use Rattle.decode.specs.Correlator.{symbol_of}
use Rattle.demodulator.specs.Spans.{symbol_at}
use Rattle.plain.specs.Values.{from_whole}
use Rattle.plain.proofs.heard.Heard.write_symbols.Goals as goal

pub loop-i-init : goal.loop-i-init
unfolding firsts
loop-i-init c = (search rules, refl)

pub overflow_sub-i : goal.overflow_sub-i
overflow_sub-i c = omega (arith, length-take-le 192 c.args.symbols.now c.requires.1)

pub loop-i-preserved : goal.loop-i-preserved
unfolding symbol_of
loop-i-preserved c =
    let a = c.args in
    let l = c.loop-i in
    let f : ℕ → Float = symbol_at a.self.now.p a.shown (from_whole a.self.now.table.now a.self.now.p a.self.now.recording.now a.sample) in
    (simp length-set l.invariant.0, rw (c.symbols_before-value.ensures, add-one l.i) (prefix_step f l.i l.symbol-items (omega arith) l.invariant.1))

pub returns : goal.returns
returns c =
    let l = c.loop-i in
    let done : l.i ≡ 192 = omega (arith, length-take-le 192 c.args.symbols.now c.requires.1) in
    ap (λ (t : List Float). t ++ drop 192 c.args.symbols.now) (sym (take_all l.i l.symbol-items (omega arith)) ∙ l.invariant.1 ∙ rw done)
