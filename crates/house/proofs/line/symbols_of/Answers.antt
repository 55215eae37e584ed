-- `line::symbols_of` meets its contract: the first i symbols are those of the line. Assumes nothing.
use mathlib.Core.Path.{◌≡◌, sym, ◌∙◌, subst⁻¹}
use Prim.Native.Nat.{◌/◌, ◌%◌}
use native.Mathlib.Omega.{arith}
use native.Mathlib.Numerals.{add-one}
use borrow.Author.Rules.{rules}
use borrow.Author.Tests.{eq-eqb, ne_eqb}
use lib.Dec.{T, ltb→lt}
use lib.ListN.{get_or, take, length-set}
use lib.Seq.{take_all}
use Rattle.numbers.specs.Firsts.{firsts}
use Rattle.numbers.proofs.Firsts.{prefix_step}
use Rattle.house.specs.Digits.{value_of}
use Rattle.house.specs.Line.{bits_at, symbols_of_lem}
use Rattle.house.proofs.Lines.{good_digit, pair_below}
use Rattle.house.proofs.line.symbols_of.Invariants.{symbol_in}
use Rattle.house.proofs.line.symbols_of.Goals as goal
use Rattle.house.proofs.line.symbols_of.Goals.{Joined-i-eq0, then-i-eq0, else-i-eq0}

pub loop-i-init : goal.loop-i-init
unfolding firsts
loop-i-init c = search rules

-- the two bits that the branch has picked
picked : (c : Joined-i-eq0) → c.if-i-eq0.bits ≡ bits_at c.args.line c.loop-i.i
picked c =
    let i = c.loop-i.i in
    elim c.if-i-eq0.branch [ then-i-eq0 w ↦ w.bits-is ∙ rw (eq-eqb (i % 2) 0 w.if-i-eq0.true, c.value-four.ensures) | else-i-eq0 w ↦ w.bits-is ∙ rw (ne_eqb (i % 2) 0 w.if-i-eq0.false, c.value-four.ensures) ]

pub symbol-requires : goal.symbol-requires
symbol-requires c =
    let line = c.args.line in
    let i = c.loop-i.i in
    rw (picked c) (pair_below (value_of (get_or line (i / 2) 0)) i (ltb→lt _ 16 (good_digit line (subst⁻¹ T c.requires tt) (i / 2) (omega arith))))

pub loop-i-preserved : goal.loop-i-preserved
loop-i-preserved c =
    let i = c.loop-i.i in
    (simp length-set c.loop-i.invariant.0, rw (add-one i, c.symbol.ensures, picked c.before) (prefix_step (symbol_in c.args.line) i c.loop-i.place-items (omega arith) c.loop-i.invariant.1))

pub returns : goal.returns
unfolding symbols_of_lem
returns c =
    let done : c.loop-i.i ≡ 192 = omega arith in
    let whole : c.loop-i.place-items ≡ take 192 c.loop-i.place-items = sym (take_all 192 c.loop-i.place-items (omega arith)) in
    whole ∙ rw done at c.loop-i.invariant.1
