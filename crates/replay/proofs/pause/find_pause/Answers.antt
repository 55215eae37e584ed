-- `pause::find_pause` meets its contract: no stretch ends with more samples than are left, up to the most. Assumes nothing.
use mathlib.Core.Path.{refl}
use mathlib.Core.Logic.{inl, inr}
use mathlib.Core.List.{List}
use Prim.Native.Nat.{ℕ, ◌-◌, ◌≤◌, ◌<◌}
use native.Mathlib.Nat.{le_refl}
use native.Mathlib.Omega.{arith}
use borrow.Author.Rules.{rules}
use lib.IntN.{ℤ}
use Rattle.numbers.proofs.Tests.{lt_or_le}
use Rattle.replay.specs.Pauses.{FirstSound}
use Rattle.replay.proofs.pause.find_pause.Invariants.{NoneAfter}
use Rattle.replay.proofs.pause.find_pause.Goals as goal

-- the sample that is not 0 rules out each stretch that it is in
module _ (span most : ℕ) (xs : List ℤ) (end at : ℕ)
    (none : NoneAfter span xs most end) (S : FirstSound xs (end - span) end at) (below : at < end) (enough : span ≤ end) where
  ruled_out : NoneAfter span xs most at
  ruled_out e l u P = elim (lt_or_le end e) [
    | inr under ↦ let a = S.least in S.sound below (P.zeros at (omega arith) l)
    | inl over ↦ none e over u P
  ]

pub loop-end-init : goal.loop-end-init
loop-end-init c = (c.requires.0, le_refl _, c.requires.1, λ e l u P. absurd (omega arith))

pub find_sound-at-requires : goal.find_sound-at-requires
find_sound-at-requires c = let l = c.loop-end.invariant in (omega arith, omega (arith, l.1, l.2))

pub returns-then-at-end : goal.returns-then-at-end
returns-then-at-end c =
    let l = c.loop-end in
    let S = c.find_sound-at.ensures in
    let same = c.if-at-end.true in
    record {
      within = l.invariant.1;
      there = inr (record { most = omega (arith, l.invariant.1, l.invariant.2); least = search rules; zeros = λ k a b. S.zeros k (omega arith) (omega arith) });
      last = l.invariant.3;
    }

pub loop-end-smaller : goal.loop-end-smaller
loop-end-smaller c =
    let S = c.find_sound-at.ensures in
    let other = c.if-at-end.false in
    omega (arith, S.most)

pub loop-end-preserved : goal.loop-end-preserved
loop-end-preserved c =
    let l = c.loop-end in
    let S = c.find_sound-at.ensures in
    let other = c.if-at-end.false in
    let a = S.most in
    let b = l.invariant.1 in
    (l.invariant.0, omega arith, l.invariant.2, ruled_out _ _ _ l.end _ l.invariant.3 S (omega arith) (search rules))

pub returns : goal.returns
returns c =
    let l = c.loop-end in
    let few : l.end < c.args.span = search rules in
    record {
      within = omega arith;
      there = inl refl;
      last = λ e a b P. elim (lt_or_le l.end e) [ inl u ↦ l.invariant.3 e u b P | inr u ↦ let v = P.least in omega arith ];
    }
