-- `fill` meets its contract. The loop's invariant: the symbols from the first
-- of the last nine on have entered. Assumes nothing.
use mathlib.Core.Path.{◌≡◌, refl, sym, ap, ◌∙◌}
use mathlib.Core.Logic.{inl, inr}
use mathlib.Core.List.{List}
use Prim.Native.Nat.{ℕ, ◌+◌, ◌-◌, ◌*◌, ◌%◌, ◌≤◌, ◌<◌}
use native.Mathlib.Nat.{mod-eq_of_lt}
use native.Mathlib.Omega.{arith}
use borrow.Author.Rules.{rules}
use lib.ListN.{length, get_or, take, drop, length-drop}
use lib.Seq.{get_or-drop}
use lib.Ieee.{Float, nan}
use Rattle.numbers.proofs.Tail.{tail_lent}
use Rattle.numbers.proofs.Tests.{lt_or_le}
use Rattle.shaping.specs.Rate.{tap_count}
use Rattle.pulse.specs.Pulse.{pulses, listed, after, line_at}
use Rattle.pulse.proofs.Pulses.{alone}
use Rattle.pulse.proofs.Stream.{after_same, after_more}
use Rattle.pulse.proofs.View.{last_enough}
use Rattle.pulse.proofs.window.Ring.fill.Invariants.{rest}
use Rattle.pulse.proofs.window.Ring.fill.Goals as goal

-- the symbols before the last nine leave nothing but their way round the ring
last_nine : (p : ℕ) → 0 < p → (e : ℕ → Float) (n : ℕ) (window : List Float) (cursor : ℕ) → tap_count p ≤ length window → cursor < tap_count p
    → after p (λ (j : ℕ). e (p * (n - 9) + j)) (p * (n - (n - 9))) (line_at window ((cursor + p * (n - 9)) % tap_count p)) ≡ after p e (p * n) (line_at window cursor)
last_nine p some e n window cursor long inside = elim (lt_or_le n 9) [
  | inl few ↦
      let none : n - 9 ≡ 0 = omega arith in
      let gone : p * (n - 9) ≡ 0 = ap (λ (m : ℕ). p * m) none ∙ omega arith in
      let all : p * (n - (n - 9)) ≡ p * n = ap (λ (m : ℕ). p * m) {x = n - (n - 9)} {y = n} (omega arith) in
      let here : (cursor + p * (n - 9)) % tap_count p ≡ cursor = ap (λ (m : ℕ). m % tap_count p) {x = cursor + p * (n - 9)} {y = cursor} (omega arith) ∙ mod-eq_of_lt inside in
      rw (all, here) (after_same p _ e (p * n) (line_at window cursor) λ j l. ap e {x = p * (n - 9) + j} {y = j} (omega arith))
  | inr many ↦
      let nine : p * (n - (n - 9)) ≡ p * 9 = ap (λ (m : ℕ). p * m) {x = n - (n - 9)} {y = 9} (omega arith) in
      let all : p * n ≡ p * (n - 9) + p * 9 = omega (arith, ap (λ (m : ℕ). p * m) {x = n} {y = n - 9 + 9} (omega arith)) in
      rw (nine, all) (sym (last_enough p e (p * (n - 9)) (p * 9) window cursor long inside (omega arith)))
]

pub loop-symbol-init : goal.loop-symbol-init
unfolding after
loop-symbol-init c =
    let none : c.args.self.now.p * 0 ≡ 0 = omega arith in
    (refl, rw (none, c.samples.ensures, c.samples-2.ensures))

pub loop-symbol-preserved : goal.loop-symbol-preserved
loop-symbol-preserved c =
    let l = c.loop-symbol in
    let p = c.args.self.now.p in
    let symbols = c.args.symbols.now in
    let passed = c.saturating_sub-passed.result in
    let i = l.symbol-index in
    let next : p * (i + 1) ≡ p * i + p = omega arith in
    let symbol : get_or (take (length symbols - passed) (drop passed symbols)) i nan ≡ listed symbols (passed + i) = rw (tail_lent symbols passed) (get_or-drop passed symbols i nan) in
    let same : (j : ℕ) → j < p → pulses p (λ (_ : ℕ). listed symbols (passed + i)) j ≡ rest p symbols passed (p * i + j) =
    λ j h. sym (ap (pulses p (listed symbols)) {x = p * passed + (p * i + j)} {y = p * (passed + i) + j} (omega arith) ∙ alone p (listed symbols) (passed + i) j h)
    in (
      c.enter_symbol.ensures.keeps ∙ l.invariant.0,
      rw next (after_more p (rest p symbols passed) _ (p * i) p _ _ _ same l.invariant.1 (rw (l.invariant.0, symbol) at c.enter_symbol.ensures.enters)),
    )

pub returns-clause-enters : goal.returns-clause-enters
returns-clause-enters c =
    let l = c.loop-symbol in
    let ring = c.args.self.now in
    let n = length c.args.symbols.now in
    let done : l.symbol-index ≡ n - (n - 9) = let e = length-drop (n - 9) c.args.symbols.now in search rules in
    l.invariant.1 ∙ rw (done, c.saturating_sub-passed.ensures) (last_nine ring.p (omega arith) (pulses ring.p (listed c.args.symbols.now)) n ring.values ring.cursor (omega arith) ring.inside)
