-- What the listing's test of a seat tells: 115 and 101 by the seat's flag and numbers, and 101 of an open seat whose receiver is unfit. Assumes nothing.
use mathlib.Core.Path.{◌≡◌, refl, sym, ap, ◌∙◌}
use mathlib.Core.Bool.{Bool, true, false, not, cond, ◌||◌}
use mathlib.Core.List.{List}
use Prim.Native.Nat.{ℕ, zero, suc, ◌%◌, ◌≤◌, ◌<◌}
use native.Mathlib.Omega.{arith}
use mathlib.Core.Logic.{⊎_elim}
use borrow.Author.Tests.{lt-ltb, le-ltb, ne_eqb, le-leb, lt-leb}
use lib.Dec.{ltb, leb, eqb}
use lib.ListN.{get_or}
use Rattle.numbers.specs.Below.{any_below}
use Rattle.shaping.specs.Rate.{rate_fit, samples_in_lem}
use Rattle.shaping.proofs.RateFacts.{two_rates}
use Rattle.protocol.specs.Refusals.{bare}
use Rattle.demodulator.specs.Fit.{record_fit_lem, unfit_number}
use Rattle.demodulator.specs.Calls.{timer_held}
use Rattle.desk.specs.Listing.{strange, unfit}
use Rattle.library_codes.specs.Codes.{refusal_code, flag_number}
use Rattle.library_layout.specs.Layout.{is_receiver, record_code_lem}
use Rattle.library_receiver.specs.Memory as Receiver
use Rattle.library_desk.specs.Passage.{stray_code}
use Rattle.library_desk.specs.Listing.{asked_code, seat_code}
use Rattle.library_desk.proofs.OpenAndClose.{asked_refused, asked_fit, asked_none, flag_few}

-- ---- the code, by its tests
module _ (flag : ℕ) (p : Receiver.Memory) (some : flag ≡ 0 → ⊥) (few : flag ≤ 1) where
  tested_by : (b : Bool) → leb 100 (asked_code p) ≡ b → seat_code flag p ≡ cond b (asked_code p) 0
  unfolding seat_code
  tested_by b e =
      let z = ne_eqb flag 0 some in
      let low = le-ltb 1 flag few in
      λ i. cond (z i) 0 (cond (low i) 101 (cond (e i) (asked_code p) 0))

  pub tested_refused : (code : ℕ) → code ≡ asked_code p → 100 ≤ code → code ≡ seat_code flag p
  tested_refused code is big = is ∙ sym (tested_by true (le-leb 100 (asked_code p) (rw is at big)))

  pub tested_fit : (code : ℕ) → code ≡ asked_code p → code < 100 → 0 ≡ seat_code flag p
  tested_fit code is small = sym (tested_by false (lt-leb 100 (asked_code p) (rw is at small)))

pub record Tells (flag : ℕ) (p : Receiver.Memory) : Type 0 where
  pub fifteen : eqb (seat_code flag p) 115 ≡ eqb (stray_code flag p.numbers) 115
  pub one : eqb (stray_code flag p.numbers) 115 ≡ false
      → eqb (seat_code flag p) 101 ≡ (eqb (stray_code flag p.numbers) 101 || unfit (eqb flag 1) (Receiver.record_in p))
  pub fit_rate : eqb (stray_code flag p.numbers) 115 ≡ false → eqb (stray_code flag p.numbers) 101 ≡ false → strange (eqb flag 1) (Receiver.record_in p) ≡ false

whole_rate : (n : ℕ) → rate_fit n ≡ true → rate_fit (n % 65536) ≡ true
whole_rate n e = ⊎_elim (λ (k : n ≡ 48000). rw k refl) (λ (k : n ≡ 24000). rw k refl) (two_rates n e)

-- true is not false
clash : {A : Type 0} → true ≡ false → A
clash e = let w : ◌≡◌ {A = ℕ} 1 0 = ap (λ (b : Bool). cond b 1 0) e in absurd (omega (arith, w))

module _ (p : Receiver.Memory) where
  abbrev n : List ℕ
  n = p.numbers

  -- an open seat, by the code of its numbers and by what the carrier query answers
  tells_as : (rc asked : ℕ) → record_code_lem n ≡ rc → asked_code p ≡ asked
      → eqb (cond (leb 100 asked) asked 0) 115 ≡ eqb rc 115
      → (eqb rc 115 ≡ false → eqb (cond (leb 100 asked) asked 0) 101 ≡ (eqb rc 101 || not (record_fit_lem (samples_in_lem (Receiver.record_in p).rate) (Receiver.record_in p))))
      → (eqb rc 115 ≡ false → eqb rc 101 ≡ false → not (rate_fit (Receiver.record_in p).rate) ≡ false) → Tells 1 p
  unfolding seat_code stray_code
  tells_as rc asked r a x y z = record {
    fifteen = (λ i. eqb (cond (leb 100 (a i)) (a i) 0) 115) ∙ x ∙ sym (λ i. eqb (r i) 115);
    one = λ e. (λ i. eqb (cond (leb 100 (a i)) (a i) 0) 101) ∙ y (sym (λ i. eqb (r i) 115) ∙ e)
        ∙ sym (λ i. eqb (r i) 101 || not (record_fit_lem (samples_in_lem (Receiver.record_in p).rate) (Receiver.record_in p)));
    fit_rate = λ e f. z (sym (λ i. eqb (r i) 115) ∙ e) (sym (λ i. eqb (r i) 101) ∙ f);
  }

  good_rate : rate_fit (get_or n 0 0) ≡ true → not (rate_fit (Receiver.record_in p).rate) ≡ false
  good_rate e = ap not (whole_rate (get_or n 0 0) e)

  code_at : (a b : Bool) → rate_fit (get_or n 0 0) ≡ a → is_receiver n ≡ b → record_code_lem n ≡ cond a (cond b 0 101) 115
  unfolding record_code_lem
  code_at a b e f = λ i. cond (e i) (cond (f i) 0 101) 115

  by_fit : (f : Bool) → record_code_lem n ≡ 0 → rate_fit (get_or n 0 0) ≡ true → record_fit_lem (samples_in_lem (Receiver.record_in p).rate) (Receiver.record_in p) ≡ f → Tells 1 p
  by_fit true z rate f =
      let held = timer_held (Receiver.record_in p).control.dcd in
      let small : cond (leb 100 (flag_number held)) (flag_number held) 0 ≡ 0 = ap (λ (b : Bool). cond b (flag_number held) 0) (lt-leb 100 (flag_number held) (flag_few held)) in
      tells_as 0 (flag_number held) z (asked_fit p z f) (ap (λ (k : ℕ). eqb k 115) small) (λ _. ap (λ (k : ℕ). eqb k 101) small ∙ sym (ap not f)) (λ _ _. good_rate rate)
  by_fit false z rate f =
      let one-is : refusal_code (bare (unfit_number (Receiver.record_in p))) ≡ 101 = ap (λ (b : Bool). refusal_code (bare (cond b 1 15))) (whole_rate (get_or n 0 0) rate) in
      tells_as 0 101 z (asked_refused p z f ∙ one-is) refl (λ _. sym (ap not f)) (λ _ _. good_rate rate)

  by_numbers : (a b : Bool) → rate_fit (get_or n 0 0) ≡ a → is_receiver n ≡ b → Tells 1 p
  by_numbers true true e f = by_fit (record_fit_lem (samples_in_lem (Receiver.record_in p).rate) (Receiver.record_in p)) (code_at true true e f) e refl
  by_numbers true false e f =
      let r = code_at true false e f in
      tells_as 101 101 r (asked_none p (ap (λ (k : ℕ). eqb k 0) r) ∙ r) refl (λ _. refl) (λ _ x. clash x)
  by_numbers false b e f =
      let r = code_at false b e f in
      tells_as 115 115 r (asked_none p (ap (λ (k : ℕ). eqb k 0) r) ∙ r) refl (λ x. clash x) (λ x _. clash x)

  pub seat_tells : (flag : ℕ) → Tells flag p
  unfolding seat_code stray_code
  seat_tells zero = record { fifteen = refl; one = λ _. refl; fit_rate = λ _ _. refl }
  seat_tells (suc zero) = by_numbers (rate_fit (get_or n 0 0)) (is_receiver n) refl refl
  seat_tells (suc (suc k)) =
      let far : ltb 1 (suc (suc k)) ≡ true = lt-ltb 1 (suc (suc k)) (omega arith) in
      let none : eqb (suc (suc k)) 0 ≡ false = ne_eqb (suc (suc k)) 0 (λ e. omega (arith, e)) in
      let other : eqb (suc (suc k)) 1 ≡ false = ne_eqb (suc (suc k)) 1 (λ e. omega (arith, e)) in
      let code : seat_code (suc (suc k)) p ≡ 101 = λ i. cond (none i) 0 (cond (far i) 101 (cond (leb 100 (asked_code p)) (asked_code p) 0)) in
      let stray : stray_code (suc (suc k)) n ≡ 101 = λ i. cond (far i) 101 (cond (eqb (suc (suc k)) 1) (record_code_lem n) 0) in
      record {
        fifteen = (λ i. eqb (code i) 115) ∙ sym (λ i. eqb (stray i) 115);
        one = λ _. (λ i. eqb (code i) 101) ∙ sym (λ i. eqb (stray i) 101 || unfit (eqb (suc (suc k)) 1) (Receiver.record_in p));
        fit_rate = λ _ x. clash (sym (λ i. eqb (stray i) 101) ∙ x);
      }

-- ---- any of the first k seats
or_none : (a b : Bool) → (a || b) ≡ false → (a ≡ false) × (b ≡ false)
or_none true b e = clash e
or_none false b e = (refl, e)

or_swap : (a b c d : Bool) → ((a || b) || (c || d)) ≡ ((a || c) || (b || d))
or_swap true b c d = refl
or_swap false true true d = refl
or_swap false true false d = refl
or_swap false false c d = refl

module _ (A B C U : ℕ → Bool) where
  pub any_split : ((s : ℕ) → A s ≡ false → C s ≡ (B s || U s)) → (k : ℕ) → any_below k A ≡ false → any_below k C ≡ (any_below k B || any_below k U)
  unfolding any_below
  any_split h zero e = refl
  any_split h (suc k) e =
      let o = or_none (any_below k A) (A k) e in
      let q = any_split h k o.0 in
      let x = h k o.1 in
      (λ i. q i || x i) ∙ or_swap (any_below k B) (any_below k U) (B k) (U k)

  pub any_none : ((s : ℕ) → A s ≡ false → B s ≡ false → C s ≡ false) → (k : ℕ) → any_below k A ≡ false → any_below k B ≡ false → any_below k C ≡ false
  unfolding any_below
  any_none h zero e f = refl
  any_none h (suc k) e f =
      let o = or_none (any_below k A) (A k) e in
      let u = or_none (any_below k B) (B k) f in
      let q = any_none h k o.0 u.0 in
      let x = h k o.1 u.1 in
      λ i. q i || x i

  pub any_same : ((s : ℕ) → A s ≡ B s) → (k : ℕ) → any_below k A ≡ any_below k B
  unfolding any_below
  any_same h zero = refl
  any_same h (suc k) = let q = any_same h k in let x = h k in λ i. q i || x i
