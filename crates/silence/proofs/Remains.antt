-- What remains of earlier samples where nothing matches after sample m: a candidate becomes a wait, the wait ends, and the timer runs out. Over p and any values.
-- Assumes nothing.
use Rattle.std.specs.Prelude.{Option, Some, None}
use mathlib.Core.Path.{◌≡◌, refl, sym, ap, ◌∙◌, subst}
use mathlib.Core.Logic.{inl, inr}
use mathlib.Core.Bool.{Bool, true, false, true≢false, false≢true}
use Prim.Native.Nat.{ℕ, ◌+◌, ◌*◌, ◌^◌, ◌≤◌, ◌<◌}
use native.Mathlib.Omega.{arith}
use borrow.Author.Tests.{ltb-false}
use lib.Dec.{ltb}
use lib.Ieee.{Float}
use Rattle.numbers.proofs.Tests.{lt_or_le}
use Rattle.protocol.specs.declared.Kind.{Kind}
use Rattle.protocol.specs.declared.SyncBurst.TheVariants.{Frame}
use Rattle.search.specs.declared.Candidate.{Candidate}
use Rattle.search.specs.declared.Candidate.TheVariants.{Nothing}
use Rattle.search.specs.declared.Waiting.{Waiting}
use Rattle.search.specs.declared.Control.{Control}
use Rattle.search.specs.declared.Reply.{Reply}
use Rattle.search.specs.declared.Reply.TheVariants.{Accepted, Rejected}
use Rattle.search.specs.TakenBurst.{TakenBurst, held_as, held_in}
use Rattle.search.specs.Search.{end_after_lem, wait_after, searched}
use Rattle.search.specs.Turn.{cleared, due_turn, comes_to, control_of, sampled, replied}
use Rattle.search.specs.Fit.{held}
use Rattle.search.proofs.AgeInPass.{by_test}
use Rattle.search.proofs.HeldOrNot.{HeldOrNot, not_held, is_held, held_or_not}
use Rattle.search.proofs.SampleByWait.{sampled_free, sampled_rest, sampled_due}
use Rattle.search.proofs.Silent.{Unmatched, silent_search}
use Rattle.demodulator_run.proofs.Pass.{controlled}
use Rattle.silence.proofs.SearchBounds.{DueBy, EndsWithin, Bounded, searched_bounded, failed}

-- a candidate is held, and no wait
abbrev pub is_open : Option Waiting → Candidate → Bool
is_open None candidate = held candidate
is_open (Some w) candidate = false

pub record Remains (p m : ℕ) (c : Control) : Type 0 where
  pub count : c.sample ≤ 2 ^ 63
  pub owing : c.owed ≡ true → (c.candidate ≡ Nothing) × (c.wait ≡ None) × (c.sample ≤ m + 2 + 184 * p)
  pub wait : DueBy c.sample (m + 1 + 184 * p) c.wait
  pub lone : is_open c.wait c.candidate ≡ true → c.sample ≤ m
  pub timer : EndsWithin c.sample (m + 1 + 384 * p) c.dcd

-- ---- a larger m
due_later : (n a b : ℕ) (w : Option Waiting) → a ≤ b → DueBy n a w → DueBy n b w
due_later n a b None l h = tt
due_later n a b (Some w) l h = omega arith

ends_later : (n a b : ℕ) (t : Option ℕ) → a ≤ b → EndsWithin n a t → EndsWithin n b t
ends_later n a b None l h = tt
ends_later n a b (Some end) l h = (h.0, omega (arith, h.1))

pub remains_later : (p m k : ℕ) (c : Control) → m ≤ k → Remains p m c → Remains p k c
remains_later p m k c l R = record {
  count = R.count;
  owing = λ e. let (a, b, d) = R.owing e in (a, b, omega arith);
  wait = due_later c.sample (m + 1 + 184 * p) (k + 1 + 184 * p) c.wait (omega arith) R.wait;
  lone = λ e. let h = R.lone e in omega arith;
  timer = ends_later c.sample (m + 1 + 384 * p) (k + 1 + 384 * p) c.dcd (omega arith) R.timer;
}

-- "clear the carrier timer if the count is above its end"
cleared_within : (n high : ℕ) (t : Option ℕ) → EndsWithin n high t → EndsWithin (n + 1) high (cleared (n + 1) t)
unfolding cleared
cleared_within n high None h = tt
cleared_within n high (Some end) h =
    by_test (EndsWithin (n + 1) high) (ltb end (n + 1)) None (Some end) (λ e. tt) (λ e. (ltb-false end (n + 1) e, h.1))

module _ (p m : ℕ) (v : ℕ → Float) where
  -- ---- a search with no wait held
  module _ (d : Option ℕ) (n : ℕ) (few : n ≤ 2 ^ 63) (timer : EndsWithin n (m + 1 + 384 * p) d) (none : m < n → Unmatched v) where
    bounded_remains : (c : Control) → n ≤ m → (far : n + 384 * p ≤ m + 1 + 384 * p) → Bounded p n (m + 1 + 384 * p) few far c → Remains p m c
    bounded_remains c under far B =
        let e = B.count in
        record {
          count = omega arith;
          owing = λ o. absurd (true≢false (sym o ∙ B.owed));
          wait = rw e (due_later n (n + 184 * p) (m + 1 + 184 * p) c.wait (omega arith) B.wait);
          lone = λ o. omega arith;
          timer = rw e B.timer;
        }

    none_remains : Remains p m (controlled Nothing None d false n)
    none_remains = record { count = few; owing = λ o. absurd (false≢true o); wait = tt; lone = λ o. absurd (false≢true o); timer = timer }

    failed_remains : (t : TakenBurst) → n ≤ m + 1 → Remains p m (controlled (held_as t) (wait_after p t.age) (Some (end_after_lem n (384 * p))) false n)
    failed_remains t l = record {
      count = few;
      owing = λ o. absurd (false≢true o);
      wait = omega arith;
      lone = λ o. absurd (false≢true o);
      timer = (omega arith, omega arith);
    }

    searched_remains : {candidate : Candidate} → HeldOrNot candidate → (held candidate ≡ true → n ≤ m + 1) → Remains p m (searched p v (controlled candidate None d false n))
    searched_remains {candidate} h one = elim (lt_or_le m n) [
      | inl over ↦ past h one (none over)
      | inr under ↦
          let far : n + 384 * p ≤ m + 1 + 384 * p = omega arith in
          bounded_remains _ under far (searched_bounded p n (m + 1 + 384 * p) few far v _ (record { count = refl; owed = refl; wait = tt; timer = timer }))
    ]
      where
        past : {c : Candidate} → HeldOrNot c → (held c ≡ true → n ≤ m + 1) → Unmatched v → Remains p m (searched p v (controlled c None d false n))
        past not_held one u = subst (Remains p m) (sym (silent_search p v (controlled Nothing None d false n) u refl)) none_remains
        past (is_held t) one u = subst (Remains p m) (sym (failed p v (λ (k : Kind). u (Frame k)) t d false n)) (failed_remains t (one refl))

  -- ---- a sample
  module _ (n : ℕ) (t : Option ℕ) (below : n < 2 ^ 63) (timer : EndsWithin n (m + 1 + 384 * p) t) (none : m < n + 1 → Unmatched v) where
    timer_next : EndsWithin (n + 1) (m + 1 + 384 * p) (cleared (n + 1) t)
    timer_next = cleared_within n (m + 1 + 384 * p) t timer

    free_remains : {candidate : Candidate} → HeldOrNot candidate → (held candidate ≡ true → n ≤ m) → Remains p m (control_of (sampled p v (controlled candidate None t false n)))
    free_remains {candidate} h lone =
        subst (λ (c : Control). Remains p m c) (sym (ap control_of (sampled_free p v (controlled candidate None t false n) refl)))
        (searched_remains (cleared (n + 1) t) (n + 1) (omega arith) timer_next none h (λ e. let u = lone e in omega arith))

    due_remains : {candidate : Candidate} → HeldOrNot candidate → (w : Waiting) → n ≤ m + 1 + 184 * p
        → Remains p m (control_of (comes_to p v (due_turn (held_in candidate) w (controlled Nothing None (cleared (n + 1) t) false (n + 1)))))
    unfolding due_turn
    due_remains not_held w l = searched_remains (cleared (n + 1) t) (n + 1) (omega arith) timer_next none not_held (λ e. absurd (false≢true e))
    due_remains (is_held u) w l = record {
      count = omega arith;
      owing = λ o. (refl, refl, omega arith);
      wait = tt;
      lone = λ o. absurd (false≢true o);
      timer = timer_next;
    }

    waiting_remains : {candidate : Candidate} → HeldOrNot candidate → (w : Waiting) → n + w.left ≤ m + 1 + 184 * p
        → Remains p m (control_of (sampled p v (controlled candidate (Some w) t false n)))
    waiting_remains {candidate} h w l = elim (lt_or_le 1 w.left) [
      | inl more ↦ subst (Remains p m) (sym (ap control_of (sampled_rest p v (controlled candidate (Some w) t false n) w refl more)))
          (record { count = omega arith; owing = λ o. absurd (false≢true o); wait = omega arith; lone = λ o. absurd (false≢true o); timer = timer_next })
      | inr last ↦ subst (Remains p m) (sym (ap control_of (sampled_due p v (controlled candidate (Some w) t false n) w refl last))) (due_remains h w (omega arith))
    ]

    by_wait : (wait : Option Waiting) {candidate : Candidate} → HeldOrNot candidate → DueBy n (m + 1 + 184 * p) wait → (is_open wait candidate ≡ true → n ≤ m)
        → Remains p m (control_of (sampled p v (controlled candidate wait t false n)))
    by_wait None h l lone = free_remains h lone
    by_wait (Some w) h l lone = waiting_remains h w l

  pub sampled_remains : (c : Control) → Remains p m c → c.owed ≡ false → c.sample < 2 ^ 63 → (m < c.sample + 1 → Unmatched v) → Remains p m (control_of (sampled p v c))
  sampled_remains c R no_reply below none =
      subst (λ (o : Bool). Remains p m (control_of (sampled p v (controlled c.candidate c.wait c.dcd o c.sample)))) (sym no_reply)
      (by_wait c.sample c.dcd below R.timer none c.wait (held_or_not c.candidate) R.wait R.lone)

  -- ---- a reply
  pub replied_remains : (r : Reply) (c : Control) → Remains p m c → c.owed ≡ true → (m < c.sample → Unmatched v) → Remains p m (replied p v r c)
  unfolding replied
  replied_remains Accepted c R o none = record { count = R.count; owing = λ e. absurd (false≢true e); wait = R.wait; lone = R.lone; timer = R.timer }
  replied_remains Rejected c R o none =
      let (a, b, l) = R.owing o in
      subst (λ (k : Candidate). Remains p m (searched p v (controlled k c.wait c.dcd false c.sample))) (sym a)
      (subst (λ (w : Option Waiting). Remains p m (searched p v (controlled Nothing w c.dcd false c.sample))) (sym b)
      (searched_remains c.dcd c.sample R.count R.timer none not_held (λ e. absurd (false≢true e))))

-- ---- in the end: 384p + 2 samples after m nothing is held but the count
module _ (p m n : ℕ) (some : 1 ≤ p) (late : m + 384 * p + 2 ≤ n) where
  no_wait : (wait : Option Waiting) → DueBy n (m + 1 + 184 * p) wait → wait ≡ None
  no_wait None h = refl
  no_wait (Some w) h = absurd (omega arith)

  no_timer : (t : Option ℕ) → EndsWithin n (m + 1 + 384 * p) t → t ≡ None
  no_timer None h = refl
  no_timer (Some end) h = absurd (omega (arith, h.0, h.1))

  no_candidate : {candidate : Candidate} → HeldOrNot candidate → (held candidate ≡ true → n ≤ m) → candidate ≡ Nothing
  no_candidate not_held h = refl
  no_candidate (is_held t) h = absurd (let u = h refl in omega arith)

  no_reply : (owed : Bool) → (owed ≡ true → n ≤ m + 2 + 184 * p) → owed ≡ false
  no_reply false h = refl
  no_reply true h = absurd (let u = h refl in omega arith)

pub nothing_remains : (p m : ℕ) (c : Control) → 1 ≤ p → Remains p m c → m + 384 * p + 2 ≤ c.sample → c ≡ controlled Nothing None None false c.sample
nothing_remains p m c some R late =
    let w : c.wait ≡ None = no_wait p m c.sample some late c.wait R.wait in
    let t : c.dcd ≡ None = no_timer p m c.sample some late c.dcd R.timer in
    let k : c.candidate ≡ Nothing = no_candidate p m c.sample some late (held_or_not c.candidate) (λ h. R.lone (ap (λ (x : Option Waiting). is_open x c.candidate) w ∙ h)) in
    let o : c.owed ≡ false = no_reply p m c.sample some late c.owed (λ e. (R.owing e).2) in
    λ i. controlled (k i) (w i) (t i) (o i) c.sample
