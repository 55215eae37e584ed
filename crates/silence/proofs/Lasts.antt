-- A timer that is held lasts to its end, while nothing matches that a search could hear. Over p and the table. Assumes nothing.
use Rattle.std.specs.Prelude.{Option, Some, None}
use mathlib.Core.Path.{◌≡◌, refl, sym, ap, ◌∙◌, subst}
use mathlib.Core.Logic.{inl, inr}
use mathlib.Core.Bool.{Bool, true, false, false≢true}
use Prim.Native.Nat.{ℕ, ◌+◌, ◌≤◌, ◌<◌}
use native.Mathlib.Omega.{arith}
use borrow.Author.Tests.{le-ltb}
use lib.Ieee.{Float}
use Rattle.numbers.proofs.Tests.{lt_or_le}
use Rattle.search.specs.declared.Candidate.{Candidate}
use Rattle.search.specs.declared.Candidate.TheVariants.{Nothing}
use Rattle.search.specs.declared.Waiting.{Waiting}
use Rattle.search.specs.declared.Control.{Control}
use Rattle.search.specs.declared.Reply.{Reply}
use Rattle.search.specs.declared.Reply.TheVariants.{Accepted, Rejected}
use Rattle.search.specs.TakenBurst.{held_in}
use Rattle.search.specs.Search.{searched}
use Rattle.search.specs.Turn.{cleared, owing, due_turn, comes_to, control_of, sampled, replied}
use Rattle.search.specs.Fit.{held}
use Rattle.search.proofs.HeldOrNot.{HeldOrNot, not_held, is_held, held_or_not}
use Rattle.search.proofs.SampleByWait.{sampled_free, sampled_rest, sampled_due}
use Rattle.search.proofs.Silent.{Unmatched, silent_search}
use Rattle.demodulator_run.proofs.Pass.{controlled}

-- no search before sample `deaf`: a wait lasts until then, and with none nothing is held
abbrev pub Deaf : ℕ → ℕ → Option Waiting → Candidate → Type 0
Deaf deaf n None candidate = (candidate ≡ Nothing) × (deaf < n)
Deaf deaf n (Some w) candidate = deaf < n + w.left

pub record Lasts (deaf end : ℕ) (c : Control) : Type 0 where
  pub waits : Deaf deaf c.sample c.wait c.candidate
  pub owing : c.owed ≡ true → c.wait ≡ None
  pub timer : c.sample ≤ end → c.dcd ≡ Some end

module _ (p deaf end : ℕ) (v : ℕ → Float) where
  -- ---- a search of nothing held
  searched_same : (c : Control) → c.candidate ≡ Nothing → Unmatched v → searched p v c ≡ c
  searched_same c e none = silent_search p v c none (ap held e)

  -- ---- a sample
  module _ (t : Option ℕ) (n : ℕ) (timer : n ≤ end → t ≡ Some end) (none : deaf < n + 1 → Unmatched v) where
    timer_next : n + 1 ≤ end → cleared (n + 1) t ≡ Some end
    unfolding cleared
    timer_next l = rw (timer (omega arith), le-ltb end (n + 1) l)

    quiet_lasts : deaf < n + 1 → Lasts deaf end (controlled Nothing None (cleared (n + 1) t) false (n + 1))
    quiet_lasts l = record { waits = (refl, l); owing = λ o. absurd (false≢true o); timer = timer_next }

    free_lasts : deaf < n → Lasts deaf end (control_of (sampled p v (controlled Nothing None t false n)))
    free_lasts l =
        let over : deaf < n + 1 = omega arith in
        subst (Lasts deaf end) (sym (ap control_of (sampled_free p v (controlled Nothing None t false n) refl)
        ∙ searched_same (controlled Nothing None (cleared (n + 1) t) false (n + 1)) refl (none over))) (quiet_lasts over)

    due_lasts : {candidate : Candidate} → HeldOrNot candidate → (w : Waiting) → deaf < n + 1
        → Lasts deaf end (control_of (comes_to p v (due_turn (held_in candidate) w (controlled Nothing None (cleared (n + 1) t) false (n + 1)))))
    unfolding due_turn
    due_lasts not_held w l = subst (Lasts deaf end) (sym (searched_same (controlled Nothing None (cleared (n + 1) t) false (n + 1)) refl (none l))) (quiet_lasts l)
    due_lasts (is_held u) w l = record { waits = (refl, l); owing = λ o. refl; timer = timer_next }

    waiting_lasts : (candidate : Candidate) (w : Waiting) → deaf < n + w.left → Lasts deaf end (control_of (sampled p v (controlled candidate (Some w) t false n)))
    waiting_lasts candidate w l = elim (lt_or_le 1 w.left) [
      | inl more ↦ subst (Lasts deaf end) (sym (ap control_of (sampled_rest p v (controlled candidate (Some w) t false n) w refl more)))
          (record { waits = omega arith; owing = λ o. absurd (false≢true o); timer = timer_next })
      | inr last ↦ subst (Lasts deaf end) (sym (ap control_of (sampled_due p v (controlled candidate (Some w) t false n) w refl last))) (due_lasts (held_or_not candidate) w (omega arith))
    ]

    by_wait : (wait : Option Waiting) (candidate : Candidate) → Deaf deaf n wait candidate → Lasts deaf end (control_of (sampled p v (controlled candidate wait t false n)))
    by_wait None candidate h = subst (λ (c : Candidate). Lasts deaf end (control_of (sampled p v (controlled c None t false n)))) (sym h.0) (free_lasts h.1)
    by_wait (Some w) candidate h = waiting_lasts candidate w h

  pub sampled_lasts : (c : Control) → Lasts deaf end c → c.owed ≡ false → (deaf < c.sample + 1 → Unmatched v) → Lasts deaf end (control_of (sampled p v c))
  sampled_lasts c L free none =
      subst (λ (o : Bool). Lasts deaf end (control_of (sampled p v (controlled c.candidate c.wait c.dcd o c.sample)))) (sym free)
      (by_wait c.dcd c.sample L.timer none c.wait c.candidate L.waits)

  -- ---- a reply
  free_waits : (c : Control) → Lasts deaf end c → c.owed ≡ true → (c.candidate ≡ Nothing) × (deaf < c.sample)
  free_waits c L o = subst (λ (w : Option Waiting). Deaf deaf c.sample w c.candidate) (L.owing o) L.waits

  pub replied_lasts : (r : Reply) (c : Control) → Lasts deaf end c → c.owed ≡ true → (deaf < c.sample → Unmatched v) → Lasts deaf end (replied p v r c)
  unfolding replied
  replied_lasts Accepted c L o none = record { waits = L.waits; owing = λ e. absurd (false≢true e); timer = L.timer }
  replied_lasts Rejected c L o none =
      let (e, l) = free_waits c L o in
      subst (Lasts deaf end) (sym (searched_same (owing false c) e (none l))) (record { waits = L.waits; owing = λ e. absurd (false≢true e); timer = L.timer })
