-- A search leaves a fit control fit, but that an age of 254 may come back as 255. Over p, the samples in a symbol, from 2 up: at 1 an age of 255 would leave no wait. Assumes nothing.
use Rattle.std.specs.Prelude.{Some}
use mathlib.Core.Path.{◌≡◌, refl, ap, subst}
use mathlib.Core.Logic.{◌⊎◌, inl, inr}
use mathlib.Core.Bool.{false}
use Prim.Native.Nat.{ℕ, ◌+◌, ◌-◌, ◌*◌, ◌^◌, ◌≤◌, ◌<◌}
use native.Mathlib.Nat.{eq-or-lt_of_le, le_refl}
use native.Mathlib.Omega.{arith}
use lib.Dec.{T, leb→le, le→leb}
use lib.Ieee.{Float, lt}
use Rattle.numbers.proofs.Tests.{holds}
use Rattle.protocol.specs.declared.Kind.{Kind}
use Rattle.protocol.specs.declared.Kind.TheVariants.{Lsf, Bert, Stream, Packet}
use Rattle.protocol.specs.declared.SyncBurst.{SyncBurst}
use Rattle.protocol.specs.declared.SyncBurst.TheVariants.{Frame, Preamble, EndOfTransmission}
use Rattle.decode.specs.Correlator.{correlation, matches, in_range}
use Rattle.decode.proofs.MatchFacts.{match_facts}
use Rattle.search.specs.declared.Candidate.{Candidate}
use Rattle.search.specs.declared.Control.{Control}
use Rattle.search.specs.TakenBurst.{TakenBurst, held_as, held_in, taken, aged}
use Rattle.search.specs.Search.{with_timer, with_candidate, rank, same_kind, age_of, end_after_lem, wait_after, marked, taking, carried, matched, missed, tried, passed, searched}
use Rattle.search.specs.Fit.{candidate_fit_lem, timer_fit_lem, held, wait_fit_lem, taken_fit_lem, kept_fit_lem, control_fit_lem}
use Rattle.search.proofs.HeldOrNot.{HeldOrNot, not_held, is_held, held_or_not}
use Rattle.search.proofs.Fitness.{age_most}
use Rattle.search.proofs.Clauses.{clauses, joined}
use Rattle.search.proofs.TurnFits.{taken_within}
use Rattle.search.proofs.AgeInPass.{by_test, carried_candidate, carried_sample, searched_sample, Passing, passing, tried_passing}
use Rattle.demodulator_laws.proofs.Grown.{with_age, taken_first, at_age_lem, taken_first_lem, Grown, fit_grown, grown_fit, taken_grown, aged_grown, taken_at_age, due_fit, wait_stays, wait_at_age, marked_fit, marked_kept}

-- a control as it would be at count 1, its candidate taken there
abbrev pub counted_first : Control → Control
counted_first c = record { candidate = taken_first c.candidate; wait = c.wait; dcd = c.dcd; owed = c.owed; sample = 1 }

-- fit but for an age of 255, that was 254
pub record Outgrown (p : ℕ) (before after : Control) : Type 0 where
  pub was : age_of before.candidate ≡ 254
  pub is : age_of after.candidate ≡ 255
  pub else_fit : T (control_fit_lem p (with_candidate (with_age 254 after.candidate) after))

-- a candidate that was taken where no sample had been counted: with 1 for its sample and for the count, all is fit
pub record Unnumbered (p : ℕ) (before after : Control) : Type 0 where
  pub was : before.sample ≡ 0
  pub holds : T (held after.candidate)
  pub else_fit : T (control_fit_lem p (counted_first after))

-- ---- the control, all but the upper end of an age
record Sound (p : ℕ) (c : Control) : Type 0 where
  timer : T (timer_fit_lem p c.dcd)
  candidate : Grown c.candidate
  wait : T (wait_fit_lem p c.wait c.candidate false)
  owed : c.owed ≡ false
  -- samples are numbered from 1
  taken : 1 ≤ c.sample → T (taken_fit_lem c.sample c.candidate)
  kept : T (kept_fit_lem c.wait)

sound_joined : (p : ℕ) (c : Control) → Sound p c → 1 ≤ c.sample → c.sample ≤ 2 ^ 63 → T (candidate_fit_lem c.candidate) → T (control_fit_lem p c)
sound_joined p c s one l t =
    joined p c
    (record {
      count = le→leb c.sample (2 ^ 63) l;
      timer = s.timer;
      candidate = t;
      wait = rw s.owed s.wait;
      reply = rw s.owed tt;
      taken = s.taken one;
      kept = s.kept;
    })

sound_aged : (p : ℕ) (c : Control) → Sound p c → 1 ≤ c.sample → c.sample ≤ 2 ^ 63 → T (control_fit_lem p (with_candidate (with_age 254 c.candidate) c))
sound_aged p c s one l =
    joined p (with_candidate (with_age 254 c.candidate) c)
    (record {
      count = le→leb c.sample (2 ^ 63) l;
      timer = s.timer;
      candidate = at_age_lem 1 254 (held_or_not c.candidate) tt s.candidate.values;
      wait = rw s.owed (wait_at_age p 254 c.wait (held_or_not c.candidate) s.wait);
      reply = rw s.owed tt;
      taken = taken_at_age 254 c.sample (held_or_not c.candidate) (s.taken one);
      kept = s.kept;
    })

sound_first : (p : ℕ) (c : Control) → Sound p c → T (candidate_fit_lem c.candidate) → T (control_fit_lem p (counted_first c))
sound_first p c s t =
    let first = taken_first_lem p c.wait (held_or_not c.candidate) in
    joined p (counted_first c)
    (record {
      count = tt;
      timer = s.timer;
      candidate = first.values t;
      wait = rw s.owed (first.waits s.wait);
      reply = rw s.owed tt;
      taken = first.taken;
      kept = s.kept;
    })

module _ (p : ℕ) (symbol : 2 ≤ p) (v : ℕ → Float) (range : (i : ℕ) → i < 8 → T (in_range (v i))) where
  carried_sound : (burst : SyncBurst) (c : Control) → c.sample ≤ 2 ^ 63 → Sound p c → Sound p (carried p burst v c)
  unfolding carried
  carried_sound burst c l s =
      by_test (Sound p) (matches burst v) (with_timer (Some (end_after_lem c.sample (24 * p))) c) c
      (λ e. record { timer = le→leb (end_after_lem c.sample (24 * p)) (2 ^ 63 + 384 * p) (omega arith); candidate = s.candidate; wait = s.wait; owed = s.owed; taken = s.taken; kept = s.kept })
      (λ e. s)

  missed_sound : (kind : Kind) {candidate : Candidate} → HeldOrNot candidate → (c : Control) → c.candidate ≡ candidate → c.sample ≤ 2 ^ 63 → age_of c.candidate ≤ 255 → Sound p c → Sound p (missed p kind (held_in candidate) c)
  unfolding missed
  missed_sound kind not_held c e l a s = s
  missed_sound kind (is_held u) c e l a s =
      let same : age_of c.candidate ≡ u.age = ap age_of e in
      let holding : T (held c.candidate) = rw e tt in
      let born : 1 ≤ u.age = omega (arith, s.candidate.born holding) in
      by_test (Sound p) (same_kind u.kind kind) (record { candidate = c.candidate; wait = wait_after p u.age; dcd = Some (end_after_lem c.sample (384 * p)); owed = c.owed; sample = c.sample }) c
      (λ t. record {
        timer = le→leb (end_after_lem c.sample (384 * p)) (2 ^ 63 + 384 * p) (omega arith);
        candidate = s.candidate;
        wait = due_fit p (record { left = 184 * p - u.age; age = u.age; replaced = false }) c.candidate (omega arith) (omega arith) holding;
        owed = s.owed;
        taken = s.taken;
        kept = le→leb 1 u.age born;
      })
      (λ t. s)

  -- a match: `new` is what the kind would take
  module _ (c : Control) (s : Sound p c) (new : TakenBurst) (young : Grown (held_as new)) (now : 1 ≤ c.sample → T (taken_fit_lem c.sample (held_as new))) where
    taking_sound : Sound p (taking new c)
    taking_sound = record {
      timer = s.timer;
      candidate = young;
      wait = wait_stays p (marked c.wait) c.candidate (held_as new) tt (marked_fit p c.wait c.candidate s.wait);
      owed = s.owed;
      taken = now;
      kept = marked_kept c.wait s.kept;
    }

    matched_sound : {candidate : Candidate} → HeldOrNot candidate → c.candidate ≡ candidate → Sound p (matched (held_in candidate) new c)
    unfolding matched
    matched_sound not_held e = taking_sound
    matched_sound (is_held t) e =
        by_test (Sound p) (lt t.diff new.diff) _ _
        (λ _. record {
          timer = s.timer;
          candidate = aged_grown t (subst Grown e s.candidate);
          wait = wait_stays p c.wait c.candidate (held_as (aged t)) tt s.wait;
          owed = s.owed;
          taken = λ one. subst (λ (o : Candidate). T (taken_fit_lem c.sample o)) e (s.taken one);
          kept = s.kept;
        })
        (λ _. taking_sound)

  -- as far as the pass has come, its ages and all else
  record Midway (n i : ℕ) (c : Control) : Type 0 where
    ages : Passing v n i c
    sound : Sound p c

  tried_midway : (n : ℕ) → n ≤ 254 → (kind : Kind) (c : Control) → Midway n (rank kind) c → Midway n (rank kind + 1) (tried p v kind c)
  unfolding tried
  tried_midway n small kind c s =
      record {
        ages = tried_passing p v range n kind c s.ages;
        sound =
            by_test (Sound p) (matches (Frame kind) v) _ _
            (λ e.
            let new : TakenBurst = taken kind (correlation (Frame kind) v) c.sample in
            matched_sound c s.sound new (taken_grown (correlation (Frame kind) v) (match_facts v range (Frame kind) (holds e)) kind c.sample)
            (λ one. taken_within c.sample new one (le_refl c.sample)) (held_or_not c.candidate) refl)
            (λ e. missed_sound kind (held_or_not c.candidate) c refl s.ages.count (omega (arith, s.ages.most)) s.sound);
      }

  passed_midway : (n : ℕ) → n ≤ 254 → (c : Control) → Midway n 0 c → Midway n 4 (passed p v c)
  unfolding passed
  passed_midway n small c s = tried_midway n small Packet _ (tried_midway n small Stream _ (tried_midway n small Bert _ (tried_midway n small Lsf c s)))

  carried_start : (n : ℕ) (burst : SyncBurst) (c : Control) → Midway n 0 c → age_of c.candidate ≤ n → Midway n 0 (carried p burst v c)
  carried_start n burst c s a =
      record {
        ages = passing v n _ (rw (carried_candidate p burst v c) a) (rw (carried_sample p burst v c) s.ages.count);
        sound = carried_sound burst c s.ages.count s.sound;
      }

  searched_midway : (c : Control) → age_of c.candidate ≤ 254 → c.sample ≤ 2 ^ 63 → Sound p c → Midway (age_of c.candidate) 4 (searched p v c)
  unfolding searched
  searched_midway c a l s =
      let n = age_of c.candidate in
      let start : Midway n 0 c = record { ages = passing v n c (le_refl n) l; sound = s } in
      let first = carried_start n Preamble c start (le_refl n) in
      passed_midway n a _ (carried_start n EndOfTransmission _ first (rw (carried_candidate p Preamble v c) (le_refl n)))

  module _ (c : Control) (fit : T (control_fit_lem p c)) (none : c.owed ≡ false) where
    abbrev d : Control
    d = searched p v c

    young : age_of c.candidate ≤ 254
    young = age_most (held_or_not c.candidate) (clauses p c fit).candidate

    end : Midway (age_of c.candidate) 4 d
    end =
        let s = clauses p c fit in
        searched_midway c young (leb→le c.sample (2 ^ 63) s.count)
        (record { timer = s.timer; candidate = fit_grown (held_or_not c.candidate) s.candidate; wait = rw none at s.wait; owed = none; taken = λ _. s.taken; kept = s.kept })

    -- of the search at a sample that was counted
    pub search_fits : 1 ≤ c.sample → T (control_fit_lem p d) ⊎ Outgrown p c d
    search_fits one =
        let most : age_of d.candidate ≤ 255 = omega (arith, end.ages.most, young) in
        let numbered : 1 ≤ d.sample = rw (searched_sample p v c) one in
        elim (eq-or-lt_of_le most) [
          | inl e ↦ inr (record { was = omega (arith, end.ages.most, young); is = e; else_fit = sound_aged p d end.sound numbered end.ages.count })
          | inr l ↦ inl (sound_joined p d end.sound numbered end.ages.count (grown_fit (held_or_not d.candidate) end.sound.candidate (omega arith)))
        ]

    -- and before the first, with no candidate held
    pub uncounted_fits : c.sample ≡ 0 → age_of c.candidate ≡ 0 → T (control_fit_lem p d) ⊎ Unnumbered p c d
    uncounted_fits zero unheld =
        let t = grown_fit (held_or_not d.candidate) end.sound.candidate (omega (arith, end.ages.most, unheld)) in
        by_candidate (held_or_not d.candidate) refl t
      where
        by_candidate : {candidate : Candidate} → HeldOrNot candidate → d.candidate ≡ candidate → T (candidate_fit_lem d.candidate) → T (control_fit_lem p d) ⊎ Unnumbered p c d
        by_candidate not_held e t =
            let s = end.sound in
            inl (joined p d
            (record { count = le→leb d.sample (2 ^ 63) end.ages.count; timer = s.timer; candidate = t; wait = rw s.owed s.wait; reply = rw s.owed tt; taken = rw e tt; kept = s.kept }))
        by_candidate (is_held u) e t = inr (record { was = zero; holds = rw e tt; else_fit = sound_first p d end.sound t })
