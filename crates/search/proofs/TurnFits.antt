-- A fit control stays fit while a sample is counted, and where a wait ends. Assumes nothing.
use Rattle.std.specs.Prelude.{Option, Some, None}
use mathlib.Core.Bool.{Bool, true, false, not, ◌&&◌}
use Prim.Native.Nat.{ℕ, ◌+◌, ◌^◌, ◌≤◌, ◌<◌}
use native.Mathlib.Omega.{arith}
use lib.Dec.{T, leb, ltb, le→leb}
use lib.Ieee.Fits.{and_i}
use Rattle.search.specs.declared.Candidate.{Candidate}
use Rattle.search.specs.declared.Control.{Control}
use Rattle.search.specs.Turn.{cleared, counted, freed, owing}
use Rattle.search.specs.TakenBurst.{TakenBurst, held_as}
use Rattle.search.specs.Fit.{timer_fit_lem, candidate_fit_lem, wait_fit_lem, taken_fit_lem, control_fit_lem}
use Rattle.search.proofs.HeldOrNot.{HeldOrNot, not_held, is_held, held_or_not}
use Rattle.search.proofs.Clauses.{clauses, joined}
use Rattle.search.proofs.Fitness.{taken_fact}
use Rattle.search.proofs.AgeInPass.{by_test}

-- ---- the timer
pub cleared_fit : (p count : ℕ) (timer : Option ℕ) → T (timer_fit_lem p timer) → T (timer_fit_lem p (cleared count timer))
unfolding cleared
cleared_fit p count None t = tt
cleared_fit p count (Some end) t = by_test (λ (o : Option ℕ). T (timer_fit_lem p o)) (ltb end count) None (Some end) (λ e. tt) (λ e. t)

-- ---- the candidate: the count rises, so a taken-at stays within it
pub taken_within : (count : ℕ) (t : TakenBurst) → 1 ≤ t.taken_at → t.taken_at ≤ count → T (taken_fit_lem count (held_as t))
taken_within count t from to = and_i (leb 1 t.taken_at) (leb t.taken_at count) (le→leb 1 t.taken_at from) (le→leb t.taken_at count to)

pub taken_later : (count later : ℕ) → count ≤ later → {candidate : Candidate} → HeldOrNot candidate → T (taken_fit_lem count candidate) → T (taken_fit_lem later candidate)
taken_later count later h not_held t = tt
taken_later count later h (is_held u) t = let within = taken_fact count u t in taken_within later u within.0 (omega (arith, within.1))

-- ---- a reply
none_held : (owed : Bool) → T (not (owed && false))
none_held true = tt
none_held false = tt

-- ---- the control
module _ (p : ℕ) (c : Control) (fit : T (control_fit_lem p c)) where
  pub counted_fit : c.sample < 2 ^ 63 → T (control_fit_lem p (counted c))
  counted_fit l =
      let s = clauses p c fit in
      joined p (counted c)
      (record {
        count = le→leb (c.sample + 1) (2 ^ 63) (omega arith);
        timer = cleared_fit p (c.sample + 1) c.dcd s.timer;
        candidate = s.candidate;
        wait = s.wait;
        reply = s.reply;
        taken = taken_later c.sample (c.sample + 1) (omega arith) (held_or_not c.candidate) s.taken;
        kept = s.kept;
      })

  -- whether a reply is then owed or not
  pub freed_fit : (owed : Bool) → T (control_fit_lem p (owing owed (freed c)))
  freed_fit owed =
      let s = clauses p c fit in
      joined p (owing owed (freed c))
      (record { count = s.count; timer = s.timer; candidate = unfold candidate_fit_lem in tt; wait = unfold wait_fit_lem in tt; reply = none_held owed; taken = tt; kept = tt })
