-- A candidate that is fit but for the upper end of its age: what a match makes of one, and what a wait asks of one. Assumes nothing.
use Rattle.std.specs.Prelude.{Option, Some, None}
use mathlib.Core.Bool.{Bool, true, false, ◌&&◌}
use Prim.Native.Nat.{ℕ, ◌*◌, ◌≤◌, ◌<◌}
use native.Mathlib.Omega.{arith}
use lib.Dec.{T, leb, ltb, le→leb, lt→ltb}
use lib.Ieee.{Float, binary32, of_bits, lt, le}
use lib.Ieee.Fits.{and_i, and_l}
use Rattle.protocol.specs.declared.Kind.{Kind}
use Rattle.decode.specs.declared.Correlation.{Correlation}
use Rattle.decode.specs.Correlator.{zero32, least_gain, threshold}
use Rattle.decode.proofs.MatchFacts.{MatchFacts}
use Rattle.search.specs.declared.Candidate.{Candidate}
use Rattle.search.specs.declared.Candidate.TheVariants.{Nothing}
use Rattle.search.specs.declared.Waiting.{Waiting}
use Rattle.search.specs.TakenBurst.{TakenBurst, held_as, held_in, taken, at_age, aged}
use Rattle.search.specs.Search.{age_of, marked}
use Rattle.search.specs.Fit.{age_fit, diff_fit, gain_fit, shift_fit, candidate_fit_lem, held, wait_fit_lem, taken_fit_lem, kept_fit_lem}
use Rattle.search.proofs.HeldOrNot.{HeldOrNot, not_held, is_held}
use Rattle.search.proofs.Fitness.{held_facts}

-- a candidate as it would be at another age
abbrev pub with_age : ℕ → Candidate → Candidate
with_age n candidate = elim (held_in candidate) [ None ↦ Nothing | Some t ↦ held_as (at_age n t) ]

-- taken at another sample
abbrev pub taken_as : ℕ → TakenBurst → TakenBurst
taken_as count t = record { kind = t.kind; age = t.age; diff = t.diff; gain = t.gain; shift = t.shift; taken_at = count }

-- as it would be if it were taken at sample 1
abbrev pub taken_first : Candidate → Candidate
taken_first candidate = elim (held_in candidate) [ None ↦ Nothing | Some t ↦ held_as (taken_as 1 t) ]

-- ---- a candidate's clauses, its age first
first_anew : (a a' b c d : Bool) → T a' → T (a && b && c && d) → T (a' && b && c && d)
first_anew a false b c d u t = absurd u
first_anew false true b c d u t = absurd t
first_anew true true b c d u t = t

age_fit_lem : (n : ℕ) → 1 ≤ n → n ≤ 254 → T (age_fit n)
age_fit_lem n a b = and_i (leb 1 n) (leb n 254) (le→leb 1 n a) (le→leb n 254 b)

pub at_age_lem : (m n : ℕ) {candidate : Candidate} → HeldOrNot candidate → T (age_fit n) → T (candidate_fit_lem (with_age m candidate)) → T (candidate_fit_lem (with_age n candidate))
unfolding candidate_fit_lem
at_age_lem m n not_held a t = tt
at_age_lem m n (is_held u) a t = first_anew (age_fit m) (age_fit n) (diff_fit u.diff) (gain_fit u.gain) (shift_fit u.shift) a t

-- another age leaves the sample at which it was taken
pub taken_at_age : (n count : ℕ) {candidate : Candidate} → HeldOrNot candidate → T (taken_fit_lem count candidate) → T (taken_fit_lem count (with_age n candidate))
taken_at_age n count not_held t = t
taken_at_age n count (is_held u) t = t

-- as another number leaves all else
pub record TakenFirst (p : ℕ) (wait : Option Waiting) (candidate : Candidate) : Type 0 where
  pub values : T (candidate_fit_lem candidate) → T (candidate_fit_lem (taken_first candidate))
  pub taken : T (taken_fit_lem 1 (taken_first candidate))
  pub waits : T (wait_fit_lem p wait candidate false) → T (wait_fit_lem p wait (taken_first candidate) false)

pub taken_first_lem : (p : ℕ) (wait : Option Waiting) {candidate : Candidate} → HeldOrNot candidate → TakenFirst p wait candidate
unfolding candidate_fit_lem wait_fit_lem
taken_first_lem p wait not_held = record { values = λ t. t; taken = tt; waits = λ t. t }
taken_first_lem p None (is_held u) = record { values = λ t. t; taken = tt; waits = λ t. tt }
taken_first_lem p (Some w) (is_held u) = record { values = λ t. t; taken = tt; waits = λ t. t }

-- all but the upper end of the age
pub record Grown (candidate : Candidate) : Type 0 where
  pub values : T (candidate_fit_lem (with_age 1 candidate))
  pub born : T (held candidate) → 1 ≤ age_of candidate

pub fit_grown : {candidate : Candidate} → HeldOrNot candidate → T (candidate_fit_lem candidate) → Grown candidate
fit_grown not_held t = record { values = t; born = λ h. absurd h }
fit_grown (is_held u) t = record { values = at_age_lem u.age 1 (is_held u) tt t; born = λ h. (held_facts u t).age_from }

pub grown_fit : {candidate : Candidate} → HeldOrNot candidate → Grown candidate → age_of candidate ≤ 254 → T (candidate_fit_lem candidate)
unfolding candidate_fit_lem
grown_fit not_held g l = tt
grown_fit (is_held u) g l = at_age_lem 1 u.age (is_held u) (age_fit_lem u.age (g.born tt) l) g.values

-- ---- after a match
module _ (m : Correlation) {low high : Float} (facts : MatchFacts m low high) where
  pub taken_grown : (kind : Kind) (count : ℕ) → Grown (held_as (taken kind m count))
  unfolding candidate_fit_lem
  taken_grown kind count =
      record {
        values =
            and_i (age_fit 1 && diff_fit m.diff && gain_fit m.gain) (shift_fit m.shift)
            (and_i (age_fit 1 && diff_fit m.diff) (gain_fit m.gain)
            (and_i (age_fit 1) (diff_fit m.diff) tt (and_i (le zero32 m.diff) (lt m.diff threshold) facts.diff_least facts.diff_below))
            (and_i (le least_gain m.gain) (le m.gain (of_bits binary32 0x4974_2400)) facts.gain_least facts.gain_most))
            facts.shift_range;
        born = λ h. omega arith;
      }

pub aged_grown : (t : TakenBurst) → Grown (held_as t) → Grown (held_as (aged t))
aged_grown t g = record { values = g.values; born = λ h. omega arith }

-- ---- the wait
pub due_fit : (p : ℕ) (w : Waiting) (candidate : Candidate) → 1 ≤ w.left → w.left < 184 * p → T (held candidate) → T (wait_fit_lem p (Some w) candidate false)
unfolding wait_fit_lem
due_fit p w candidate a b h =
    and_i (leb 1 w.left && ltb w.left (184 * p) && held candidate) true
    (and_i (leb 1 w.left && ltb w.left (184 * p)) (held candidate) (and_i (leb 1 w.left) (ltb w.left (184 * p)) (le→leb 1 w.left a) (lt→ltb w.left (184 * p) b)) h)
    tt

-- nor is its mark
pub marked_fit : (p : ℕ) (wait : Option Waiting) (candidate : Candidate) → T (wait_fit_lem p wait candidate false) → T (wait_fit_lem p (marked wait) candidate false)
unfolding wait_fit_lem marked
marked_fit p None candidate t = tt
marked_fit p (Some w) candidate t = t

pub marked_kept : (wait : Option Waiting) → T (kept_fit_lem wait) → T (kept_fit_lem (marked wait))
unfolding marked
marked_kept None t = tt
marked_kept (Some w) t = t

-- which candidate is held is of no account to it
pub wait_stays : (p : ℕ) (wait : Option Waiting) (candidate other : Candidate) → T (held other) → T (wait_fit_lem p wait candidate false) → T (wait_fit_lem p wait other false)
unfolding wait_fit_lem
wait_stays p None candidate other h t = tt
wait_stays p (Some w) candidate other h t =
    let three = and_l (leb 1 w.left && ltb w.left (184 * p) && held candidate) true t in
    and_i (leb 1 w.left && ltb w.left (184 * p) && held other) true
    (and_i (leb 1 w.left && ltb w.left (184 * p)) (held other) (and_l (leb 1 w.left && ltb w.left (184 * p)) (held candidate) three) h)
    tt

pub wait_at_age : (p n : ℕ) (wait : Option Waiting) {candidate : Candidate} → HeldOrNot candidate → T (wait_fit_lem p wait candidate false) → T (wait_fit_lem p wait (with_age n candidate) false)
wait_at_age p n wait not_held t = t
wait_at_age p n wait (is_held u) t = wait_stays p wait (held_as u) (held_as (at_age n u)) tt t
