-- What a fit control is known to be, clause by clause. Assumes nothing.
use Rattle.std.specs.Prelude.{Option, Some}
use mathlib.Core.Path.{◌≡◌, refl, subst}
use mathlib.Core.Bool.{Bool, true, false, not, ◌&&◌}
use Prim.Native.Nat.{ℕ, ◌+◌, ◌*◌, ◌^◌, ◌≤◌, ◌<◌}
use lib.Dec.{T, leb, ltb, leb→le, ltb→lt, lit≤}
use lib.Ieee.Bits.{is_true, is_false}
use lib.Ieee.Fits.{and_l, and_r}
use Rattle.numbers.proofs.Tests.{holds}
use Rattle.search.specs.declared.Candidate.{Candidate}
use Rattle.search.specs.declared.Candidate.TheVariants.{Nothing}
use Rattle.search.specs.declared.Waiting.{Waiting}
use Rattle.search.specs.declared.Control.{Control}
use Rattle.search.specs.TakenBurst.{TakenBurst, held_as}
use Rattle.search.specs.Search.{age_of}
use Rattle.search.specs.Fit.{timer_fit_lem, age_fit, diff_fit, gain_fit, shift_fit, candidate_fit_lem, held, wait_fit_lem, reply_fit, taken_fit_lem, kept_fit_lem, control_fit_lem}
use Rattle.search.proofs.HeldOrNot.{HeldOrNot, not_held, is_held, held_or_not}
use Rattle.search.proofs.Clauses.{clauses}

-- ---- the facts
pub record HeldFacts (t : TakenBurst) : Type 0 where
  pub age_from : 1 ≤ t.age
  pub age_to : t.age ≤ 254

pub record WaitFacts (p left : ℕ) (candidate : Candidate) (owed : Bool) : Type 0 where
  pub from : 1 ≤ left
  pub to : left < 184 * p
  pub holding : held candidate ≡ true
  pub no_reply : owed ≡ false

pub record ControlFacts (p : ℕ) (c : Control) : Type 0 where
  pub count : c.sample ≤ 2 ^ 63
  pub timer : (end : ℕ) → c.dcd ≡ Some end → end ≤ 2 ^ 63 + 384 * p
  pub candidate : (t : TakenBurst) → c.candidate ≡ held_as t → HeldFacts t
  pub wait : (w : Waiting) → c.wait ≡ Some w → WaitFacts p w.left c.candidate c.owed
  pub reply : c.owed ≡ true → c.candidate ≡ Nothing
  pub taken : (t : TakenBurst) → c.candidate ≡ held_as t → (1 ≤ t.taken_at) × (t.taken_at ≤ c.sample)
  pub kept : (w : Waiting) → c.wait ≡ Some w → 1 ≤ w.age

-- ---- tests
pub both : (a b : Bool) → T (a && b) → T a × T b
both a b t = (and_l a b t, and_r a b t)

-- ---- each clause
pub held_facts : (t : TakenBurst) → T (candidate_fit_lem (held_as t)) → HeldFacts t
unfolding candidate_fit_lem
held_facts t fit =
    let three = and_l (age_fit t.age && diff_fit t.diff && gain_fit t.gain) (shift_fit t.shift) fit in
    let two = and_l (age_fit t.age && diff_fit t.diff) (gain_fit t.gain) three in
    let ages = both (leb 1 t.age) (leb t.age 254) (and_l (age_fit t.age) (diff_fit t.diff) two) in
    record { age_from = leb→le 1 t.age ages.0; age_to = leb→le t.age 254 ages.1 }

wait_facts : (p : ℕ) (w : Waiting) (candidate : Candidate) (owed : Bool) → T (wait_fit_lem p (Some w) candidate owed) → WaitFacts p w.left candidate owed
unfolding wait_fit_lem
wait_facts p w candidate owed t =
    let all = both (leb 1 w.left && ltb w.left (184 * p) && held candidate) (not owed) t in
    let three = both (leb 1 w.left && ltb w.left (184 * p)) (held candidate) all.0 in
    let two = both (leb 1 w.left) (ltb w.left (184 * p)) three.0 in
    record {
      from = leb→le 1 w.left two.0;
      to = ltb→lt w.left (184 * p) two.1;
      holding = is_true (held candidate) three.1;
      no_reply = is_false owed all.1;
    }

reply_fact : (owed : Bool) {candidate : Candidate} → HeldOrNot candidate → T (reply_fit owed candidate) → owed ≡ true → candidate ≡ Nothing
reply_fact true not_held t e = refl
reply_fact true (is_held u) t e = absurd t
reply_fact false held t e = absurd (holds e)

pub taken_fact : (count : ℕ) (t : TakenBurst) → T (taken_fit_lem count (held_as t)) → (1 ≤ t.taken_at) × (t.taken_at ≤ count)
taken_fact count t fit =
    let numbers = both (leb 1 t.taken_at) (leb t.taken_at count) fit in
    (leb→le 1 t.taken_at numbers.0, leb→le t.taken_at count numbers.1)

-- ---- all of them
pub control_facts : (p : ℕ) (c : Control) → T (control_fit_lem p c) → ControlFacts p c
control_facts p c t =
    let s = clauses p c t in
    record {
      count = leb→le c.sample (2 ^ 63) s.count;
      timer = λ end e. leb→le end (2 ^ 63 + 384 * p) (subst (λ (o : Option ℕ). T (timer_fit_lem p o)) e s.timer);
      candidate = λ t e. held_facts t (subst (λ (o : Candidate). T (candidate_fit_lem o)) e s.candidate);
      wait = λ w e. wait_facts p w c.candidate c.owed (subst (λ (o : Option Waiting). T (wait_fit_lem p o c.candidate c.owed)) e s.wait);
      reply = reply_fact c.owed (held_or_not c.candidate) s.reply;
      taken = λ t e. taken_fact c.sample t (subst (λ (o : Candidate). T (taken_fit_lem c.sample o)) e s.taken);
      kept = λ w e. leb→le 1 w.age (subst (λ (o : Option Waiting). T (kept_fit_lem o)) e s.kept);
    }

pub age_most : {candidate : Candidate} → HeldOrNot candidate → T (candidate_fit_lem candidate) → age_of candidate ≤ 254
age_most not_held fit = lit≤ tt
age_most (is_held t) fit = (held_facts t fit).age_to
