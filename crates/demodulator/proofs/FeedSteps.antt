-- A stretch, sample by sample: what is left to be fed after a step, and that the promise fixes the answer. Assumes nothing.
use Rattle.std.specs.Prelude.{Option, Some, None, Result, Ok, Err}
use Rattle.demodulator.specs.declared.Offer.{Offer}
use mathlib.Core.Path.{◌≡◌, refl, sym, ap, ◌∙◌, subst}
use mathlib.Core.Bool.{Bool, true, false, not, cond}
use mathlib.Core.List.{List, [], ◌∷◌}
use Prim.Native.Nat.{ℕ, zero, suc, ◌+◌, ◌^◌, ◌≤◌, ◌<◌}
use native.Mathlib.Omega.{arith}
use native.Mathlib.Nat.{le_of_suc-le-suc, not-suc-le-zero}
use lib.Dec.{T, lit≤, eqb, ltb}
use lib.IntN.{ℤ}
use lib.ListN.{length, get_or, drop}
use lib.Ieee.{Float}
use Rattle.numbers.proofs.Answer.{same_answer}
use Rattle.shaping.specs.Rate.{Rate, rate_fit, samples_in_lem, rate_at, rate_of}
use Rattle.protocol.specs.declared.Refusal.{Refusal}
use Rattle.protocol.specs.declared.Refusal.TheVariants.{RecordUnfit, WrongRate}
use Rattle.protocol.specs.Refusals.{PaperRefusal, on_paper}
use Rattle.search.specs.Turn.{Outcome, quiet, offer, sampled}
use Rattle.search.proofs.AgeInPass.{by_test}
use Rattle.demodulator.specs.declared.SoftDemodulator.{SoftDemodulator}
use Rattle.demodulator.specs.declared.AfterStretch.{AfterStretch}
use Rattle.demodulator.specs.Spans.{eight}
use Rattle.demodulator.specs.Record.{back, stored}
use Rattle.demodulator.specs.Fit.{unfit_number, record_fit_lem, fit_for_sample_lem}
use Rattle.demodulator.specs.Calls.{Paper, refusal, nothing, frame, done, carrier, Left, refused, finished, admitted_by, heard_paper, demodulated, DemodAt}
pub use Rattle.demodulator.specs.Feed.{rest_from}
use Rattle.demodulator.specs.Feed.{Stretch, stops_before, goes_on_lem, fed_from, fed, fed_into, is_quiet_lem, went_in, told_after, FeedSays, FeedsNothing}
use Rattle.demodulator.proofs.CallCases.{sample_other_rate}
use Rattle.demodulator.proofs.OnlyAnswer.{once, heard, heard_back}

-- the samples from one of them on
pub drop_at : {A : Type 0} (i : ℕ) (xs : List A) (d : A) → i < length xs → drop i xs ≡ get_or xs i d ∷ drop (suc i) xs
drop_at i [] d l = absurd (not-suc-le-zero l)
drop_at zero (x ∷ xs) d l = refl
drop_at (suc i) (x ∷ xs) d l = drop_at i xs d (le_of_suc-le-suc l)

-- ---- a refused sample
-- "Every refusal returns its number only, with record and buffers as they were."
abbrev Unmoved : SoftDemodulator → List Float → Left → Type 0
Unmoved m room l = (number : PaperRefusal) → l.answer ≡ refusal number → (l.demodulator ≡ m) × (l.room ≡ room)

finished_unmoved : (p : ℕ) (m n : SoftDemodulator) (room : List Float) (o : Outcome) → Unmoved m room (finished p n room o)
finished_unmoved p m n room (quiet c) number e = let z : ◌≡◌ {A = ℕ} 0 1 = cc in absurd (omega arith)
finished_unmoved p m n room (offer shown c) number e = let z : ◌≡◌ {A = ℕ} 0 1 = cc in absurd (omega arith)

pub refused_unmoved : (R : Rate) (m : SoftDemodulator) (x : ℤ) (room : List Float) → Unmoved m room (demodulated R m x room)
unfolding demodulated admitted_by
refused_unmoved R m x room =
    let c = m.control in
    by_test (Unmoved m room) (not (fit_for_sample_lem R.p m)) (refused (unfit_number m) m room) _ (λ e number r. (refl, refl)) λ e.
    by_test (Unmoved m room) c.owed (refused 2 m room) _ (λ e number r. (refl, refl)) λ e.
    by_test (Unmoved m room) (ltb (length room) 192) (refused 4 m room) _ (λ e number r. (refl, refl)) λ e.
    by_test (Unmoved m room) (eqb c.sample (2 ^ 63)) (refused 5 m room) _ (λ e number r. (refl, refl)) λ e.
    finished_unmoved R.p m (stored R m x) room (sampled R.p (eight R.p (back R.p (stored R m x))) c)

-- ---- by a sample's answer
-- whatever holds of the stretch that stops before it, of the one that ends with it and of the rest holds of what is picked
pub goes_on : {S : Type 0} (P : Stretch S → Type 0) (a : Paper) (before last rest : Stretch S) → P before → P last → P rest → P (goes_on_lem a before last rest)
unfolding goes_on_lem
goes_on P nothing before last rest p q r = r
goes_on P (frame o) before last rest p q r = q
goes_on P (refusal number) before last rest p q r = p
goes_on P done before last rest p q r = p
goes_on P (carrier there) before last rest p q r = p

-- ---- one step of a stretch
-- a stretch that ends with this answer
abbrev pub ends : ℕ → Result (Option Offer) Refusal → SoftDemodulator → List Float → Stretch SoftDemodulator
ends n answer m room = record { answer = heard_paper (told_after n answer); fed = n + went_in answer; state = m; room = room }

stops : (b : Bool) (why : Refusal) → heard_paper (cond b (Err why) (Ok None)) ≡ cond b (refusal (on_paper why)) nothing
stops true why = refl
stops false why = refl

module _ (R : Rate) (m : SoftDemodulator) (x : ℤ) (xs : List ℤ) (room : List Float) (n : ℕ) (m' : SoftDemodulator) (room' : List Float) where
  -- by the answer that the step gave
  turned : (answer : Result (Option Offer) Refusal) → DemodAt R m x room (record { answer = answer; demodulator = m' }) room'
      → rest_from R n m (x ∷ xs) room ≡ goes_on_lem (heard_paper answer) (stops_before (heard_paper answer) n m room) (record { answer = heard_paper answer; fed = n + 1; state = m'; room = room' }) (rest_from R (n + 1) m' xs room')
  unfolding fed_from
  turned answer says = rw (says.answers, says.leaves, says.writes)

  pub fed_on : (answer : Result (Option Offer) Refusal) → DemodAt R m x room (record { answer = answer; demodulator = m' }) room' → is_quiet_lem answer ≡ true → rest_from R n m (x ∷ xs) room ≡ rest_from R (n + 1) m' xs room'
  unfolding goes_on_lem
  fed_on (Err why) says e = absurd (subst T (sym e) tt)
  fed_on (Ok None) says e = (turned (Ok None) says)
  fed_on (Ok (Some o)) says e = absurd (subst T (sym e) tt)

  pub fed_ends : (answer : Result (Option Offer) Refusal) → DemodAt R m x room (record { answer = answer; demodulator = m' }) room' → is_quiet_lem answer ≡ false → rest_from R n m (x ∷ xs) room ≡ ends n answer m' room'
  unfolding goes_on_lem
  fed_ends (Err why) says e =
      let none : n + 0 ≡ n = omega arith in
      let stays = refused_unmoved R m x room _ (sym says.answers) in
      let same : m' ≡ m = says.leaves ∙ stays.0 in
      let same_room : room' ≡ room = says.writes ∙ stays.1 in
      rw (same, same_room, none, stops (eqb n 0) why) (turned (Err why) says)
  fed_ends (Ok None) says e = absurd (subst T e tt)
  fed_ends (Ok (Some o)) says e = (turned (Ok (Some o)) says)

pub fed_out : (R : Rate) (n : ℕ) (m : SoftDemodulator) (room : List Float) → rest_from R n m [] room ≡ record { answer = heard_paper (Ok None); fed = n; state = m; room = room }
unfolding fed_from
fed_out R n m room = refl

-- where there is a sample
pub fed_some : (R : Rate) (m : SoftDemodulator) (xs : List ℤ) (room : List Float) → 0 < length xs → fed_into R m xs room ≡ rest_from R 0 m xs room
unfolding fed
fed_some R m [] room l = absurd (not-suc-le-zero l)
fed_some R m (x ∷ xs) room l = refl

pub one_at_most : (answer : Result (Option Offer) Refusal) → went_in answer ≤ 1
one_at_most (Err why) = lit≤ tt
one_at_most (Ok None) = lit≤ tt
one_at_most (Ok (Some o)) = lit≤ tt

-- ---- the promise
pub feeds : (p : ℕ) (m : SoftDemodulator) → p ≡ samples_in_lem m.rate → (xs : List ℤ) (room : List Float) (r : AfterStretch) (after : List Float)
    → fed_into (rate_at p) m xs room ≡ record { answer = heard_paper r.answer; fed = r.fed; state = r.demodulator; room = after } → FeedSays m xs room r after
feeds p m own xs room r after s =
    let e = rw own at s in
    record {
      answers = sym (ap (λ (f : Stretch SoftDemodulator). f.answer) e);
      counts = sym (ap (λ (f : Stretch SoftDemodulator). f.fed) e);
      leaves = sym (ap (λ (f : Stretch SoftDemodulator). f.state) e);
      writes = sym (ap (λ (f : Stretch SoftDemodulator). f.room) e);
    }

pub feed_only_answer : (m : SoftDemodulator) (xs : List ℤ) (room : List Float) (r s : AfterStretch) (after other : List Float) → FeedSays m xs room r after → FeedSays m xs room s other → (r ≡ s) × (after ≡ other)
feed_only_answer m xs room r s after other p q =
    let answers = once heard_paper heard heard_back r.answer s.answer (same_answer p.answers q.answers) in
    let counts : r.fed ≡ s.fed = same_answer p.counts q.counts in
    let leaves : r.demodulator ≡ s.demodulator = same_answer p.leaves q.leaves in
    (λ i. record { answer = answers i; fed = counts i; demodulator = leaves i }, same_answer p.writes q.writes)

-- no sample is given
module _ (p : ℕ) (m : SoftDemodulator) (known : rate_fit m.rate ≡ true) (own : p ≡ samples_in_lem m.rate) where
  pub nothing_unfit : record_fit_lem p m ≡ false → FeedsNothing m (record { answer = Err RecordUnfit; fed = 0; demodulator = m })
  unfolding fed
  nothing_unfit e room = record { answers = rw (rw own at e, known); counts = refl; leaves = refl; writes = refl }

  pub nothing_fed : record_fit_lem p m ≡ true → FeedsNothing m (record { answer = (Ok None); fed = 0; demodulator = m })
  unfolding fed
  nothing_fed e room = record { answers = rw (rw own at e); counts = refl; leaves = refl; writes = refl }

-- a rate that is none: the stretch is refused, whatever it gives
pub feeds_other_rate : (m : SoftDemodulator) → rate_fit m.rate ≡ false → (xs : List ℤ) (room : List Float) → FeedSays m xs room (record { answer = Err WrongRate; fed = 0; demodulator = m }) room
unfolding fed record_fit_lem
feeds_other_rate m other [] room = record { answers = rw other; counts = refl; leaves = refl; writes = refl }
feeds_other_rate m other (x ∷ xs) room =
    let d = sample_other_rate (rate_of m.rate) m x room other in
    feeds (samples_in_lem m.rate) m refl (x ∷ xs) room _ room
    (fed_ends (rate_of m.rate) m x xs room 0 m room (Err WrongRate) (record { answers = rw d; leaves = rw d; writes = rw d }) refl)

pub feeds_nothing : (m : SoftDemodulator) (xs : List ℤ) (room : List Float) (r : AfterStretch) → length xs ≡ 0 → FeedsNothing m r → FeedSays m xs room r room
feeds_nothing m [] room r e says = says room
feeds_nothing m (x ∷ xs) room r e says = absurd (omega arith)
