-- A stretch of samples is the part of the list that it feeds: its line comes first, and after an offer the rest goes on.
-- Assumes nothing.
use mathlib.Core.Path.{◌≡◌, refl, sym, ap, subst, ◌∙◌}
use mathlib.Core.Bool.{Bool, true, false, cond, false≢true}
use mathlib.Core.List.{List, [], ◌∷◌, flat_map}
use Prim.Native.Nat.{ℕ, suc, ◌+◌, ◌-◌, ◌*◌, ◌≤◌}
use native.Mathlib.Omega.{arith}
use borrow.Author.Tests.{ne_eqb}
use lib.Dec.{eqb}
use lib.IntN.{ℤ}
use lib.ListN.{length, drop}
use lib.Ieee.{Float}
use Rattle.machine.specs.Runs.{run, answers}
use Rattle.shaping.specs.Rate.{Rate, rate_of}
use Rattle.protocol.specs.Refusals.{bare}
use Rattle.demodulator.specs.declared.SoftDemodulator.{SoftDemodulator}
use Rattle.demodulator.specs.declared.Offer.{Offer}
use Rattle.demodulator.specs.Calls.{Paper, refusal, nothing, frame, is_refusal, Left, refused}
use Rattle.demodulator.specs.Singles.{left_at, blank}
use Rattle.demodulator.specs.Feed.{Stretch, stops_before, fed_from}
use Rattle.demodulator.proofs.FeedSteps.{rest_from}
use Rattle.demodulator_laws.proofs.SampleComes.{Comes, silent, offering, stuck, comes, fed_silent, fed_offering, fed_stuck}
use Rattle.listening.specs.Listener.{listed_of, listener, own_record}
use Rattle.listening.specs.Verdict.{verdict}
use Rattle.listening.specs.Listen.{is_offer, left_by_stretch}
use Rattle.listening.proofs.FirstSample.{left_by_sample, after_reply, same_rate, RefusesAll, offers_stuck}
use Rattle.listening.proofs.Stretches.{stops_none, stops_offer}
use Rattle.receiving.specs.Text.{lines_of, text_from, go_in, Batch, refusal_in, told_to}
use Rattle.receiving.specs.Hear.{empty_told}
use Rattle.receiving.specs.Parts.{line_of_stretch, record_told, record_batch}
use Rattle.receiving.proofs.Lines.{line_short}
use Rattle.receiving.proofs.FedCount.{told_none, none, ahead, ahead_ahead, batch_none, batch_first}

-- ---- a list from its first sample on
abbrev pub line_after : Left → List ℕ
line_after l = lines_of (listed_of verdict l.answer l.room)

module _ (m : SoftDemodulator) (x : ℤ) (xs : List ℤ) (l : Left) (e : left_by_sample m x ≡ l) where
  pub batch_at : (places : ℕ) → 97 ≤ places → is_refusal l.answer ≡ false → record_batch m (x ∷ xs) places ≡ ahead 1 (line_after l) (record_batch (after_reply l) xs (places - length (line_after l)))
  unfolding run left_at
  batch_at places enough fine =
      batch_first own_record m x xs places enough (ap (λ (k : Left). is_refusal k.answer) e ∙ fine)
      ∙ ap (λ (k : Left). ahead 1 (line_after k) (record_batch (after_reply k) xs (places - length (line_after k)))) e

  pub told_at : record_told m (x ∷ xs) ≡ refusal_in l.answer
  unfolding answers left_at told_to
  told_at = ap (λ (k : Left). refusal_in k.answer) e

-- ---- a record that refuses each sample
module _ (number : ℕ) (m : SoftDemodulator) (s : RefusesAll number m) where
  stuck_in : (xs : List ℤ) (places : ℕ) → go_in (answers (listener own_record verdict) m xs) places ≡ 0
  unfolding answers go_in
  stuck_in [] places = refl
  stuck_in (x ∷ xs) places = told_none (empty_told m) _ places (ap is_refusal (told_at m x xs (refused number m blank) (s x)))

  pub stuck_batch : (xs : List ℤ) (places : ℕ) → record_batch m xs places ≡ none m
  stuck_batch xs places = batch_none own_record m xs places (stuck_in xs places)

  pub stuck_text : (xs : List ℤ) → text_from own_record m xs ≡ []
  unfolding lines_of flat_map
  stuck_text xs = ap lines_of (offers_stuck number m s xs)

-- ---- where a stretch stops before a sample: the refusal only at its start
module _ (number : ℕ) where
  stops_told : (b : Bool) → cond b (refusal (bare number)) nothing ≡ refusal_in (cond b (refusal (bare number)) nothing)
  stops_told true = refl
  stops_told false = refl

pub either_way : (b : Bool) → cond b nothing nothing ≡ nothing
either_way true = refl
either_way false = refl

-- ---- a stretch, after n samples, with room for a line
abbrev pub rest_of : Stretch SoftDemodulator → List ℤ → ℕ → Batch SoftDemodulator
rest_of f ys places = cond (is_offer f.answer) (record_batch (left_by_stretch f) ys (places - length (line_of_stretch f))) (none (left_by_stretch f))

pub record Goes (n : ℕ) (m : SoftDemodulator) (xs : List ℤ) (places : ℕ) (f : Stretch SoftDemodulator) : Type 0 where
  pub least : n ≤ f.fed
  pub most : f.fed ≤ n + length xs
  pub batch : record_batch m xs places ≡ ahead (f.fed - n) (line_of_stretch f) (rest_of f (drop (f.fed - n) xs) places)
  pub line_most : length (line_of_stretch f) ≤ 97 * (f.fed - n)
  pub moves : is_offer f.answer ≡ true → n + 1 ≤ f.fed
  pub told : 1 ≤ n + length xs → cond (eqb n 0) (record_told m xs) nothing ≡ refusal_in f.answer

module _ (n : ℕ) (m : SoftDemodulator) (x : ℤ) (xs : List ℤ) (places : ℕ) (enough : 97 ≤ places) where
  abbrev R : Rate
  R = rate_of m.rate

  abbrev Here : Stretch SoftDemodulator → Type 0
  Here = Goes n m (x ∷ xs) places

  -- of a sample that is admitted
  none_told : (l : Left) → left_by_sample m x ≡ l → refusal_in l.answer ≡ nothing → cond (eqb n 0) (record_told m (x ∷ xs)) nothing ≡ nothing
  none_told l e fine = ap (λ (a : Paper). cond (eqb n 0) a nothing) (told_at m x xs l e ∙ fine) ∙ either_way (eqb n 0)

  goes_silent : (m' : SoftDemodulator) → Goes (n + 1) m' xs places (rest_from R (n + 1) m' xs blank)
      → left_by_sample m x ≡ record { answer = nothing; demodulator = m'; room = blank } → Here (rest_from R (n + 1) m' xs blank)
  unfolding run listed_of lines_of flat_map
  goes_silent m' g e =
      let l : Left = record { answer = nothing; demodulator = m'; room = blank } in
      let f : Stretch SoftDemodulator = rest_from R (n + 1) m' xs blank in
      let k : ℕ = f.fed - (n + 1) in
      let one_more : f.fed - n ≡ suc k = omega arith in
      let one : 1 + k ≡ suc k = omega arith in
      let none-off : places - 0 ≡ places = omega arith in
      let first : record_batch m (x ∷ xs) places ≡ ahead 1 [] (record_batch m' xs places) = batch_at m x xs l e places enough refl ∙ ap (λ (p : ℕ). ahead 1 [] (record_batch m' xs p)) none-off in
      let later : nothing ≡ refusal_in f.answer = sym (rw (ne_eqb (n + 1) 0 (λ z. omega arith))) ∙ g.told (omega arith) in
      record {
        least = omega arith;
        most = omega arith;
        batch = rw one_more (first ∙ ap (ahead 1 []) g.batch ∙ ahead_ahead 1 k [] (line_of_stretch f) _ ∙ ap (λ (j : ℕ). ahead j (line_of_stretch f) (rest_of f (drop k xs) places)) one);
        line_most = omega arith;
        moves = λ _. g.least;
        told = λ _. none_told l e refl ∙ later;
      }

  goes_offering : (o : Offer) (m' : SoftDemodulator) (window : List Float)
      → left_by_sample m x ≡ record { answer = frame o; demodulator = m'; room = window }
      → Here (record { answer = frame o; fed = n + 1; state = m'; room = window })
  unfolding is_offer
  goes_offering o m' window e =
      let l : Left = record { answer = frame o; demodulator = m'; room = window } in
      let one : n + 1 - n ≡ 1 = omega arith in
      record {
        least = omega arith;
        most = omega arith;
        batch = rw one (batch_at m x xs l e places enough refl);
        line_most = omega (arith, line_short (frame o) window);
        moves = λ _. omega arith;
        told = λ _. none_told l e refl;
      }

  goes_stuck : (number : ℕ) → RefusesAll number m → Here (stops_before (refusal (bare number)) n m blank)
  unfolding run lines_of flat_map
  goes_stuck number all =
      let none_fed : n - n ≡ 0 = omega arith in
      record {
        least = omega arith;
        most = omega arith;
        batch = rw (none_fed, stops_none number blank (eqb n 0), stops_offer number (eqb n 0)) (stuck_batch number m all (x ∷ xs) places);
        line_most = rw (stops_none number blank (eqb n 0)) (omega arith);
        moves = λ e. absurd (false≢true (sym (stops_offer number (eqb n 0)) ∙ e));
        told = λ _. ap (λ (a : Paper). cond (eqb n 0) a nothing) (told_at m x xs (refused number m blank) (all x)) ∙ stops_told number (eqb n 0);
      }

  goes_by : ((m' : SoftDemodulator) → m'.rate ≡ m.rate → Goes (n + 1) m' xs places (rest_from R (n + 1) m' xs blank))
      → Comes m blank (left_by_sample m) (left_by_sample m x)
      → Here (rest_from R n m (x ∷ xs) blank)
  goes_by rest (silent m' e) = subst Here (sym (fed_silent R m x xs blank n m' e)) (goes_silent m' (rest m' (same_rate m x _ e)) e)
  goes_by rest (offering o m' window e) = subst Here (sym (fed_offering R m x xs blank n o m' window e)) (goes_offering o m' window e)
  goes_by rest (stuck number e all) = subst Here (sym (fed_stuck R m x xs blank n number e)) (goes_stuck number all)

pub stretch_goes : (n : ℕ) (m : SoftDemodulator) (xs : List ℤ) (places : ℕ) → 97 ≤ places
    → Goes n m xs places (rest_from (rate_of m.rate) n m xs blank)
unfolding fed_from listed_of lines_of flat_map is_offer run answers go_in
stretch_goes n m [] places enough =
    let none_fed : n - n ≡ 0 = omega arith in
    record {
      least = omega arith;
      most = omega arith;
      batch = rw none_fed (batch_none own_record m [] places refl);
      line_most = omega arith;
      moves = λ e. absurd (false≢true e);
      told = λ some. rw (ne_eqb n 0 (λ z. omega arith));
    }
stretch_goes n m (x ∷ xs) places enough =
    goes_by n m x xs places enough
    (λ m' kept. subst (λ (rate : ℕ). Goes (n + 1) m' xs places (rest_from (rate_of rate) (n + 1) m' xs blank)) kept (stretch_goes (n + 1) m' xs places enough))
    (comes (rate_of m.rate) m x blank)
