-- The call that an export makes on the record is the machine's, and brings the answers of its own sort. Assumes nothing.
use mathlib.Core.Path.{◌≡◌, refl}
use mathlib.Core.Bool.{Bool, not, ◌||◌}
use mathlib.Core.List.{List, [], ◌∷◌}
use Prim.Native.Nat.{ℕ, ◌+◌, ◌^◌}
use lib.Dec.{T, eqb, ltb}
use lib.IntN.{ℤ}
use lib.ListN.{length}
use lib.Ieee.{Float}
use Rattle.shaping.specs.Rate.{Rate, rate_of}
use Rattle.search.specs.Turn.{Outcome, quiet, offer, sampled}
use Rattle.search.proofs.AgeInPass.{by_test}
use Rattle.demodulator.specs.declared.SoftDemodulator.{SoftDemodulator}
use Rattle.demodulator.specs.Spans.{eight}
use Rattle.demodulator.specs.Record.{back, stored}
use Rattle.demodulator.specs.Fit.{record_fit_lem, fit_for_sample_lem, fit_for_reply_lem}
use Rattle.demodulator.specs.Calls.{Paper, refusal, nothing, frame, done, carrier, Left, finished, admitted_by, demodulated, answered, detected}
use Rattle.demodulator.specs.Feed.{Stretch, fed_from, fed, fed_into, rest_from}
use Rattle.demodulator.proofs.FeedSteps.{goes_on}
use Rattle.demodulator_run.specs.Run.{left_at}
use Rattle.demodulator_run.specs.Calls.{told_stretch, record_next, told_by, receiver}
use Rattle.library_receiver.specs.Memory.{Export, feeds, replies, asks, called}
use Rattle.library_receiver_run.specs.Runs.{call_of}

-- ---- what an export's call leaves is what the machine's does
pub called_told : (d : SoftDemodulator) (e : Export) → told_stretch (called d e) ≡ receiver.says d (call_of e)
unfolding called told_by left_at
called_told d (feeds xs lent) = refl
called_told d (replies accepted) = refl
called_told d asks = refl

pub called_next : (d : SoftDemodulator) (e : Export) → (called d e).state ≡ receiver.next d (call_of e)
unfolding called record_next left_at
called_next d (feeds xs lent) = refl
called_next d (replies accepted) = refl
called_next d asks = refl

pub asked_keeps : (d : SoftDemodulator) → (called d asks).state ≡ d
unfolding called left_at
asked_keeps d = refl

-- ---- the sorts of answers: a refusal, what a stretch brings, what a reply does, what a query does
abbrev sort : Paper → ℕ
sort (refusal number) = 0
sort nothing = 1
sort (frame o) = 1
sort done = 2
sort (carrier there) = 3

abbrev sort_of : Export → ℕ
sort_of (feeds xs lent) = 1
sort_of (replies accepted) = 2
sort_of asks = 3

abbrev is_of : ℕ → Paper → Bool
is_of n a = eqb (sort a) 0 || eqb (sort a) n

abbrev pub Fits : Export → Paper → Type 0
Fits e a = T (is_of (sort_of e) a)

module _ (R : Rate) where
  abbrev Heard : Left → Type 0
  Heard l = T (is_of 1 l.answer)

  finished_heard : (m : SoftDemodulator) (room : List Float) (o : Outcome) → Heard (finished R.p m room o)
  finished_heard m room (quiet c) = tt
  finished_heard m room (offer shown c) = tt

  sample_heard : (m : SoftDemodulator) (x : ℤ) (room : List Float) → Heard (demodulated R m x room)
  unfolding demodulated admitted_by
  sample_heard m x room =
      by_test Heard (not (fit_for_sample_lem R.p m)) _ _ (λ _. tt)
      (λ _. by_test Heard m.control.owed _ _ (λ _. tt)
      (λ _. by_test Heard (ltb (length room) 192) _ _ (λ _. tt)
      (λ _. by_test Heard (eqb m.control.sample (2 ^ 63)) _ _ (λ _. tt)
      (λ _. finished_heard (stored R m x) room (sampled R.p (eight R.p (back R.p (stored R m x))) m.control)))))

  rest_heard : (xs : List ℤ) (n : ℕ) (m : SoftDemodulator) (room : List Float) → T (is_of 1 (rest_from R n m xs room).answer)
  unfolding fed_from
  rest_heard [] n m room = tt
  rest_heard (x ∷ xs) n m room =
      let l = demodulated R m x room in
      let here = sample_heard m x room in
      goes_on (λ (t : Stretch SoftDemodulator). T (is_of 1 t.answer)) l.answer _ _ (rest_from R (n + 1) l.demodulator xs l.room)
      (by_test (λ (a : Paper). T (is_of 1 a)) (eqb n 0) _ _ (λ _. here) (λ _. tt)) here (rest_heard xs (n + 1) l.demodulator l.room)

  stretch_heard : (xs : List ℤ) (m : SoftDemodulator) (room : List Float) → T (is_of 1 (fed_into R m xs room).answer)
  unfolding fed
  stretch_heard [] m room = by_test (λ (a : Paper). T (is_of 1 a)) (record_fit_lem R.p m) _ _ (λ _. tt) (λ _. tt)
  stretch_heard (x ∷ xs) m room = rest_heard (x ∷ xs) 0 m room

pub answer_fits : (d : SoftDemodulator) (e : Export) → Fits e (called d e).answer
unfolding called left_at answered detected
answer_fits d (feeds xs lent) = stretch_heard (rate_of d.rate) xs d lent.room
answer_fits d (replies accepted) =
    let p = (rate_of d.rate).p in
    by_test (λ (l : Left). T (is_of 2 l.answer)) (not (fit_for_reply_lem p d)) _ _ (λ _. tt)
    (λ _. by_test (λ (l : Left). T (is_of 2 l.answer)) (not d.control.owed) _ _ (λ _. tt) (λ _. tt))
answer_fits d asks = by_test (λ (a : Paper). T (is_of 3 a)) (not (record_fit_lem (rate_of d.rate).p d)) _ _ (λ _. tt) (λ _. tt)
