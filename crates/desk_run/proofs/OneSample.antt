-- A stretch of one sample is that sample's own call: the same answer, record and room. Assumes nothing.
use mathlib.Core.Path.{◌≡◌, refl, sym, ap}
use mathlib.Core.Bool.{not}
use mathlib.Core.List.{List, [], ◌∷◌}
use Prim.Native.Nat.{ℕ, ◌^◌}
use lib.Dec.{eqb, ltb}
use lib.IntN.{ℤ}
use lib.ListN.{length}
use lib.Ieee.{Float}
use Rattle.shaping.specs.Rate.{Rate}
use Rattle.search.specs.Turn.{Outcome, quiet, offer, sampled}
use Rattle.search.proofs.AgeInPass.{by_test}
use Rattle.demodulator.specs.declared.SoftDemodulator.{SoftDemodulator}
use Rattle.demodulator.specs.Spans.{eight}
use Rattle.demodulator.specs.Record.{back, stored}
use Rattle.demodulator.specs.Fit.{fit_for_sample_lem}
use Rattle.demodulator.specs.Calls.{Paper, refusal, nothing, frame, done, carrier, Left, finished, admitted_by, demodulated}
use Rattle.demodulator.specs.Feed.{Stretch, goes_on_lem, stops_before, fed_from, fed, fed_into}
use Rattle.demodulator.proofs.FeedSteps.{refused_unmoved}

-- a sample is answered with a refusal, with nothing or with a frame
Heard : Paper → Type 0
Heard (refusal why) = Unit {0}
Heard nothing = Unit {0}
Heard (frame o) = Unit {0}
Heard done = ⊥
Heard (carrier there) = ⊥

abbrev HeardIn : Left → Type 0
HeardIn l = Heard l.answer

finished_heard : (p : ℕ) (m : SoftDemodulator) (room : List Float) (o : Outcome) → HeardIn (finished p m room o)
unfolding Heard
finished_heard p m room (quiet c) = tt
finished_heard p m room (offer shown c) = tt

heard : (R : Rate) (m : SoftDemodulator) (x : ℤ) (room : List Float) → HeardIn (demodulated R m x room)
unfolding demodulated admitted_by Heard
heard R m x room =
    by_test HeardIn (not (fit_for_sample_lem R.p m)) _ _ (λ _. tt)
    (λ _. by_test HeardIn m.control.owed _ _ (λ _. tt)
    (λ _. by_test HeardIn (ltb (length room) 192) _ _ (λ _. tt)
    (λ _. by_test HeardIn (eqb m.control.sample (2 ^ 63)) _ _ (λ _. tt)
    (λ _. finished_heard R.p (stored R m x) room (sampled R.p (eight R.p (back R.p (stored R m x))) m.control)))))

module _ (R : Rate) (m : SoftDemodulator) (x : ℤ) (room : List Float) where
  abbrev l : Left
  l = demodulated R m x room

  abbrev Same : Stretch SoftDemodulator → Type 0
  Same t = (t.answer ≡ l.answer) × (t.state ≡ l.demodulator) × (t.room ≡ l.room)

  by_answer : (a : Paper) → l.answer ≡ a → Heard a → Same (goes_on_lem a (stops_before l.answer 0 m room) (record { answer = l.answer; fed = 1; state = l.demodulator; room = l.room }) (record { answer = nothing; fed = 1; state = l.demodulator; room = l.room }))
  unfolding goes_on_lem Heard
  by_answer (refusal why) e h = let k = refused_unmoved R m x room why e in (refl, sym k.0, sym k.1)
  by_answer nothing e h = (sym e, refl, refl)
  by_answer (frame o) e h = (refl, refl, refl)
  by_answer done e h = absurd h
  by_answer (carrier there) e h = absurd h

  pub one_sample : Same (fed_into R m (x ∷ []) room)
  unfolding fed fed_from
  one_sample = by_answer l.answer refl (heard R m x room)
