-- Where a record and the rules agree, a stretch of samples is answered as the rules say, and leaves what they say. Assumes nothing.
use mathlib.Core.Path.{◌≡◌, refl, sym, subst}
use mathlib.Core.List.{List, [], ◌∷◌}
use Prim.Native.Nat.{ℕ, ◌+◌}
use lib.IntN.{ℤ}
use lib.Ieee.{Float}
use Rattle.shaping.specs.Rate.{Rate}
use Rattle.shaping.proofs.RateFacts.{Facts}
use Rattle.demodulator.specs.declared.SoftDemodulator.{SoftDemodulator}
use Rattle.demodulator.specs.Calls.{Paper, refusal, nothing, frame, done, carrier, Left, demodulated}
use Rattle.demodulator.specs.Feed.{Stretch, stops_before, goes_on_lem, fed_from, fed, fed_into}
use Rattle.demodulator.proofs.FeedSteps.{rest_from}
use Rattle.demodulator_run.specs.Rules.{Single, sample, History, Said, After, single}
use Rattle.demodulator_run.specs.Run.{left_at, said_by, Callable}
use Rattle.demodulator_run.specs.Stretch.{Sixteen, sample_said, sample_next, sample_room, stretched}
use Rattle.demodulator_run.proofs.Step.{call_agrees}
use Rattle.demodulator_run.proofs.Whole.{Stands, stands_fit, stands_next}

module _ (R : Rate) (F : Facts R) where
  abbrev rules_rest : ℕ → History → List ℤ → List Float → Stretch History
  rules_rest = fed_from History (sample_said R.taps R.p) (sample_next R.taps R.p) (sample_room R.taps R.p)

  -- what the code's stretch leaves is what the rules' stretch comes to
  pub record Same (f : Stretch SoftDemodulator) (r : Stretch History) : Type 0 where
    pub answers : f.answer ≡ r.answer
    pub counts : f.fed ≡ r.fed
    pub writes : f.room ≡ r.room
    pub stands : Stands R F f.state r.state

  -- ---- a sample
  module _ (n : ℕ) (m m' : SoftDemodulator) (h h' : History) (room room' : List Float) (here : Stands R F m h) (there : Stands R F m' h') (f : Stretch SoftDemodulator) (r : Stretch History) (rest : Same f r) where
    turn : (a : Paper)
        → Same (goes_on_lem a (stops_before a n m room) (record { answer = a; fed = n + 1; state = m'; room = room' }) f)
        (goes_on_lem a (stops_before a n h room) (record { answer = a; fed = n + 1; state = h'; room = room' }) r)
    unfolding goes_on_lem
    turn nothing = rest
    turn (frame o) = record { answers = refl; counts = refl; writes = refl; stands = there }
    turn (refusal number) = record { answers = refl; counts = refl; writes = refl; stands = here }
    turn done = record { answers = refl; counts = refl; writes = refl; stands = here }
    turn (carrier there) = record { answers = refl; counts = refl; writes = refl; stands = here }

  -- ---- a stretch, from where a run stands
  same : (xs : List ℤ) (n : ℕ) (m : SoftDemodulator) (h : History) (room : List Float) → Sixteen xs → Stands R F m h → Same (rest_from R n m xs room) (rules_rest n h xs room)
  unfolding fed_from Sixteen Callable left_at
  same [] n m h room f s = record { answers = refl; counts = refl; writes = refl; stands = s }
  same (x ∷ xs) n m h room f s =
      let c : Single = sample x room in
      let l : Left = demodulated R m x room in
      let a : After = single R.taps R.p h c in
      let e : said_by l ≡ a.said = (call_agrees R F m h s.represents (stands_fit R F m h s) c).says in
      let st : Stands R F l.demodulator a.history = stands_next R F m h s c f.0 in
      let rest : Stretch History = rules_rest (n + 1) a.history xs a.said.room in
      subst (λ (t : Said).
      Same
      (goes_on_lem t.answer (stops_before t.answer n m room) (record { answer = t.answer; fed = n + 1; state = l.demodulator; room = t.room }) (rest_from R (n + 1) l.demodulator xs t.room))
      (rules_rest n h (x ∷ xs) room)) (sym e)
      (turn n m l.demodulator h a.history room a.said.room s st (rest_from R (n + 1) l.demodulator xs a.said.room) rest (same xs (n + 1) l.demodulator a.history a.said.room f.1 st) a.said.answer)

  pub same_stretch : (xs : List ℤ) (m : SoftDemodulator) (h : History) (room : List Float) → Sixteen xs → Stands R F m h → Same (fed_into R m xs room) (stretched R.taps R.p h xs room)
  unfolding fed
  same_stretch [] m h room f s = record { answers = rw (stands_fit R F m h s).for_query; counts = refl; writes = refl; stands = s }
  same_stretch (x ∷ xs) m h room f s = same (x ∷ xs) 0 m h room f s
