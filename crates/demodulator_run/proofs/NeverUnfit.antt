-- From a fresh start no call is refused as unfit, nor for its rate: the rules know no refusal 1 or 15. Assumes nothing.
use mathlib.Core.Path.{◌≡◌, sym, subst}
use mathlib.Core.Logic.{inl, inr}
use mathlib.Core.Bool.{Bool, true, false, not, ◌||◌, cond}
use mathlib.Core.List.Memᴰ
use mathlib.Core.List.{List, [], ◌∷◌, ◌++◌, Memᴰ}
use Prim.Native.Nat.{ℕ, ◌+◌, ◌^◌}
use lib.Dec.{T, eqb, ltb}
use lib.IntN.{ℤ}
use lib.ListN.{length}
use lib.Ieee.{Float}
use Rattle.machine.specs.Runs.{answers, Each}
use Rattle.shaping.specs.Rate.{Rate}
use Rattle.shaping.proofs.RateFacts.{Facts}
use Rattle.protocol.specs.Refusals.{bare, placed, at_line}
use Rattle.search.specs.Turn.{Outcome, quiet, offer, sampled}
use Rattle.search.proofs.AgeInPass.{by_test}
use Rattle.demodulator.specs.Spans.{eight}
use Rattle.demodulator.specs.Calls.{Paper, refusal, nothing, frame, done, carrier}
use Rattle.demodulator.specs.Feed.{Stretch, fed_from, fed}
use Rattle.demodulator.proofs.FeedSteps.{goes_on}
use Rattle.demodulator_run.specs.Filter.{ago}
use Rattle.demodulator_run.specs.Rules.{Single, sample, reply, query, History, After, start, settled, given, answered, single}
use Rattle.demodulator_run.specs.Run.{fresh_at}
use Rattle.demodulator_run.specs.Stretch.{sample_said, sample_next, sample_room}
use Rattle.demodulator_run.specs.Calls.{Call, one, stretch, Told, history_next, told_to, rules, receiver, Given}
use Rattle.demodulator_run.proofs.ReceiverRun.{receiver_run}

-- 1: "record unfit"; 15: "any rate but the two"
abbrev unfit : Paper → Bool
unfit (refusal (bare number)) = eqb number 1 || eqb number 15
unfit (refusal (placed number place)) = false
unfit (refusal (at_line number line)) = false
unfit nothing = false
unfit (frame o) = false
unfit done = false
unfit (carrier there) = false

abbrev Fine : Paper → Type 0
Fine a = T (not (unfit a))

abbrev FineAfter : After → Type 0
FineAfter a = Fine a.said.answer

abbrev FineStretch : Stretch History → Type 0
FineStretch f = Fine f.answer

module _ (table : List Float) (p : ℕ) where
  fine_settled : (xs : List ℤ) (room : List Float) (o : Outcome) → FineAfter (settled table p xs room o)
  unfolding settled
  fine_settled xs room (quiet c) = tt
  fine_settled xs room (offer shown c) = tt

  fine_single : (h : History) (c : Single) → FineAfter (single table p h c)
  unfolding single given answered
  fine_single h (sample x room) =
      by_test FineAfter h.control.owed _ _ (λ _. tt)
      (λ _. by_test FineAfter (ltb (length room) 192) _ _ (λ _. tt)
      (λ _. by_test FineAfter (eqb h.control.sample (2 ^ 63)) _ _ (λ _. tt)
      (λ _. fine_settled (h.samples ++ (x ∷ [])) room (sampled p (eight p (ago table p (h.samples ++ (x ∷ [])))) h.control))))
  fine_single h (reply r) = by_test FineAfter (not h.control.owed) _ _ (λ _. tt) (λ _. tt)
  fine_single h query = tt

  -- ---- a stretch: it is refused with its first sample's number only
  fine_stops : (why : Paper) → Fine why → (b : Bool) → Fine (cond b why nothing)
  fine_stops why f true = f
  fine_stops why f false = tt

  fine_rest : (xs : List ℤ) (n : ℕ) (h : History) (room : List Float) → FineStretch (fed_from History (sample_said table p) (sample_next table p) (sample_room table p) n h xs room)
  unfolding fed_from
  fine_rest [] n h room = tt
  fine_rest (x ∷ xs) n h room =
      let a : Paper = sample_said table p h x room in
      let fine = fine_single h (sample x room) in
      goes_on FineStretch a _ _ _ (fine_stops a fine (eqb n 0)) fine (fine_rest xs (n + 1) (sample_next table p h x room) (sample_room table p h x room))

  fine_told : (h : History) (c : Call) → Fine (told_to table p h c).answer
  unfolding told_to fed
  fine_told h (one c) = fine_single h c
  fine_told h (stretch [] room) = tt
  fine_told h (stretch (x ∷ xs) room) = fine_rest (x ∷ xs) 0 h room

-- ---- every list of calls
module _ (R : Rate) where
  fine_all : (cs : List Call) (h : History) (a : Told) → Memᴰ a (answers (rules R) h cs) → Fine a.answer
  unfolding answers
  fine_all [] h a i = absurd (Memᴰ.not-nil i)
  fine_all (c ∷ cs) h a i = elim (Memᴰ.cases_cons i) [
    | inl e ↦ subst (λ (b : Told). Fine b.answer) (sym e) (fine_told R.taps R.p h c)
    | inr j ↦ fine_all cs (history_next R.taps R.p h c) a j
  ]

  pub never_unfit : Facts R → (cs : List Call) → Each Given cs → (a : Told) → Memᴰ a (answers receiver (fresh_at R) cs)
      → (a.answer ≡ refusal (bare 1) → ⊥) × (a.answer ≡ refusal (bare 15) → ⊥)
  never_unfit F cs g a i =
      let fine = fine_all cs start a (rw (receiver_run R F cs g).1 at i) in
      (λ e. subst Fine e fine, λ e. subst Fine e fine)
