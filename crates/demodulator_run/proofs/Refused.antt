-- "Every refusal returns its number only, with record and buffers as they were": of the rules, at whatever they have heard, and of every record, made-up ones too. Assumes nothing.
use mathlib.Core.Path.{◌≡◌, refl, ap}
use mathlib.Core.Bool.{true, not}
use mathlib.Core.List.{List, [], ◌∷◌, ◌++◌}
use Prim.Native.Nat.{ℕ, ◌^◌}
use native.Mathlib.Omega.{arith}
use lib.Dec.{eqb, ltb}
use lib.IntN.{ℤ}
use lib.ListN.{length}
use lib.Ieee.{Float}
use Rattle.machine.specs.Runs.{run, answers}
use Rattle.shaping.specs.Rate.{Rate}
use Rattle.protocol.specs.Refusals.{PaperRefusal}
use Rattle.search.specs.Turn.{Outcome, quiet, offer, sampled}
use Rattle.search.proofs.AgeInPass.{by_test}
use Rattle.demodulator.specs.declared.SoftDemodulator.{SoftDemodulator}
use Rattle.demodulator.specs.Spans.{eight}
use Rattle.demodulator.specs.Record.{back, stored}
use Rattle.demodulator.specs.Fit.{record_fit_lem, fit_for_sample_lem, fit_for_reply_lem}
use Rattle.demodulator.specs.Calls.{refusal, nothing, Left, finished, admitted_by, demodulated, answered}
use Rattle.demodulator.specs.Feed.{Stretch, empty_said}
use Rattle.demodulator.specs.Feed.{sample_said as sampleSaid', sample_next as sampleNext', sample_room as sampleRoom'}
use Rattle.demodulator_laws.proofs.RefusedFeed.{refused_feed}
use Rattle.demodulator_run.specs.Filter.{ago}
use Rattle.demodulator_run.specs.Rules.{Single, sample, reply, query, History, After, settled, given, single}
use Rattle.demodulator_run.specs.Rules.{answered as repliedTo}
use Rattle.demodulator_run.specs.Run.{left_at}
use Rattle.demodulator_run.specs.Stretch.{sample_said, sample_next, sample_room}
use Rattle.demodulator_run.specs.Calls.{Call, one, stretch, Told, told_stretch, history_next, told_to, rules, record_next, told_by}

-- the room that is lent with a call
abbrev room_of : Single → List Float
room_of (sample x room) = room
room_of (reply r) = []
room_of query = []

abbrev pub lent_with : Call → List Float
lent_with (one c) = room_of c
lent_with (stretch xs room) = room

-- "its number only, with record and buffers as they were"
abbrev turned_down : PaperRefusal → List Float → Told
turned_down number room = record { answer = refusal number; fed = 0; room = room }

-- ---- the rules
module _ (table : List Float) (p : ℕ) (h : History) where
  abbrev Kept : List Float → After → Type 0
  Kept room a = (number : PaperRefusal) → a.said.answer ≡ refusal number → (a.history ≡ h) × (a.said.room ≡ room)

  settled_kept : (xs : List ℤ) (room : List Float) (o : Outcome) → Kept room (settled table p xs room o)
  unfolding settled
  settled_kept xs room (quiet c) number e = let z : ◌≡◌ {A = ℕ} 0 1 = cc in absurd (omega arith)
  settled_kept xs room (offer shown c) number e = let z : ◌≡◌ {A = ℕ} 0 1 = cc in absurd (omega arith)

  single_nothing : (c : Single) (number : PaperRefusal) → (single table p h c).said.answer ≡ refusal number → ((single table p h c).history ≡ h) × ((single table p h c).said.room ≡ room_of c)
  unfolding single given repliedTo
  single_nothing (sample x room) =
      by_test (Kept room) h.control.owed _ _ (λ _ number e. (refl, refl))
      (λ _. by_test (Kept room) (ltb (length room) 192) _ _ (λ _ number e. (refl, refl))
      (λ _. by_test (Kept room) (eqb h.control.sample (2 ^ 63)) _ _ (λ _ number e. (refl, refl))
      (λ _. settled_kept (h.samples ++ (x ∷ [])) room (sampled p (eight p (ago table p (h.samples ++ (x ∷ [])))) h.control))))
  single_nothing (reply r) =
      by_test (Kept []) (not h.control.owed) _ _ (λ _ number e. (refl, refl)) (λ _ number e. let z : ◌≡◌ {A = ℕ} 0 1 = cc in absurd (omega arith))
  single_nothing query = λ number e. (refl, refl)

  pub refused_nothing : (c : Call) (number : PaperRefusal) → (told_to table p h c).answer ≡ refusal number → (history_next table p h c ≡ h) × (told_to table p h c ≡ turned_down number (lent_with c))
  unfolding history_next told_to
  refused_nothing (one c) number e = let k = single_nothing c number e in (k.0, λ i. record { answer = e i; fed = 0; room = k.1 i })
  refused_nothing (stretch xs room) number e =
      let k = refused_feed History (sample_said table p) (sample_next table p) (sample_room table p) (λ (g : History). nothing) h xs room number e in
      (ap (λ (f : Stretch History). f.state) k, ap (λ (f : Stretch History). told_stretch f) k)

-- and so it counts for nothing: what comes after it is as if it had not been made
pub refused_skipped : (R : Rate) (h : History) (c : Call) (number : PaperRefusal) (cs : List Call) → (told_to R.taps R.p h c).answer ≡ refusal number
    → (run (rules R) h (c ∷ cs) ≡ run (rules R) h cs) × (answers (rules R) h (c ∷ cs) ≡ told_to R.taps R.p h c ∷ answers (rules R) h cs)
unfolding run answers
refused_skipped R h c number cs e =
    let k = (refused_nothing R.taps R.p h c number e).0 in
    (ap (λ (g : History). run (rules R) g cs) k, ap (λ (g : History). told_to R.taps R.p h c ∷ answers (rules R) g cs) k)

-- ---- every record
module _ (R : Rate) (m : SoftDemodulator) where
  abbrev KeptRecord : List Float → Left → Type 0
  KeptRecord room l = (number : PaperRefusal) → l.answer ≡ refusal number → (l.demodulator ≡ m) × (l.room ≡ room)

  taken_kept : (x : ℤ) (room : List Float) (o : Outcome) → KeptRecord room (finished R.p (stored R m x) room o)
  taken_kept x room (quiet c) number e = let z : ◌≡◌ {A = ℕ} 0 1 = cc in absurd (omega arith)
  taken_kept x room (offer shown c) number e = let z : ◌≡◌ {A = ℕ} 0 1 = cc in absurd (omega arith)

  single_record : (c : Single) (number : PaperRefusal) → (left_at R m c).answer ≡ refusal number → ((left_at R m c).demodulator ≡ m) × ((left_at R m c).room ≡ room_of c)
  unfolding left_at demodulated answered admitted_by
  single_record (sample x room) =
      by_test (KeptRecord room) (not (fit_for_sample_lem R.p m)) _ _ (λ _ number e. (refl, refl))
      (λ _. by_test (KeptRecord room) m.control.owed _ _ (λ _ number e. (refl, refl))
      (λ _. by_test (KeptRecord room) (ltb (length room) 192) _ _ (λ _ number e. (refl, refl))
      (λ _. by_test (KeptRecord room) (eqb m.control.sample (2 ^ 63)) _ _ (λ _ number e. (refl, refl))
      (λ _. taken_kept x room (sampled R.p (eight R.p (back R.p (stored R m x))) m.control)))))
  single_record (reply r) =
      by_test (KeptRecord []) (not (fit_for_reply_lem R.p m)) _ _ (λ _ number e. (refl, refl))
      (λ _. by_test (KeptRecord []) (not m.control.owed) _ _ (λ _ number e. (refl, refl)) (λ _ number e. let z : ◌≡◌ {A = ℕ} 0 1 = cc in absurd (omega arith)))
  single_record query = λ number e. (refl, refl)

  pub refused_record : (c : Call) (number : PaperRefusal) → (told_by R m c).answer ≡ refusal number → (record_next R m c ≡ m) × (told_by R m c ≡ turned_down number (lent_with c))
  unfolding record_next told_by
  refused_record (one c) number e = let k = single_record c number e in (k.0, λ i. record { answer = e i; fed = 0; room = k.1 i })
  refused_record (stretch xs room) number e =
      let k = refused_feed SoftDemodulator (sampleSaid' R) (sampleNext' R) (sampleRoom' R) (empty_said R.p) m xs room number e in
      (ap (λ (f : Stretch SoftDemodulator). f.state) k, ap (λ (f : Stretch SoftDemodulator). told_stretch f) k)

-- ---- no call changes the record's rate
module _ (R : Rate) (m : SoftDemodulator) where
  abbrev SameRate : Left → Type 0
  SameRate l = l.demodulator.rate ≡ m.rate

  finished_rate : (x : ℤ) (room : List Float) (o : Outcome) → SameRate (finished R.p (stored R m x) room o)
  unfolding stored
  finished_rate x room (quiet c) = refl
  finished_rate x room (offer shown c) = refl

  pub rate_kept : (c : Single) → (left_at R m c).demodulator.rate ≡ m.rate
  unfolding left_at demodulated answered admitted_by
  rate_kept (sample x room) =
      by_test SameRate (not (fit_for_sample_lem R.p m)) _ _ (λ _. refl)
      (λ _. by_test SameRate m.control.owed _ _ (λ _. refl)
      (λ _. by_test SameRate (ltb (length room) 192) _ _ (λ _. refl)
      (λ _. by_test SameRate (eqb m.control.sample (2 ^ 63)) _ _ (λ _. refl)
      (λ _. finished_rate x room (sampled R.p (eight R.p (back R.p (stored R m x))) m.control)))))
  rate_kept (reply r) = by_test SameRate (not (fit_for_reply_lem R.p m)) _ _ (λ _. refl) (λ _. by_test SameRate (not m.control.owed) _ _ (λ _. refl) (λ _. refl))
  rate_kept query = refl
