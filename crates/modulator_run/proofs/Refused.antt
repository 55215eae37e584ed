-- "Every refusal returns its number only, with record and buffers as they were": of the rules, at whatever they have sent, and of every record, made-up ones too. Assumes nothing.
use mathlib.Core.Path.{◌≡◌, refl, ap}
use mathlib.Core.Bool.{Bool, true, false, not, cond, ◌&&◌}
use mathlib.Core.List.{List, [], ◌∷◌}
use Prim.Native.Nat.{ℕ}
use lib.Dec.{T, ltb}
use lib.IntN.{ℤ}
use lib.Ieee.{Float}
use Rattle.machine.specs.Runs.{run, answers}
use Rattle.shaping.specs.Rate.{Rate, rate_of}
use Rattle.protocol.specs.Refusals.{PaperRefusal, bare}
use Rattle.modulator.specs.declared.ModulatorFrame.{ModulatorFrame}
use Rattle.modulator.specs.declared.ModulatorFrame.TheVariants.{Nothing as NoFrame, Preamble, Symbols as GivenSymbols, EndOfTransmission}
use Rattle.modulator.specs.declared.SoftModulator.{SoftModulator}
use Rattle.modulator.specs.Paper.{Paper, refusal, done, wrote, transmit_end, read_output, idle, get_frame, nothing}
use Rattle.modulator.specs.Control.{buffer_of, end_after_lem, updated_pending_lem}
use Rattle.modulator.specs.Record.{control_of}
use Rattle.modulator.specs.Fit.{record_fit_lem}
use Rattle.modulator.specs.Outcome.{Outcome, only, told, frame_outcome, too_large, update_outcome, action_outcome}
use Rattle.modulator.specs.Calls.{Left, unless_unfit, provided, updated, ran}
use Rattle.modulator.specs.Calls.{settled as settledRecord, drained as drainedRecord, read as readInto}
use Rattle.modulator_laws.proofs.Picked.{picked}
use Rattle.modulator_laws.proofs.EachCase.{each_given, each_update, each_action}
use Rattle.modulator_run.specs.Rules.{Call, provide, read, update, ask, Sent, After, settled, drained, called, rules}
use Rattle.modulator_run.specs.Run.{left_at, left, said_by, sender}
use Rattle.modulator_run.specs.Kinds.{stores}
use Rattle.modulator_run.proofs.EachCall.{Refusing, miscounted, outside, unheaded, large, below, each_call}

-- the room that is lent with a call
abbrev pub lent : Call → List ℤ
lent (provide frame symbols) = []
lent (read room) = room
lent (update fill capacity latency) = []
lent ask = []

abbrev pub refuses : Paper → Bool
refuses (refusal number) = true
refuses done = false
refuses (wrote n) = false
refuses (transmit_end n) = false
refuses read_output = false
refuses (idle state) = false
refuses get_frame = false
refuses nothing = false

refused_by : (a : Paper) (number : PaperRefusal) → a ≡ refusal number → T (refuses a)
refused_by a number e = rw e tt

-- ---- the rules
no_room_lent : (c : Call) (number : PaperRefusal) → Refusing c number → [] ≡ lent c
no_room_lent c number (miscounted e) = refl
no_room_lent c number (outside e) = refl
no_room_lent c number (unheaded e) = refl
no_room_lent c number (large e) = refl
no_room_lent c number (below e) = refl

module _ (R : Rate) (s : Sent) where
  abbrev Kept : Call → After → Type 0
  Kept c a = T (refuses a.said.answer) → (a.sent ≡ s) × (a.said.room ≡ lent c)

  kept : (c : Call) → Kept c (called R s c)
  unfolding drained
  kept =
      each_call R s Kept (record {
        refused = λ c number e _. (refl, no_room_lent c number e);
        no_frame = λ _ t. absurd t;
        delayed = λ _ _ _ t. absurd t;
        symbols_given = λ _ _ _ t. absurd t;
        last_frame = λ _ t. absurd t;
        reads = λ _ t. absurd t;
        stored = λ _ _ _ _ t. absurd t;
        told = λ _ _ t. absurd t;
        unread = λ _ _ t. absurd t;
        idles = λ _ _ _ t. absurd t;
        wishes = λ _ _ _ t. absurd t;
        rests = λ _ _ _ t. absurd t;
      })

  pub refused_nothing : (c : Call) (number : PaperRefusal) → (called R s c).said.answer ≡ refusal number → ((called R s c).sent ≡ s) × ((called R s c).said.room ≡ lent c)
  refused_nothing c number e = kept c (refused_by _ number e)

  -- and so it counts for nothing: what comes after it is as if it had not been made
  pub refused_skipped : (c : Call) (number : PaperRefusal) (cs : List Call) → (called R s c).said.answer ≡ refusal number
      → (run (rules R) s (c ∷ cs) ≡ run (rules R) s cs) × (answers (rules R) s (c ∷ cs) ≡ (called R s c).said ∷ answers (rules R) s cs)
  unfolding run answers
  refused_skipped c number cs e =
      let k = (refused_nothing c number e).0 in
      (ap (λ (t : Sent). run (rules R) t cs) k, ap (λ (t : Sent). (called R s c).said ∷ answers (rules R) t cs) k)

  -- "an update that is not refused" is one that stores, whatever came before
  pub stores_exactly : (fill capacity latency : ℕ) → refuses (called R s (update fill capacity latency)).said.answer ≡ not (stores (update fill capacity latency))
  unfolding called update_outcome settled stores
  stores_exactly fill capacity latency = by_tests (too_large fill capacity latency) (ltb capacity fill)
    where
      by_tests : (a b : Bool)
          → refuses (settled R s (cond a (only (refusal (bare 8))) (cond b (only (refusal (bare 9))) (told done (updated_pending_lem R.p fill capacity (end_after_lem fill latency s.progress) s.pending) (buffer_of fill capacity latency))))).said.answer ≡ not (not a && not b)
      by_tests true b = refl
      by_tests false true = refl
      by_tests false false = refl

-- ---- every record
module _ (R : Rate) (m : SoftModulator) where
  abbrev KeptRecord : List ℤ → Left → Type 0
  KeptRecord room l = T (refuses l.answer) → (l.modulator ≡ m) × (l.room ≡ room)

  abbrev KeptBy : Outcome → Type 0
  KeptBy o = KeptRecord [] (settledRecord R m o)

  kept_frame : (frame : ModulatorFrame) (symbols : List Float) → KeptBy (frame_outcome R.p frame symbols (control_of m))
  unfolding settledRecord frame_outcome
  kept_frame NoFrame symbols t = absurd t
  kept_frame (Preamble traffic steps) symbols t = absurd t
  kept_frame (GivenSymbols traffic) symbols t = each_given (control_of m) KeptBy traffic symbols (λ _ _. (refl, refl)) (λ _ _ _ _. (refl, refl)) (λ _ _ _ _. (refl, refl)) (λ _ _ _ u. absurd u) t
  kept_frame EndOfTransmission symbols t = absurd t

  kept_update : (fill capacity latency : ℕ) → KeptBy (update_outcome R.p fill capacity latency (control_of m))
  unfolding settledRecord
  kept_update fill capacity latency = each_update (control_of m) KeptBy R.p fill capacity latency (λ _ _. (refl, refl)) (λ _ _ _. (refl, refl)) (λ _ _ t. absurd t)

  kept_action : KeptBy (action_outcome (control_of m))
  unfolding settledRecord
  kept_action = each_action (control_of m) KeptBy (record { told_end = λ _ _ t. absurd t; unread = λ _ _ t. absurd t; idles = λ _ _ _ t. absurd t; wishes = λ _ _ _ t. absurd t; rests = λ _ _ _ t. absurd t })

  -- 15: "any rate but the two"; 1: "record unfit"
  unless_unfit_lem : (room : List ℤ) (l : Left) → KeptRecord room l → KeptRecord room (unless_unfit R.p m room l)
  unless_unfit_lem room l k = picked (KeptRecord room) (not (record_fit_lem R.p m)) _ _ (λ _ _. (refl, refl)) (λ _. k)

  kept_record : (c : Call) → KeptRecord (lent c) (left_at R m c)
  unfolding left_at provided readInto updated ran drainedRecord
  kept_record (provide frame symbols) = unless_unfit_lem [] _ (kept_frame frame symbols)
  kept_record (read room) = unless_unfit_lem room _ (λ t. absurd t)
  kept_record (update fill capacity latency) = unless_unfit_lem [] _ (kept_update fill capacity latency)
  kept_record ask = unless_unfit_lem [] _ kept_action

-- at whatever rate it says
module _ (m : SoftModulator) where
  pub refused_record : (c : Call) (number : PaperRefusal) → (left m c).answer ≡ refusal number → ((left m c).modulator ≡ m) × ((left m c).room ≡ lent c)
  refused_record c number e = kept_record (rate_of m.rate) m c (refused_by _ number e)

  pub skipped_record : (c : Call) (number : PaperRefusal) (cs : List Call) → (left m c).answer ≡ refusal number
      → (run sender m (c ∷ cs) ≡ run sender m cs) × (answers sender m (c ∷ cs) ≡ said_by (left m c) ∷ answers sender m cs)
  unfolding run answers
  skipped_record c number cs e =
      let k = (refused_record c number e).0 in
      (ap (λ (n : SoftModulator). run sender n cs) k, ap (λ (n : SoftModulator). said_by (left m c) ∷ answers sender n cs) k)
