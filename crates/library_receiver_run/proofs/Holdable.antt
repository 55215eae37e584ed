-- Every call on a record leaves a control that a record can hold, whatever the record: an age stops at 255, a wait is at most 184 symbols.
-- Assumes nothing.
use Rattle.std.specs.Prelude.{Option, Some, None}
use Rattle.search.specs.declared.Waiting.{Waiting}
use mathlib.Core.Path.{◌≡◌, refl}
use mathlib.Core.Bool.{not, false}
use mathlib.Core.List.{List, [], ◌∷◌}
use Prim.Native.Nat.{ℕ, ◌+◌, ◌^◌, ◌≤◌, ◌<◌}
use native.Mathlib.Omega.{arith}
use lib.Dec.{eqb, ltb, lit<}
use lib.IntN.{ℤ}
use lib.ListN.{length}
use lib.Ieee.{Float, lt}
use Rattle.shaping.specs.Rate.{Rate}
use Rattle.protocol.specs.declared.Kind.{Kind}
use Rattle.protocol.specs.declared.Kind.TheVariants.{Lsf, Bert, Stream, Packet}
use Rattle.protocol.specs.declared.SyncBurst.{SyncBurst}
use Rattle.protocol.specs.declared.SyncBurst.TheVariants.{Frame, Preamble, EndOfTransmission}
use Rattle.decode.specs.Correlator.{matches}
use Rattle.search.specs.declared.Candidate.{Candidate}
use Rattle.search.specs.declared.Control.{Control}
use Rattle.search.specs.declared.Turn.{Turn}
use Rattle.search.specs.declared.Reply.{Reply}
use Rattle.search.specs.declared.Reply.TheVariants.{Accepted, Rejected}
use Rattle.search.specs.TakenBurst.{TakenBurst, held_in}
use Rattle.search.specs.Search.{same_kind, age_of, carried, marked, matched, missed, tried, passed, searched}
use Rattle.search.specs.Turn.{Outcome, quiet, offer, control_of, due_turn, waited_turn, counted_to, freed, owing, comes_to, sampled, replied}
use Rattle.search.proofs.AgeInPass.{by_test}
use Rattle.search.proofs.HeldOrNot.{HeldOrNot, not_held, is_held, held_or_not}
use Rattle.demodulator.specs.declared.SoftDemodulator.{SoftDemodulator}
use Rattle.demodulator.specs.Spans.{eight}
use Rattle.demodulator.specs.Record.{back, stored}
use Rattle.demodulator.specs.Fit.{fit_for_sample_lem, fit_for_reply_lem}
use Rattle.demodulator.specs.Calls.{Left, finished, admitted_by, demodulated, answered}
use Rattle.demodulator.specs.Feed.{Stretch, fed_from, fed}
use Rattle.demodulator.proofs.FeedSteps.{goes_on, rest_from}
use Rattle.demodulator_run.specs.Rules.{Single, sample, reply, query}
use Rattle.demodulator_run.specs.Run.{left_at}
use Rattle.demodulator_run.specs.Calls.{Call, one, stretch, record_next}
use Rattle.library_layout.specs.Within.{left_of, kept_age, Holdable}

module _ (p : ℕ) (few : p ≤ 10) where
  -- ---- the search
  carried_holds : (burst : SyncBurst) (v : ℕ → Float) (c : Control) → Holdable c → Holdable (carried p burst v c)
  unfolding carried
  carried_holds burst v c h = by_test Holdable (matches burst v) _ _ (λ e. record { age = h.age; left = h.left; kept = h.kept }) (λ e. h)

  marked_left : (w : Option Waiting) → left_of w < 65536 → left_of (marked w) < 65536
  unfolding marked
  marked_left None l = l
  marked_left (Some w) l = l

  marked_kept : (w : Option Waiting) → kept_age w < 256 → kept_age (marked w) < 256
  unfolding marked
  marked_kept None l = l
  marked_kept (Some w) l = l

  matched_holds : {candidate : Candidate} → HeldOrNot candidate → (new : TakenBurst) → new.age ≡ 1 → (c : Control) → Holdable c
      → Holdable (matched (held_in candidate) new c)
  unfolding matched
  matched_holds not_held new age c h =
      record { age = omega arith; left = marked_left c.wait h.left; kept = marked_kept c.wait h.kept }
  matched_holds (is_held t) new age c h =
      by_test Holdable (lt t.diff new.diff) _ _
      (λ e. record { age = omega arith; left = h.left; kept = h.kept })
      (λ e. record { age = omega arith; left = marked_left c.wait h.left; kept = marked_kept c.wait h.kept })

  missed_holds : (kind : Kind) {candidate : Candidate} → HeldOrNot candidate → (c : Control) → age_of candidate < 256 → Holdable c
      → Holdable (missed p kind (held_in candidate) c)
  unfolding missed
  missed_holds kind not_held c l h = h
  missed_holds kind (is_held t) c l h =
      by_test Holdable (same_kind t.kind kind) _ _ (λ e. record { age = h.age; left = omega arith; kept = l }) (λ e. h)

  tried_holds : (v : ℕ → Float) (kind : Kind) (c : Control) → Holdable c → Holdable (tried p v kind c)
  unfolding tried
  tried_holds v kind c h =
      by_test Holdable (matches (Frame kind) v) _ _ (λ e. matched_holds (held_or_not c.candidate) _ refl c h)
      (λ e. missed_holds kind (held_or_not c.candidate) c h.age h)

  searched_holds : (v : ℕ → Float) (c : Control) → Holdable c → Holdable (searched p v c)
  unfolding searched passed
  searched_holds v c h =
      tried_holds v Packet _ (tried_holds v Stream _ (tried_holds v Bert _ (tried_holds v Lsf _
      (carried_holds EndOfTransmission v _ (carried_holds Preamble v c h)))))

  -- ---- a sample and a reply
  turn_holds : (v : ℕ → Float) (w : Option Waiting) (c : Control) → left_of w < 65536 → kept_age w < 256 → Holdable c
      → Holdable (control_of (comes_to p v (waited_turn w c)))
  unfolding waited_turn due_turn
  turn_holds v None c l k h = searched_holds v c h
  turn_holds v (Some w) c l k h =
      by_test (λ (t : Turn). Holdable (control_of (comes_to p v t))) (ltb 1 w.left) _ _
      (λ e. record { age = h.age; left = omega arith; kept = k })
      (λ e. due_holds (held_or_not c.candidate))
    where
      none_held : Holdable (freed c)
      none_held = record { age = lit< tt; left = lit< tt; kept = lit< tt }

      due_holds : {candidate : Candidate} → HeldOrNot candidate → Holdable (control_of (comes_to p v (due_turn (held_in candidate) w (freed c))))
      due_holds not_held = searched_holds v (freed c) none_held
      due_holds (is_held t) = record { age = lit< tt; left = lit< tt; kept = lit< tt }

  sampled_holds : (v : ℕ → Float) (c : Control) → Holdable c → Holdable (control_of (sampled p v c))
  unfolding sampled
  sampled_holds v c h =
      turn_holds v c.wait (counted_to (c.sample + 1) c) h.left h.kept (record { age = h.age; left = h.left; kept = h.kept })

  replied_holds : (v : ℕ → Float) (r : Reply) (c : Control) → Holdable c → Holdable (replied p v r c)
  unfolding replied
  replied_holds v Accepted c h = record { age = h.age; left = h.left; kept = h.kept }
  replied_holds v Rejected c h = searched_holds v (owing false c) (record { age = h.age; left = h.left; kept = h.kept })

-- ---- the calls on a record
module _ (R : Rate) (few : R.p ≤ 10) where
  abbrev Kept : Left → Type 0
  Kept l = Holdable l.demodulator.control

  finished_holds : (m : SoftDemodulator) (room : List Float) (o : Outcome) → Holdable (control_of o) → Kept (finished R.p m room o)
  finished_holds m room (quiet c) h = h
  finished_holds m room (offer shown c) h = h

  single_holds : (m : SoftDemodulator) (c : Single) → Holdable m.control → Kept (left_at R m c)
  unfolding left_at demodulated answered admitted_by
  single_holds m (sample x room) h =
      let v = eight R.p (back R.p (stored R m x)) in
      by_test Kept (not (fit_for_sample_lem R.p m)) _ _ (λ _. h)
      (λ _. by_test Kept m.control.owed _ _ (λ _. h)
      (λ _. by_test Kept (ltb (length room) 192) _ _ (λ _. h)
      (λ _. by_test Kept (eqb m.control.sample (2 ^ 63)) _ _ (λ _. h)
      (λ _. finished_holds (stored R m x) room (sampled R.p v m.control) (sampled_holds R.p few v m.control h)))))
  single_holds m (reply r) h =
      by_test Kept (not (fit_for_reply_lem R.p m)) _ _ (λ _. h)
      (λ _. by_test Kept (not m.control.owed) _ _ (λ _. h)
      (λ _. replied_holds R.p few (eight R.p (back R.p m)) r m.control h))
  single_holds m query h = h

  sample_holds : (m : SoftDemodulator) (x : ℤ) (room : List Float) → Holdable m.control → Kept (demodulated R m x room)
  unfolding left_at
  sample_holds m x room h = single_holds m (sample x room) h

  rest_holds : (xs : List ℤ) (n : ℕ) (m : SoftDemodulator) (room : List Float) → Holdable m.control
      → Holdable (rest_from R n m xs room).state.control
  unfolding fed_from
  rest_holds [] n m room h = h
  rest_holds (x ∷ xs) n m room h =
      let l = demodulated R m x room in
      let after = sample_holds m x room h in
      goes_on (λ (t : Stretch SoftDemodulator). Holdable t.state.control) l.answer _ _
      (rest_from R (n + 1) l.demodulator xs l.room) h after
      (rest_holds xs (n + 1) l.demodulator l.room after)

  pub call_holds : (m : SoftDemodulator) (c : Call) → Holdable m.control → Holdable (record_next R m c).control
  unfolding record_next fed
  call_holds m (one c) h = single_holds m c h
  call_holds m (stretch [] room) h = h
  call_holds m (stretch (x ∷ xs) room) h = rest_holds (x ∷ xs) 0 m room h
