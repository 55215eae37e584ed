-- Reading in any pieces gives the same samples as reading at once: by the rules; by the record from a fresh start; and, for rooms, answers and record, from every fit
-- record. At every rate. Assumes nothing.
use mathlib.Core.Path.{◌≡◌, refl, sym, ap, ◌∙◌}
use mathlib.Core.Bool.{true}
use mathlib.Core.List.{List, [], ◌∷◌, ◌++◌, map, flatten}
use Prim.Native.Nat.{ℕ, ◌+◌}
use native.Mathlib.Nat.{add-zero, sub-zero}
use native.Mathlib.Omega.{arith}
use lib.IntN.{ℤ}
use lib.ListN.{length, length-append}
use Rattle.numbers.specs.Firsts.{firsts}
use Rattle.machine.specs.Runs.{run, answers, Each}
use Rattle.shaping.specs.Rate.{Rate, samples_in_lem, rate_of}
use Rattle.shaping.proofs.RateFacts.{Facts}
use Rattle.modulator.specs.declared.Progress.{Progress}
use Rattle.modulator.specs.declared.SoftModulator.{SoftModulator}
use Rattle.modulator.specs.Paper.{wrote}
use Rattle.modulator.specs.Control.{zeros_read, samples_read, written_count, handed_out}
use Rattle.modulator.specs.Fit.{record_fit_lem}
use Rattle.modulator.specs.Calls.{Left}
use Rattle.modulator.specs.Calls.{drained as drainedRecord, read as readInto}
use Rattle.modulator.proofs.Cases.{read_fit}
use Rattle.modulator_laws.proofs.RateKept.{read_rate}
use Rattle.modulator_laws.proofs.Kept.{read_keeps}
use Rattle.modulator_laws.proofs.Once.{no_room}
use Rattle.modulator_laws.proofs.Pieces.{counts_in_pieces, progress_in_pieces, handed_front, handed_in_pieces, rooms_in_pieces, in_pieces}
use Rattle.modulator_run.specs.Rules.{Call, read, Sent, with_progress, frame_sample, drained, called, rules, sent_all}
use Rattle.modulator_run.specs.Run.{left_at, left, said_by, sender, record_after, Given}
use Rattle.modulator_run.specs.Pieces.{counted, handed, reads, total, room_of, SameAs, SameLeft}
use Rattle.modulator_run.proofs.SenderRun.{answers_from, next_call}

-- ---- by the rules
module _ (R : Rate) where
  -- "Room 0 writes 0."
  no_room_sent : (s : Sent) → (drained R [] s).sent ≡ s
  unfolding drained
  no_room_sent s =
      let no-zeros : zeros_read s.progress 0 ≡ 0 = omega arith in
      let no_samples : samples_read s.progress 0 ≡ 0 = omega arith in
      rw (no_samples, no-zeros) (simp (add-zero, sub-zero))

  no_room_said : (s : Sent) → (drained R [] s).said ≡ record { answer = wrote 0; room = [] }
  unfolding drained handed_out firsts
  no_room_said s =
      let no-zeros : zeros_read s.progress 0 ≡ 0 = omega arith in
      let no_samples : samples_read s.progress 0 ≡ 0 = omega arith in
      rw (no_samples, no-zeros)

  -- ---- two rooms
  handed_read : (s : Sent) (room : List ℤ) → handed (drained R room s).said ≡ handed_out (frame_sample R s) s.progress (length room)
  unfolding drained counted
  handed_read s room = handed_front (frame_sample R s) s.progress room

  module _ (s : Sent) (a b : List ℤ) where
    abbrev next : Sent
    next = (drained R a s).sent

    two_handed : handed (drained R (a ++ b) s).said ≡ handed (drained R a s).said ++ handed (drained R b next).said
    unfolding drained
    two_handed = rw (handed_read s (a ++ b), handed_read s a, handed_read next b, length-append a b) (handed_in_pieces (frame_sample R s) s.progress (length a) (length b))

    two_counted : (n : ℕ) → (drained R b next).said.answer ≡ wrote n → (drained R (a ++ b) s).said.answer ≡ wrote (counted (drained R a s).said.answer + n)
    unfolding drained counted
    two_counted n e =
        let same : written_count next.progress (length b) ≡ n = cc in
        rw (length-append a b, counts_in_pieces s.progress (length a) (length b), same)

    two_sent : (drained R (a ++ b) s).sent ≡ (drained R b next).sent
    unfolding drained
    two_sent = rw (length-append a b) (ap (λ (t : Progress). with_progress t s) (progress_in_pieces s.progress (length a) (length b)))

    two_rooms : (drained R (a ++ b) s).said.room ≡ (drained R a s).said.room ++ (drained R b next).said.room
    unfolding drained
    two_rooms = rooms_in_pieces (frame_sample R s) s.progress a b

  -- ---- any rooms
  pub pieces_said : (rooms : List (List ℤ)) (s : Sent) → SameAs (answers (rules R) s (reads rooms)) (drained R (flatten rooms) s).said
  unfolding answers called flatten total counted
  pieces_said [] s = rw (no_room_said s) (record { samples = refl; number = refl; rooms = refl })
  pieces_said (a ∷ rooms) s =
      let rest = pieces_said rooms (drained R a s).sent in
      record {
        samples = rw rest.samples (sym (two_handed s a (flatten rooms)));
        number = two_counted s a (flatten rooms) _ rest.number;
        rooms = rw rest.rooms (sym (two_rooms s a (flatten rooms)));
      }

  pub pieces_sent : (rooms : List (List ℤ)) (s : Sent) → run (rules R) s (reads rooms) ≡ (drained R (flatten rooms) s).sent
  unfolding run called flatten
  pieces_sent [] s = sym (no_room_sent s)
  pieces_sent (a ∷ rooms) s = pieces_sent rooms (drained R a s).sent ∙ sym (two_sent s a (flatten rooms))

-- ---- by the record, from a fresh start
reads_given : (rooms : List (List ℤ)) → Each Given (reads rooms)
unfolding Each Given
reads_given [] = tt
reads_given (a ∷ rooms) = (tt, reads_given rooms)

pub pieces_read : (R : Rate) → Facts R → (cs : List Call) → Each Given cs → (rooms : List (List ℤ))
    → SameAs (answers sender (record_after R cs) (reads rooms)) (said_by (left (record_after R cs) (read (flatten rooms))))
unfolding called
pieces_read R F cs g rooms =
    rw (answers_from R F cs (reads rooms) g (reads_given rooms), next_call R F cs g (read (flatten rooms))) (pieces_said R rooms (sent_all R cs))

-- ---- and from every fit record, reached or made up
module _ (R : Rate) where
  at_read : (m : SoftModulator) (room : List ℤ) → left_at R m (read room) ≡ readInto R m room
  unfolding left_at
  at_read m room = refl

  answered : (m : SoftModulator) → record_fit_lem R.p m ≡ true → (room : List ℤ) → (readInto R m room).answer ≡ wrote (counted (readInto R m room).answer)
  unfolding drainedRecord counted
  answered m fit room = rw (read_fit R m room fit)

  by_rate : (rooms : List (List ℤ)) (m : SoftModulator) → rate_of m.rate ≡ R → record_fit_lem R.p m ≡ true → SameLeft R m rooms
  unfolding run answers flatten total
  by_rate [] m own fit =
      let none = no_room R m fit in
      record { number = ap (λ (l : Left). l.answer) none; modulator = sym (ap (λ (l : Left). l.modulator) none); written = sym (ap (λ (l : Left). l.room) none) }
  by_rate (a ∷ rooms) m own fit =
      let here : left m (read a) ≡ readInto R m a = ap (λ (Q : Rate). left_at Q m (read a)) own ∙ at_read m a in
      let next : SoftModulator = (readInto R m a).modulator in
      let rest = by_rate rooms next (ap rate_of (read_rate R m a) ∙ own) (read_keeps R m fit a) in
      let two = in_pieces R m fit a (flatten rooms) in
      record {
        number = two.answer _ _ (answered m fit a) rest.number ∙ sym (ap (λ (l : Left). wrote (counted l.answer + total (answers sender l.modulator (reads rooms)))) here);
        modulator = ap (λ (l : Left). run sender l.modulator (reads rooms)) here ∙ rest.modulator ∙ sym two.modulator;
        written = ap (λ (l : Left). l.room ++ flatten (map room_of (answers sender l.modulator (reads rooms)))) here ∙ rw rest.written (sym two.room);
      }

pub pieces_left : (rooms : List (List ℤ)) (m : SoftModulator) → record_fit_lem (samples_in_lem m.rate) m ≡ true → SameLeft (rate_of m.rate) m rooms
pieces_left rooms m fit = by_rate (rate_of m.rate) rooms m refl fit
