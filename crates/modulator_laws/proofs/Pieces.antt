-- A transmission read in two pieces is the one read at once: the samples, the answer, the record and the room. Assumes nothing.
use mathlib.Core.Path.{◌≡◌, refl, sym, ap, ◌∙◌}
use mathlib.Core.Logic.{◌⊎◌, inl, inr, ⊎_elim}
use mathlib.Core.Bool.{true}
use mathlib.Core.List.{List, [], ◌++◌}
use Prim.Native.Nat.{ℕ, ◌+◌, ◌-◌}
use native.Mathlib.Nat.{add_assoc, sub-add-eq}
use native.Mathlib.Omega.{arith}
use lib.IntN.{ℤ, pos}
use lib.ListN.{length, take, drop, length-append}
use lib.Seq.{take_at}
use Rattle.shaping.specs.Rate.{Rate}
use Rattle.modulator.specs.declared.Progress.{Progress}
use Rattle.modulator.specs.declared.SoftModulator.{SoftModulator}
use Rattle.modulator.specs.Paper.{wrote}
use Rattle.modulator.specs.Control.{zeros_read, samples_read, written_count, read_on, handed_out, room_after}
use Rattle.modulator.specs.Record.{stored_sample, with_progress}
use Rattle.modulator.specs.Fit.{record_fit_lem}
use Rattle.modulator.specs.Calls.{drained, read}
use Rattle.modulator.proofs.Cases.{read_fit}
use Rattle.modulator_laws.proofs.Kept.{drained_fit}
use Rattle.modulator_laws.proofs.Shares.{length_out, nothing_out, out_in_pieces, rooms_joined, in_turn, zeros, samples, zeros', samples', samples_add, one_first, filled_or_done}

-- ---- by how far a frame is read: a room for a, and then one for b
module _ (s : Progress) (a b : ℕ) where
  abbrev padding : ℕ
  padding = s.tx_delay_padding.0

  abbrev unread : ℕ
  unread = s.next_len - s.next_read

  -- what the first room leaves unread
  left_unread : s.next_len - (s.next_read + samples_read s a) ≡ unread - samples_read s a
  left_unread = sub-add-eq s.next_len s.next_read (samples_read s a)

  pub counts_in_pieces : written_count s (a + b) ≡ written_count s a + written_count (read_on s a) b
  counts_in_pieces = rw (samples_add padding unread a b, in_turn padding a b, left_unread) (regroup (zeros padding unread a b) (zeros' padding unread a b) (samples padding unread a b) (samples' padding unread a b))
    where
      regroup : (z z' n n' : ℕ) → z + z' + (n + n') ≡ z + n + (z' + n')
      regroup z z' n n' = omega arith

  pub progress_in_pieces : read_on s (a + b) ≡ read_on (read_on s a) b
  progress_in_pieces =
      rw (samples_add padding unread a b, in_turn padding a b, left_unread, sub-add-eq padding (zeros padding unread a b) (zeros' padding unread a b), add_assoc s.next_read (samples padding unread a b) (samples' padding unread a b))

-- ---- and by the frame's samples, whatever they are
module _ (sample : ℕ → ℤ) (s : Progress) where
  -- what is handed out is at the front of the room
  pub handed_front : (room : List ℤ) → take (written_count s (length room)) (room_after sample s room) ≡ handed_out sample s (length room)
  unfolding handed_out
  handed_front room =
      take_at (handed_out sample s (length room)) (drop (written_count s (length room)) room) (written_count s (length room)) (length_out (pos 0) sample (zeros_read s (length room)) s.next_read (samples_read s (length room)))

  module _ (a b : ℕ) where
    pub handed_in_pieces : handed_out sample s (a + b) ≡ handed_out sample s a ++ handed_out sample (read_on s a) b
    unfolding handed_out
    handed_in_pieces =
        rw (samples_add (padding s a b) (unread s a b) a b, in_turn (padding s a b) a b, left_unread s a b) (out_in_pieces (pos 0) sample _ _ s.next_read _ _ (one_first (padding s a b) (unread s a b) a b))

    -- the first room is filled, or nothing is left for the second
    first_full : (written_count s a ≡ a) ⊎ ((written_count (read_on s a) b ≡ 0) × (handed_out sample (read_on s a) b ≡ []))
    unfolding handed_out
    first_full =
        rw (left_unread s a b)
        (⊎_elim inl (λ (e : zeros' (padding s a b) (unread s a b) a b + samples' (padding s a b) (unread s a b) a b ≡ 0). inr (e, nothing_out (pos 0) sample _ _ _ e)) (filled_or_done (padding s a b) (unread s a b) a b))

  pub rooms_in_pieces : (a b : List ℤ) → room_after sample s (a ++ b) ≡ room_after sample s a ++ room_after sample (read_on s (length a)) b
  rooms_in_pieces a b =
      let A = length a in
      let B = length b in
      rw (length-append a b, counts_in_pieces s A B, handed_in_pieces A B)
      (rooms_joined (handed_out sample s A) (handed_out sample (read_on s A) B) a b (written_count s A) (written_count (read_on s A) B) (omega arith) (first_full A B))

-- ---- a record's read
answered : (m : SoftModulator) (room : List ℤ) → (drained m room).answer ≡ wrote (written_count m.progress (length room))
unfolding drained
answered m room = refl

same_count : (i j : ℕ) → wrote i ≡ wrote j → i ≡ j
same_count i j e = cc

module _ (m : SoftModulator) (a b : List ℤ) where
  abbrev next : SoftModulator
  next = (drained m a).modulator

  records_drained : (drained m (a ++ b)).modulator ≡ (drained next b).modulator
  unfolding drained
  records_drained = rw (length-append a b) (ap (λ (s : Progress). with_progress s m) (progress_in_pieces m.progress (length a) (length b)))

  counts_drained : written_count m.progress (length (a ++ b)) ≡ written_count m.progress (length a) + written_count next.progress (length b)
  unfolding drained
  counts_drained = rw (length-append a b) (counts_in_pieces m.progress (length a) (length b))

  handed_drained : handed_out (stored_sample m) m.progress (length a + length b) ≡ handed_out (stored_sample m) m.progress (length a) ++ handed_out (stored_sample next) next.progress (length b)
  unfolding drained
  handed_drained = handed_in_pieces (stored_sample m) m.progress (length a) (length b)

  rooms_drained : (drained m (a ++ b)).room ≡ (drained m a).room ++ (drained next b).room
  unfolding drained
  rooms_drained = rooms_in_pieces (stored_sample m) m.progress a b

pub record InPieces (R : Rate) (m : SoftModulator) (a b : List ℤ) : Type 0 where
  pub samples : let next = (read R m a).modulator in
      handed_out (stored_sample m) m.progress (length a + length b) ≡ handed_out (stored_sample m) m.progress (length a) ++ handed_out (stored_sample next) next.progress (length b)
  pub answer : (i j : ℕ) → (read R m a).answer ≡ wrote i → (read R (read R m a).modulator b).answer ≡ wrote j → (read R m (a ++ b)).answer ≡ wrote (i + j)
  pub modulator : (read R m (a ++ b)).modulator ≡ (read R (read R m a).modulator b).modulator
  pub room : (read R m (a ++ b)).room ≡ (read R m a).room ++ (read R (read R m a).modulator b).room

pub in_pieces : (R : Rate) (m : SoftModulator) → record_fit_lem R.p m ≡ true → (a b : List ℤ) → InPieces R m a b
in_pieces R m e a b =
    let at_once = read_fit R m (a ++ b) e in
    let first = read_fit R m a e in
    let second = read_fit R (drained m a).modulator b (drained_fit R m e a) in
    record {
      samples = rw first (handed_drained m a b);
      answer = λ i j p q.
          let i-is : written_count m.progress (length a) ≡ i = same_count _ _ (sym (answered m a) ∙ rw first at p) in
          let j-is : written_count (drained m a).modulator.progress (length b) ≡ j = same_count _ _ (sym (answered (drained m a).modulator b) ∙ rw (first, second) at q) in
          rw (at_once, answered m (a ++ b), counts_drained m a b, i-is, j-is);
      modulator = rw (at_once, first, second) (records_drained m a b);
      room = rw (at_once, first, second) (rooms_drained m a b);
    }
