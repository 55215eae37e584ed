-- What a sender's thirteen numbers mean, and the numbers of a sender. Assumes nothing.
use Rattle.modulator.specs.declared.SampleCount.{SampleCount}
use Rattle.std.specs.Prelude.{Bool, cond, ◌&&◌, List, [], ◌∷◌, ℕ, leb, eqb, ℤ, get_or, Float, Option, Some, None}
use Rattle.shaping.specs.Rate.{rate_fit}
use Rattle.protocol.specs.Refusals.{bare}
use Rattle.modulator.specs.declared.Progress.{Progress}
use Rattle.modulator.specs.declared.Pending.{Pending}
use Rattle.modulator.specs.declared.SoftModulator.{SoftModulator}
use Rattle.modulator.specs.Control.{buffer_of}
use Rattle.library_codes.specs.Codes.{refusal_code, flag_number}

-- ---- numbers that are a sender's: its rate is one of the two, and its flags are 0 or 1
abbrev pub flags_fit : List ℕ → Bool
flags_fit n = leb (get_or n 5 0) 1 && leb (get_or n 6 0) 1 && leb (get_or n 7 0) 1 && leb (get_or n 9 0) 1

-- 15: "any rate but the two, checked first"; 1: "record unfit"; 0 of a sender's
unfoldable pub numbers_code : List ℕ → ℕ
numbers_code n = cond (rate_fit (get_or n 0 0)) (cond (flags_fit n) 0 (refusal_code (bare 1))) (refusal_code (bare 15))

-- ---- from the numbers to the record
unfoldable pub report_in_lem : List ℕ → Option SampleCount
report_in_lem n = cond (eqb (get_or n 7 0) 0) None (Some (record { 0 = get_or n 8 0 }))

abbrev pub progress_in : List ℕ → Progress
progress_in n = record { next_len = get_or n 2 0; next_read = get_or n 3 0; tx_delay_padding = record { 0 = get_or n 4 0 } }

abbrev pub pending_in : List ℕ → Pending
pending_in n = record { update_idle = eqb (get_or n 5 0) 1; calculate_tx_end = eqb (get_or n 6 0) 1; report_tx_end = report_in_lem n; try_get_frame = eqb (get_or n 9 0) 1 }

abbrev pub sender_in : List ℤ → List Float → List ℕ → SoftModulator
sender_in store window n = record {
  rate = get_or n 0 0;
  next_transmission = store;
  filter_win = window;
  filter_cursor = get_or n 1 0;
  progress = progress_in n;
  pending = pending_in n;
  buffer = buffer_of (get_or n 11 0) (get_or n 12 0) (get_or n 10 0);
}

-- ---- and back
abbrev pub held_of : Option SampleCount → ℕ
held_of None = 0
held_of (Some end) = 1

abbrev pub end_of : Option SampleCount → ℕ
end_of None = 0
end_of (Some end) = end.0

abbrev pub numbers_of_lem : SoftModulator → List ℕ
numbers_of_lem m =
    m.rate
    ∷ m.filter_cursor
    ∷ m.progress.next_len
    ∷ m.progress.next_read
    ∷ m.progress.tx_delay_padding.0
    ∷ flag_number m.pending.update_idle
    ∷ flag_number m.pending.calculate_tx_end
    ∷ held_of m.pending.report_tx_end
    ∷ end_of m.pending.report_tx_end
    ∷ flag_number m.pending.try_get_frame
    ∷ m.buffer.output_latency.0
    ∷ m.buffer.samples_in_buf.0
    ∷ m.buffer.buf_capacity.0
    ∷ []
