-- The sender's control: how far the frame at hand is read, what is pending, and the card's buffer. A record keeps it, and so do the rules over all calls.
-- Over p, the samples in a symbol. Assumes nothing.
use Rattle.std.specs.Prelude.{true, false, cond, ◌||◌, List, ◌++◌, ℕ, ◌+◌, ◌-◌, ◌*◌, min, leb, ℤ, pos, length, drop, replicate, Some, None}
use Rattle.numbers.specs.Firsts.{firsts}
use Rattle.shaping.specs.Rate.{wish_room_lem}
use Rattle.modulator.specs.declared.Progress.{Progress}
use Rattle.modulator.specs.declared.Pending.{Pending}
use Rattle.modulator.specs.declared.OutputBuffer.{OutputBuffer}

pub record Control : Type 0 where
  pub progress : Progress
  pub pending : Pending
  pub buffer : OutputBuffer

-- "An update stores fill, capacity and latency."
abbrev pub buffer_of : ℕ → ℕ → ℕ → OutputBuffer
buffer_of fill capacity latency = record { output_latency = record { 0 = latency }; samples_in_buf = record { 0 = fill }; buf_capacity = record { 0 = capacity } }

-- "idle yes (once from a fresh start)"
abbrev pub fresh_control : Control
fresh_control = record {
  progress = record { next_len = 0; next_read = 0; tx_delay_padding = record { 0 = 0 } };
  pending = record { update_idle = true; calculate_tx_end = false; report_tx_end = None; try_get_frame = false };
  buffer = buffer_of 0 0 0;
}

-- ---- the progress
-- a frame of so many symbols: "length and read place restart"
abbrev pub restarted : ℕ → ℕ → ℕ → Progress
restarted p symbols padding = record { next_len = p * symbols; next_read = 0; tx_delay_padding = record { 0 = padding } }

-- "Reading writes padding zeros first, then frame samples into the rest of the caller's room."
abbrev pub zeros_read : Progress → ℕ → ℕ
zeros_read s room = min room s.tx_delay_padding.0

-- "frame samples unread"
abbrev pub unread : Progress → ℕ
unread s = s.next_len - s.next_read

abbrev pub samples_read : Progress → ℕ → ℕ
samples_read s room = min (room - zeros_read s room) (unread s)

abbrev pub written_count : Progress → ℕ → ℕ
written_count s room = zeros_read s room + samples_read s room

abbrev pub read_on : Progress → ℕ → Progress
read_on s room = record { next_len = s.next_len; next_read = s.next_read + samples_read s room; tx_delay_padding = record { 0 = s.tx_delay_padding.0 - zeros_read s room } }

-- what a read hands out, where `sample i` is sample i of the frame
unfoldable pub handed_out : (ℕ → ℤ) → Progress → ℕ → List ℤ
handed_out sample s room = replicate (zeros_read s room) (pos 0) ++ firsts (λ (i : ℕ). sample (s.next_read + i)) (samples_read s room)

-- "It reports how many were written; the rest of the room is unchanged. Room 0 writes 0."
abbrev pub room_after : (ℕ → ℤ) → Progress → List ℤ → List ℤ
room_after sample s room = handed_out sample s (length room) ++ drop (written_count s (length room)) room

-- ---- what is pending
-- "None only drops the wish for a frame."
abbrev pub dropped : Pending → Pending
dropped s = record { update_idle = s.update_idle; calculate_tx_end = s.calculate_tx_end; report_tx_end = s.report_tx_end; try_get_frame = false }

-- "and a transmit end owed"
abbrev pub ended : Pending → Pending
ended s = record { update_idle = s.update_idle; calculate_tx_end = true; report_tx_end = s.report_tx_end; try_get_frame = s.try_get_frame }

-- "From now on the reported end is fill + latency + padding left + frame samples unread."
abbrev pub end_report : ℕ → ℕ → ℕ → ℕ → ℕ
end_report fill latency padding samples = fill + latency + padding + samples

-- the same by how far the frame is read
abbrev pub end_after_lem : ℕ → ℕ → Progress → ℕ
end_after_lem fill latency s = end_report fill latency s.tx_delay_padding.0 (unread s)

-- "If a transmit end is owed, it is reported". "If capacity - fill is at least 2,000 the wish for a frame is raised. Less
-- room does not lower it."; document 02 k): "a wish needs room of 1,000"
abbrev pub updated_pending_lem : ℕ → ℕ → ℕ → ℕ → Pending → Pending
updated_pending_lem p fill capacity end s = record {
  update_idle = s.update_idle;
  calculate_tx_end = false;
  report_tx_end = cond s.calculate_tx_end (Some (record { 0 = end })) s.report_tx_end;
  try_get_frame = leb (wish_room_lem p) (capacity - fill) || s.try_get_frame;
}

-- "transmit end (once)"
abbrev pub reported : Pending → Pending
reported s = record { update_idle = s.update_idle; calculate_tx_end = s.calculate_tx_end; report_tx_end = None; try_get_frame = s.try_get_frame }

-- "idle yes (once from a fresh start)"
abbrev pub idled : Pending → Pending
idled s = record { update_idle = false; calculate_tx_end = s.calculate_tx_end; report_tx_end = s.report_tx_end; try_get_frame = s.try_get_frame }
