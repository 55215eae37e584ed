-- Small records that meet what the laws of the sender ask, and what the calls make of them, at 48 kHz. Assumes nothing.
use Rattle.std.specs.Prelude.{Some, None}
use mathlib.Core.Path.{◌≡◌, refl}
use mathlib.Core.Bool.{true, false}
use mathlib.Core.List.{[], ◌∷◌}
use lib.Dec.{lit<, lit≤}
use lib.IntN.{pos}
use lib.ListN.{replicate}
use lib.Ieee.{of_bits, le}
use Rattle.numbers.specs.Below.{all_below}
use Rattle.numbers.specs.Firsts.{firsts}
use Rattle.shaping.specs.Rate.{at48}
use Rattle.modulator.specs.declared.SoftModulator.{SoftModulator}
use Rattle.modulator.specs.Paper.{wrote, transmit_end, read_output, idle}
use Rattle.modulator.specs.Control.{handed_out}
use Rattle.modulator.specs.Record.{fresh, with_pending}
use Rattle.modulator.specs.Fit.{pulse_fit, window_fit, record_fit_lem}
use Rattle.modulator.specs.Calls.{left, drained, read, updated, ran}
use Rattle.modulator.proofs.Fitness.{RecordFacts, record_facts}
use Rattle.modulator.proofs.Cases.{read_fit, run_end, run_read, run_idle}
use Rattle.modulator_laws.proofs.Kept.{read_keeps, update_keeps, run_keeps}
use Rattle.modulator_laws.proofs.Once.{no_room, wish_stays, end_once, idle_once}
use Rattle.modulator_laws.proofs.Pieces.{InPieces, in_pieces}

-- ---- records: two zeros and three samples to hand out; an end to report, and a wish for a frame; a cursor past its end
abbrev sending : SoftModulator
sending = record {
  rate = 48000;
  next_transmission = pos 11 ∷ pos 12 ∷ pos 13 ∷ replicate 3997 (pos 0);
  filter_win = (fresh 48000).filter_win;
  filter_cursor = 0;
  progress = record { next_len = 3; next_read = 0; tx_delay_padding = record { 0 = 2 } };
  pending = (fresh 48000).pending;
  buffer = (fresh 48000).buffer;
}

abbrev ending : SoftModulator
ending = with_pending (record { update_idle = false; calculate_tx_end = false; report_tx_end = Some (record { 0 = 600 }); try_get_frame = true }) (fresh 48000).buffer (fresh 48000)

abbrev pub astray : SoftModulator
astray = record {
  rate = 48000;
  next_transmission = (fresh 48000).next_transmission;
  filter_win = (fresh 48000).filter_win;
  filter_cursor = 81;
  progress = (fresh 48000).progress;
  pending = (fresh 48000).pending;
  buffer = (fresh 48000).buffer;
}

pub fresh_fit : record_fit_lem 10 (fresh 48000) ≡ true
unfolding record_fit_lem window_fit fresh all_below pulse_fit of_bits le
fresh_fit = refl

sending_fit : record_fit_lem 10 sending ≡ true
unfolding record_fit_lem window_fit fresh all_below pulse_fit of_bits le
sending_fit = refl

ending_fit : record_fit_lem 10 ending ≡ true
unfolding record_fit_lem window_fit fresh all_below pulse_fit of_bits le
ending_fit = refl

pub astray_unfit : record_fit_lem 10 astray ≡ false
unfolding record_fit_lem window_fit fresh all_below pulse_fit of_bits le
astray_unfit = refl

-- ---- the laws at them
sending_facts : RecordFacts 10 sending
sending_facts = record_facts 10 sending sending_fit

sending_in_pieces : InPieces at48 sending (pos 7 ∷ []) (pos 8 ∷ pos 9 ∷ [])
sending_in_pieces = in_pieces at48 sending sending_fit (pos 7 ∷ []) (pos 8 ∷ pos 9 ∷ [])

sending_kept : record_fit_lem 10 (read at48 sending (pos 7 ∷ [])).modulator ≡ true
sending_kept = read_keeps at48 sending sending_fit (pos 7 ∷ [])

fresh_kept : record_fit_lem 10 (updated at48 (fresh 48000) 100 3000 50).modulator ≡ true
fresh_kept = update_keeps at48 (fresh 48000) fresh_fit 100 3000 50

ending_kept : record_fit_lem 10 (ran at48 ending).modulator ≡ true
ending_kept = run_keeps at48 ending ending_fit

-- ---- the calls at them
-- the room's last place is as it was
read_sending : (read at48 sending (pos 7 ∷ pos 7 ∷ pos 7 ∷ pos 7 ∷ pos 7 ∷ pos 7 ∷ [])).room ≡ pos 0 ∷ pos 0 ∷ pos 11 ∷ pos 12 ∷ pos 13 ∷ pos 7 ∷ []
unfolding drained handed_out firsts fresh
read_sending = rw (read_fit at48 sending (pos 7 ∷ pos 7 ∷ pos 7 ∷ pos 7 ∷ pos 7 ∷ pos 7 ∷ []) sending_fit)

run_sending : (ran at48 sending).answer ≡ read_output
unfolding fresh
run_sending = rw (run_read at48 sending sending_fit refl (lit< tt))

run_ending : (ran at48 ending).answer ≡ transmit_end 600
unfolding fresh
run_ending = rw (run_end at48 ending (record { 0 = 600 }) ending_fit refl)

run_fresh : (ran at48 (fresh 48000)).answer ≡ idle true
unfolding fresh
run_fresh = rw (run_idle at48 (fresh 48000) fresh_fit refl (lit≤ tt) refl)

-- ---- and the laws at these answers
ending_once : (ran at48 ending).modulator.pending.report_tx_end ≡ None
ending_once = end_once at48 ending 600 run_ending

fresh_once : (ran at48 (fresh 48000)).modulator.pending.update_idle ≡ false
fresh_once = idle_once at48 (fresh 48000) run_fresh

-- no room at all is left in the card's buffer
ending_wishes : (updated at48 ending 3000 3000 0).modulator.pending.try_get_frame ≡ true
ending_wishes = wish_stays at48 ending 3000 3000 0 refl

sending_no_room : read at48 sending [] ≡ left (wrote 0) sending []
sending_no_room = no_room at48 sending sending_fit
