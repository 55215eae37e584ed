-- Small instances of the laws of the end of transmission, of idle and of reads in pieces: what they ask can be met. Assumes nothing.
use mathlib.Core.Path.{◌≡◌, refl}
use mathlib.Core.Bool.{true}
use mathlib.Core.List.{List, [], ◌∷◌, flatten}
use lib.Dec.{lit≤, lit<}
use lib.IntN.{ℤ, pos}
use lib.ListN.{replicate}
use lib.Ieee.{binary32, of_bits, le}
use Rattle.numbers.specs.Below.{all_below}
use Rattle.numbers.specs.Firsts.{firsts}
use Rattle.machine.specs.Runs.{run, answers, Each}
use Rattle.shaping.specs.Rate.{at48}
use Rattle.shaping.proofs.RateFacts.{facts48}
use Rattle.pulse.specs.Pulse.{pulses}
use Rattle.modulator.specs.declared.SoftModulator.{SoftModulator}
use Rattle.modulator.specs.declared.ModulatorFrame.TheVariants.{EndOfTransmission}
use Rattle.modulator.specs.Paper.{idle}
use Rattle.modulator.specs.Frame.{ending}
use Rattle.modulator.specs.Record.{fresh}
use Rattle.modulator.specs.Fit.{pulse_fit, window_fit, record_fit_lem}
use Rattle.modulator.specs.Calls.{provided}
use Rattle.modulator_run.specs.Stream.{sent_at}
use Rattle.modulator_run.specs.Rules.{read, ask, called, sent_all}
use Rattle.modulator_run.specs.Run.{left, said_by, sender, record_after, Given}
use Rattle.modulator_run.specs.Reports.{Free, FreeBefore}
use Rattle.modulator_run.specs.EndFrame.{EndFrame}
use Rattle.modulator_run.specs.Pieces.{reads, SameAs, SameLeft}
use Rattle.modulator_run.proofs.LastCall.{no_parts}
use Rattle.modulator_run.proofs.IdleOnce.{idle_first, idle_only, idle_by_record}
use Rattle.modulator_run.proofs.Flush.{flush_pulse, end_silent}
use Rattle.modulator_run.proofs.EndFrame.{end_frame}
use Rattle.modulator_run.proofs.AnyPieces.{pieces_read, pieces_left}
use Rattle.modulator_run.proofs.Worked.{opening, opening_given}

-- ---- the end of transmission from a made_up record: whole symbols in all places of the window, and the cursor in its middle
abbrev made_up : SoftModulator
made_up = record {
  rate = 48000;
  next_transmission = replicate 4000 (pos 9);
  filter_win = replicate 81 (of_bits binary32 0x470a_8500);
  filter_cursor = 40;
  progress = record { next_len = 4000; next_read = 17; tx_delay_padding = record { 0 = 122400 } };
  pending = (fresh 48000).pending;
  buffer = (fresh 48000).buffer;
}

made_up_fit : record_fit_lem 10 made_up ≡ true
unfolding record_fit_lem window_fit pulse_fit all_below fresh of_bits le
made_up_fit = refl

made_up_ends : EndFrame at48 made_up (provided at48 made_up EndOfTransmission [])
made_up_ends = end_frame made_up made_up_fit []

-- by the rules, at ten samples a symbol: after one symbol the 2,720th sample of the end is zero
last_flushed : pulses 10 ending.symbol 1911 ≡ of_bits binary32 0
last_flushed = flush_pulse 10 (lit< tt) 1911 (lit< tt)

last_silent : sent_at at48 (of_bits binary32 0x3f80_0000 ∷ firsts ending.symbol 272) 2730 ≡ pos 0
last_silent = end_silent at48 facts48 (of_bits binary32 0x3f80_0000 ∷ []) 728 (lit< tt)

-- ---- the first request of all
free_at_first : Free (sent_all at48 [])
unfolding run
free_at_first = record { no_report_lem = refl; all_read = lit≤ tt }

none_earlier : FreeBefore at48 [] → ⊥
none_earlier f = no_parts f.before ask f.since f.parts

idle_at_first : (called at48 (sent_all at48 []) ask).said.answer ≡ idle true
idle_at_first = idle_first at48 [] free_at_first none_earlier

idle_because : (true ≡ true) × Free (sent_all at48 []) × (FreeBefore at48 [] → ⊥)
idle_because = idle_only at48 [] true idle_at_first

idle_of_record : (left (record_after at48 []) ask).answer ≡ idle true
idle_of_record = (idle_by_record at48 facts48 [] (unfold Each Given in tt)).1 (free_at_first, none_earlier)

-- ---- three rooms, one of them empty
abbrev rooms : List (List ℤ)
rooms = (pos 1 ∷ pos 2 ∷ []) ∷ [] ∷ (pos 3 ∷ []) ∷ []

made_up_read : SameLeft at48 made_up rooms
made_up_read = pieces_left rooms made_up made_up_fit

opening_read_on : SameAs (answers sender (record_after at48 opening) (reads rooms)) (said_by (left (record_after at48 opening) (read (flatten rooms))))
opening_read_on = pieces_read at48 facts48 opening opening_given rooms
