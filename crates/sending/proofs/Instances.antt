-- What meets the laws' hypotheses: no text, document 01's whole case in one read and in two, a bad first line, a byte past a line's
-- end, and an unfit sender. Assumes nothing.
use mathlib.Core.Path.{◌≡◌, refl, ap, ◌∙◌}
use mathlib.Core.Bool.{false}
use mathlib.Core.List.{List, [], ◌∷◌, ◌++◌, flatten}
use Prim.Native.Nat.{ℕ, ◌+◌, ◌*◌, ◌<◌}
use lib.Dec.{lit<, lit≤}
use lib.ListN.{length, take, drop, replicate}
use lib.Ieee.{le, of_bits}
use Rattle.numbers.specs.Below.{all_below}
use Rattle.numbers.specs.Firsts.{firsts}
use Rattle.shaping.specs.Rate.{at48, rate_of}
use Rattle.protocol.specs.Refusals.{bare}
use Rattle.modulator.specs.declared.ModulatorFrame.TheVariants.{EndOfTransmission}
use Rattle.modulator.specs.Paper.{refusal, done}
use Rattle.modulator.specs.Record.{fresh}
use Rattle.modulator.specs.Fit.{pulse_fit, window_fit, record_fit_lem}
use Rattle.modulator.specs.Outcome.{frame_outcome}
use Rattle.modulator.specs.Calls.{settled, provided}
use Rattle.modulator.specs.Calls.{read as readInto}
use Rattle.modulator_run.specs.Run.{Delay}
use Rattle.house.specs.Digits.{capitals, place_in, value_of}
use Rattle.house.specs.Line.{line_feed, good_line, no_symbols}
use Rattle.house.specs.BadLine.{tens_in, decimal, heading, bad_line_lem, in_room}
use Rattle.sending.specs.declared.Sending.{Sending}
use Rattle.sending.specs.Text.{has_feed_lem, lines_of, good_front, AllGood, none, in_line, first_bad_lem, preamble_symbols, end_symbols, line_symbols, stream_samples, samples_sent, sample_bytes, bytes_sent}
use Rattle.sending.specs.Calls.{Left, is_refusal, empty_room, part_of, quiet, starting, opened, lacking, added, held, judged, moved, with_taken, turned, words}
use Rattle.sending.specs.Run.{Fitting, calls_from, calls_over, calls_until, written_by, AllDone, AllTaken, last_of, last_call, last_until, told_of, last_words, Begins}
use Rattle.sending.proofs.OnePart.{sits_fit}
use Rattle.sending.proofs.Turns.{turned_fit}
use Rattle.sending.proofs.RefusedTurn.{refused_exactly, read_follows, refused_turn}
use Rattle.sending.proofs.BytesTaken.{bytes_taken, surplus}
use Rattle.sending.proofs.SendRun.{opened_stands, send_run}
use Rattle.sending.proofs.AnyText.{asks_some, output_prefix, failed_write, failed_last_write}
use Rattle.sending.proofs.GoodLines.{lines_back, good_lines_lem, send_good, send_good_tells, samples_sent_lem, bytes_sent_lem}

-- ---- "No input lines give 4,640 samples."
pub no_text_samples : length (samples_sent []) ≡ 4640
unfolding lines_of good_front
no_text_samples = samples_sent_lem []

no_text_bytes : length (bytes_sent []) ≡ 9280
unfolding lines_of good_front
no_text_bytes = bytes_sent_lem []

no_reads : written_by (calls_over []) ≡ bytes_sent []
unfolding flatten Fitting
no_reads = (send_run [] tt).written

-- ---- "Whole case: the input is one line, 55F7 and 92 digits 0. Send writes 6,560 samples, 13,120 bytes."
pub whole_case : List ℕ
whole_case = 0x35 ∷ 0x35 ∷ 0x46 ∷ 0x37 ∷ (replicate 92 0x30 ++ (line_feed ∷ []))

pub whole_case_good : AllGood (whole_case ∷ [])
unfolding whole_case AllGood good_line all_below value_of place_in capitals
whole_case_good = (refl, tt)

pub whole_case_lines : lines_of (flatten (whole_case ∷ [])) ≡ whole_case ∷ []
whole_case_lines = lines_back (whole_case ∷ []) whole_case_good

whole_case_samples : length (samples_sent (flatten (whole_case ∷ []))) ≡ 6560
whole_case_samples = samples_sent_lem (flatten (whole_case ∷ [])) ∙ ap (λ (lines : List (List ℕ)). 4640 + 1920 * length lines) (good_lines_lem (whole_case ∷ []) whole_case_good)

whole_case_bytes : length (bytes_sent (flatten (whole_case ∷ []))) ≡ 13120
whole_case_bytes = bytes_sent_lem (flatten (whole_case ∷ [])) ∙ ap (λ (lines : List (List ℕ)). 9280 + 3840 * length lines) (good_lines_lem (whole_case ∷ []) whole_case_good)

-- in one read
pub whole_case_fits : Fitting opened.sending (whole_case ∷ [])
unfolding Fitting opened part_of starting whole_case
whole_case_fits = (lit< tt, (lit≤ tt, λ _. tt))

whole_case_tells : told_of (last_call (whole_case ∷ [])) ≡ none
whole_case_tells = send_good_tells (whole_case ∷ []) whole_case_good (whole_case ∷ []) refl whole_case_fits (lit≤ tt)

whole_case_silent : last_words (whole_case ∷ []) ≡ record { bytes = replicate 40 0; length = 0 }
unfolding words in_room
whole_case_silent = ap words whole_case_tells

whole_case_written : written_by (calls_over (whole_case ∷ [])) ≡ sample_bytes (stream_samples (preamble_symbols ++ (line_symbols (whole_case ∷ []) ++ end_symbols)))
whole_case_written = send_good (whole_case ∷ []) whole_case_good (whole_case ∷ []) refl whole_case_fits

-- in two reads
two_reads : List (List ℕ)
two_reads = take 50 whole_case ∷ drop 50 whole_case ∷ []

-- a fit record takes the first
abbrev half_left : Left
half_left = with_taken (length (added opened.sending (take 50 whole_case))) (moved opened.sending (take 50 whole_case))

half_turned : turned opened.sending (take 50 whole_case) ≡ half_left
half_turned = turned_fit opened.sending (take 50 whole_case) (sits_fit opened_stands.sits)

rest_fits : Fitting half_left.sending (drop 50 whole_case ∷ [])
unfolding Fitting opened part_of starting whole_case moved judged held has_feed_lem
rest_fits = (lit< tt, (lit≤ tt, λ _. tt))

-- and between them the line lacks a byte at least
half_fits : Fitting opened.sending (take 50 whole_case ∷ [])
unfolding Fitting opened part_of starting whole_case
half_fits = (lit< tt, (lit≤ tt, λ _. tt))

two_reads_fit : Fitting opened.sending two_reads
unfolding two_reads Fitting
two_reads_fit = (half_fits.0, (half_fits.1.0, λ _. rw half_turned rest_fits))

half_goes_on : (last_until (take 50 whole_case ∷ [])).last ≡ false
unfolding last_of calls_until opened part_of starting whole_case moved judged held has_feed_lem
half_goes_on = rw half_turned

half_asks : 0 < lacking (last_until (take 50 whole_case ∷ [])).sending
half_asks = asks_some (take 50 whole_case ∷ []) half_fits half_goes_on

two_reads_taken : AllTaken opened.sending two_reads
two_reads_taken = (send_run two_reads two_reads_fit).takes

two_reads_prefix : Begins (written_by (opened ∷ calls_until opened.sending two_reads)) (bytes_sent (flatten two_reads ++ whole_case))
two_reads_prefix = output_prefix two_reads two_reads_fit whole_case

-- a write of the second part that fails after its first byte
two_reads_failed : Begins (take 3841 (written_by (opened ∷ calls_until opened.sending two_reads))) (bytes_sent (flatten two_reads ++ whole_case))
two_reads_failed = failed_write two_reads two_reads_fit whole_case 3841

two_reads_cut : Begins (take 1 (written_by (calls_over two_reads))) (bytes_sent (flatten two_reads))
two_reads_cut = failed_last_write two_reads two_reads_fit 1

-- ---- a line feed alone: the first line is bad
feed_fits : Fitting opened.sending ((line_feed ∷ []) ∷ [])
unfolding Fitting opened part_of starting
feed_fits = (lit< tt, (lit≤ tt, λ _. tt))

feed_tells : told_of (last_call ((line_feed ∷ []) ∷ [])) ≡ in_line 1
unfolding flatten lines_of first_bad_lem good_line all_below value_of place_in capitals
feed_tells = (send_run ((line_feed ∷ []) ∷ []) feed_fits).tells (lit≤ tt)

FeedSays : last_words ((line_feed ∷ []) ∷ []) ≡ in_room (heading ++ (0x31 ∷ line_feed ∷ []))
unfolding words bad_line_lem decimal tens_in firsts
FeedSays = ap words feed_tells

-- ---- a byte past a line's end changes nothing, and is not among the 97 that are taken
past_end : List ℕ
past_end = whole_case ++ (0x35 ∷ [])

past_end_same : turned opened.sending past_end ≡ turned opened.sending whole_case
unfolding past_end opened part_of starting whole_case
past_end_same = surplus opened.sending whole_case (0x35 ∷ []) (lit< tt) (lit≤ tt)

past_end_done : (turned opened.sending past_end).answer ≡ done
unfolding AllDone calls_from
past_end_done = ap (λ (l : Left). l.answer) past_end_same ∙ (send_run (whole_case ∷ []) whole_case_fits).answers.1.0

past_end_taken : (turned opened.sending past_end).taken ≡ 97
unfolding past_end opened part_of starting whole_case
past_end_taken = bytes_taken opened.sending past_end past_end_done

-- ---- a fresh sender's end of transmission, which is then read
fresh_ends : (provided at48 (fresh 48000) EndOfTransmission no_symbols).answer ≡ done
unfolding provided settled frame_outcome record_fit_lem window_fit pulse_fit all_below fresh of_bits le
fresh_ends = refl

fresh_end_read : let taken = (provided at48 (fresh 48000) EndOfTransmission no_symbols).modulator in is_refusal (readInto (rate_of taken.rate) taken empty_room).answer ≡ false
unfolding Delay fresh
fresh_end_read = read_follows (fresh 48000) EndOfTransmission no_symbols tt fresh_ends empty_room

-- ---- an unfit sender, "cursor past 80", with half of the whole case's line at hand
unfit : Sending
unfit = record {
  modulator = record {
    rate = 48000;
    next_transmission = (fresh 48000).next_transmission;
    filter_win = (fresh 48000).filter_win;
    filter_cursor = 81;
    progress = (fresh 48000).progress;
    pending = (fresh 48000).pending;
    buffer = (fresh 48000).buffer;
  };
  line = whole_case;
  have = 50;
  number = 7;
}

-- a good line's bytes, a bad line's, some that end no line, and the end of the input
unfit_line : turned unfit (drop 50 whole_case) ≡ quiet (refusal (bare 1)) unfit false
unfolding unfit record_fit_lem
unfit_line = refused_turn unfit (drop 50 whole_case) (bare 1) (refused_exactly unfit (drop 50 whole_case))

unfit_bad : turned unfit (line_feed ∷ []) ≡ quiet (refusal (bare 1)) unfit false
unfolding unfit record_fit_lem
unfit_bad = refused_turn unfit (line_feed ∷ []) (bare 1) (refused_exactly unfit (line_feed ∷ []))

unfit_more : turned unfit (0x30 ∷ []) ≡ quiet (refusal (bare 1)) unfit false
unfolding unfit record_fit_lem
unfit_more = refused_turn unfit (0x30 ∷ []) (bare 1) (refused_exactly unfit (0x30 ∷ []))

unfit_end : turned unfit [] ≡ quiet (refusal (bare 1)) unfit false
unfolding unfit record_fit_lem
unfit_end = refused_turn unfit [] (bare 1) (refused_exactly unfit [])
