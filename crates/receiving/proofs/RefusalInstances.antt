-- Small instances of a refused call with bytes, and of calls that consume nothing or one byte. Assumes nothing.
use Rattle.std.specs.Prelude.{Some, None, Err}
use mathlib.Core.Path.{◌≡◌, refl, ap}
use mathlib.Core.Bool.{true, false}
use mathlib.Core.List.{List, [], ◌∷◌, flat_map}
use Prim.Native.Nat.{ℕ, ◌^◌, ◌≤◌}
use lib.Dec.{lit≤}
use lib.IntN.{pos}
use lib.ListN.{length, replicate}
use lib.Ieee.{of_bits, lt, le}
use Rattle.numbers.specs.Below.{all_below}
use Rattle.machine.specs.Runs.{run, answers}
use Rattle.shaping.specs.Rate.{at48, at24}
use Rattle.protocol.specs.declared.Refusal.TheVariants.{RecordUnfit, CountAtItsEnd, WrongRate}
use Rattle.protocol.specs.Refusals.{bare}
use Rattle.decode.specs.Correlator.{in_range}
use Rattle.search.specs.declared.Candidate.TheVariants.{Nothing as NoCandidate}
use Rattle.search.specs.Fit.{candidate_fit_lem, wait_fit_lem, control_fit_lem}
use Rattle.demodulator.specs.declared.SoftDemodulator.{SoftDemodulator}
use Rattle.demodulator.specs.Record.{fresh_control, fresh, with_control}
use Rattle.demodulator.specs.Fit.{halves_agree_lem, rings_fit, record_fit_lem, fit_for_sample_lem}
use Rattle.demodulator.specs.Calls.{refusal, nothing, refused}
use Rattle.demodulator.specs.Singles.{blank}
use Rattle.demodulator.proofs.CallCases.{sample_unfit, sample_last}
use Rattle.listening.specs.Listener.{own_record}
use Rattle.listening.proofs.FirstSample.{RefusesAll}
use Rattle.receiving.specs.declared.Receiving.{Receiving}
use Rattle.receiving.specs.Pairs.{samples_of, odd_of}
use Rattle.receiving.specs.Text.{lines_of, text_from, go_in, batch_of, told_to}
use Rattle.receiving.specs.Hear.{Intake, intake_of, empty_told, record_intake, fresh_receiving}
use Rattle.receiving.proofs.FedStretch.{told_at, stuck_text}
use Rattle.receiving.proofs.RefusedHear.{Unmoved, refused_hear, refused_says, other_rate_lem, takes_some}

abbrev line : List ℕ
line = replicate 97 0

abbrev cursor_at : ℕ → ℕ → SoftDemodulator
cursor_at rate cursor = record { rate = rate; filter_win = []; filter_cursor = cursor; rx_win = []; rx_cursor = 0; control = fresh_control }

-- after a byte that waits
abbrev waits_on : SoftDemodulator → Receiving
waits_on m = record { demodulator = m; odd = Some 0x34 }

-- ---- a cursor past its window: each sample is refused with 1, also after a byte that waits
abbrev unfit : SoftDemodulator
unfit = cursor_at 48000 81

abbrev waits : Receiving
waits = waits_on unfit

unfit_stuck : RefusesAll 1 unfit
unfolding fit_for_sample_lem record_fit_lem halves_agree_lem all_below
unfit_stuck y = sample_unfit at48 unfit y blank refl refl

unfit_silent : text_from own_record unfit (pos 1 ∷ pos 2 ∷ []) ≡ []
unfit_silent = stuck_text 1 unfit unfit_stuck (pos 1 ∷ pos 2 ∷ [])

unfit_told : (record_intake waits (0x12 ∷ []) (length line)).answer ≡ refusal (bare 1)
unfolding intake_of samples_of
unfit_told = told_at unfit _ [] (refused 1 unfit blank) (unfit_stuck _)

unfit_unmoved : Unmoved waits line (record { answer = Err RecordUnfit; consumed = 0; written = 0; receiving = waits }) line
unfit_unmoved = refused_hear waits (0x12 ∷ []) line _ line (bare 1) (refused_says waits (0x12 ∷ []) line RecordUnfit unfit_told) refl

-- no byte at all, and it is refused all the same
unfit_empty : record_intake waits [] 0 ≡ record { answer = refusal (bare 1); consumed = 0; text = []; state = unfit; odd = Some 0x34 }
unfolding intake_of batch_of samples_of odd_of go_in told_to run answers lines_of flat_map record_fit_lem halves_agree_lem all_below
unfit_empty = refl

-- the place 41 is past the window at 24 kHz, as the record says its rate
past_24 : RefusesAll 1 (cursor_at 24000 41)
unfolding fit_for_sample_lem record_fit_lem halves_agree_lem all_below
past_24 y = sample_unfit at24 (cursor_at 24000 41) y blank refl refl

-- ---- a rate that is none: 15, and not 1, which applies too, since the cursor is past the window
abbrev other_rate : SoftDemodulator
other_rate = cursor_at 44100 81

other_unfit : rings_fit 10 other_rate ≡ false
unfolding halves_agree_lem all_below
other_unfit = refl

other_told : (record_intake (waits_on other_rate) (0x12 ∷ []) (length line)).answer ≡ refusal (bare 15)
other_told = ap (λ (f : Intake SoftDemodulator). f.answer) (other_rate_lem (waits_on other_rate) (0x12 ∷ []) (length line) refl)

other_unmoved : Unmoved (waits_on other_rate) line (record { answer = Err WrongRate; consumed = 0; written = 0; receiving = waits_on other_rate }) line
other_unmoved =
    refused_hear (waits_on other_rate) (0x12 ∷ []) line _ line (bare 15)
    (refused_says (waits_on other_rate) (0x12 ∷ []) line WrongRate other_told)
    refl

-- also with no byte and no room
other_empty : record_intake (waits_on other_rate) [] 0 ≡ record { answer = refusal (bare 15); consumed = 0; text = []; state = other_rate; odd = Some 0x34 }
other_empty = other_rate_lem (waits_on other_rate) [] 0 refl

-- ---- the count at its end
abbrev last : SoftDemodulator
last = with_control (record { candidate = NoCandidate; wait = None; dcd = None; owed = false; sample = 2 ^ 63 }) (fresh 48000)

abbrev counted : Receiving
counted = record { demodulator = last; odd = None }

last_fit : fit_for_sample_lem 10 last ≡ true
unfolding fresh fit_for_sample_lem record_fit_lem halves_agree_lem control_fit_lem candidate_fit_lem wait_fit_lem all_below in_range of_bits le lt
last_fit = refl

roomy : 192 ≤ length blank
unfolding blank
roomy = lit≤ tt

last_told : (record_intake counted (0x34 ∷ 0x12 ∷ 0x07 ∷ []) (length line)).answer ≡ refusal (bare 5)
unfolding intake_of samples_of fresh
last_told = told_at last _ [] (refused 5 last blank) (sample_last at48 last _ blank last_fit refl roomy refl)

last_unmoved : Unmoved counted line (record { answer = Err CountAtItsEnd; consumed = 0; written = 0; receiving = counted }) line
last_unmoved = refused_hear counted (0x34 ∷ 0x12 ∷ 0x07 ∷ []) line _ line (bare 5) (refused_says counted (0x34 ∷ 0x12 ∷ 0x07 ∷ []) line CountAtItsEnd last_told) refl

-- ---- no room for a line: no byte is consumed, which is no refusal
no_room : record_intake fresh_receiving (0x34 ∷ []) 96 ≡ record { answer = nothing; consumed = 0; text = []; state = fresh 48000; odd = None }
unfolding intake_of batch_of samples_of odd_of go_in told_to run answers lines_of flat_map fresh record_fit_lem halves_agree_lem control_fit_lem candidate_fit_lem wait_fit_lem all_below
no_room = refl

-- with it a single byte is
one_byte : record_intake fresh_receiving (0x34 ∷ []) 97 ≡ record { answer = nothing; consumed = 1; text = []; state = fresh 48000; odd = Some 0x34 }
unfolding intake_of batch_of samples_of odd_of go_in told_to run answers lines_of flat_map fresh record_fit_lem halves_agree_lem control_fit_lem candidate_fit_lem wait_fit_lem all_below
one_byte = refl

one_byte_consumed : 1 ≤ (intake_of own_record empty_told (fresh 48000) None (0x34 ∷ []) 97).consumed
unfolding intake_of samples_of answers told_to fresh record_fit_lem halves_agree_lem control_fit_lem candidate_fit_lem wait_fit_lem all_below
one_byte_consumed = takes_some own_record empty_told (fresh 48000) None (0x34 ∷ []) 97 (lit≤ tt) (lit≤ tt) refl
