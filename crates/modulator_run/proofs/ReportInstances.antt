-- Lists of calls, and a record, that meet what the laws of a reported end ask, at 48 kHz. Assumes nothing.
use Rattle.std.specs.Prelude.{None}
use mathlib.Core.Path.{◌≡◌, refl}
use mathlib.Core.Bool.{true, false}
use mathlib.Core.List.{List, [], ◌∷◌, ◌++◌}
use Prim.Native.Nat.{ℕ, ◌+◌, ◌≤◌}
use lib.Dec.{T, lit≤, lit<}
use lib.IntN.{pos}
use lib.ListN.{replicate}
use lib.Ieee.{of_bits, le}
use Rattle.numbers.specs.Below.{all_below}
use Rattle.machine.specs.Runs.{Each}
use Rattle.shaping.specs.Rate.{at48}
use Rattle.shaping.proofs.RateFacts.{facts48}
use Rattle.given_symbols.specs.declared.Traffic.TheVariants.{Ordinary}
use Rattle.modulator.specs.declared.SoftModulator.{SoftModulator}
use Rattle.modulator.specs.declared.ModulatorFrame.TheVariants.{Preamble, EndOfTransmission}
use Rattle.modulator.specs.Paper.{transmit_end}
use Rattle.modulator.specs.Control.{unread}
use Rattle.modulator.specs.Record.{fresh, with_pending}
use Rattle.modulator.specs.Fit.{pulse_fit, window_fit, record_fit_lem}
use Rattle.modulator.specs.Calls.{updated, ran}
use Rattle.modulator_run.specs.Rules.{Call, provide, read, update, ask, called, sent_all}
use Rattle.modulator_run.specs.Run.{left, record_after, Delay, Given}
use Rattle.modulator_run.specs.Kinds.{stores, ends, replaces, delays, none}
use Rattle.modulator_run.specs.Padding.{last_latency, places_of, places_read_lem, PaddingLeft, unset, set}
use Rattle.modulator_run.specs.Unread.{symbols_of_lem, UnreadLeft, sent}
use Rattle.modulator_run.specs.Reports.{Owed, Reporting, ReportedEnd, NewReport, end_before}
use Rattle.modulator_run.specs.EndCovers.{brought, Covers}
use Rattle.modulator_run.proofs.ReportParts.{reporting_none}
use Rattle.modulator_run.proofs.Owed.{owed, owed_exactly}
use Rattle.modulator_run.proofs.Unread.{samples, unread_exactly, unread_by_record}
use Rattle.modulator_run.proofs.EndOnce.{told_next, told_once, told_by_record}
use Rattle.modulator_run.proofs.EndCovers.{end_covers}
use Rattle.modulator_run.proofs.EndAsBefore.{end_as_before, told_as_before}

abbrev end : Call
end = provide EndOfTransmission []

-- an end provided after any calls is owed, and where no preamble came its 2,720 samples are unread
owed_again : (cs : List Call) → Owed (cs ++ end ∷ [])
unfolding ends none
owed_again cs = record { before = cs; call = end; since = []; parts = refl; started = tt; unstopped = tt }

all_unread : (cs : List Call) → T (none delays (cs ++ end ∷ [])) → UnreadLeft 10 (cs ++ end ∷ []) 2720
unfolding replaces none symbols_of_lem places_read_lem
all_unread cs t = sent (record { before = cs; call = end; since = []; parts = refl; started = tt; unstopped = tt }) 0 (unset t)

whole_end : (cs : List Call) → T (none delays (cs ++ end ∷ [])) → (fill latency : ℕ) → ReportedEnd 10 (cs ++ end ∷ []) fill latency (fill + latency + 0 + 2720)
whole_end cs t fill latency = record { padding = 0; unread = 2720; padding_left = unset t; unread_left = all_unread cs t; samples = refl }

-- ---- two ends, an update and a request; then another end, another update and a request
owed_is : owed (sent_all at48 (end ∷ end ∷ [])) ≡ true
owed_is = (owed_exactly at48 (end ∷ end ∷ [])).1 (owed_again (end ∷ []))

unread_is : samples (sent_all at48 (end ∷ end ∷ [])) ≡ 2720
unfolding none delays
unread_is = (unread_exactly at48 (end ∷ end ∷ []) 2720).1 (all_unread (end ∷ []) tt)

first_told : (called at48 (sent_all at48 (end ∷ end ∷ update 100 3000 50 ∷ [])) ask).said.answer ≡ transmit_end 2870
unfolding stores none delays
first_told = told_next at48 (end ∷ end ∷ []) (owed_again (end ∷ [])) 100 3000 50 tt [] tt reporting_none 2870 (whole_end (end ∷ []) tt 100 50)

abbrev earlier : List Call
earlier = end ∷ end ∷ update 100 3000 50 ∷ []

second_told : (called at48 (sent_all at48 (end ∷ end ∷ update 100 3000 50 ∷ ask ∷ end ∷ update 7 2500 3 ∷ [])) ask).said.answer ≡ transmit_end 2730
unfolding stores none delays
second_told =
    told_next at48 (end ∷ end ∷ update 100 3000 50 ∷ ask ∷ end ∷ []) (owed_again (end ∷ end ∷ update 100 3000 50 ∷ ask ∷ [])) 7 2500 3 tt [] tt reporting_none 2730 (whole_end (end ∷ end ∷ update 100 3000 50 ∷ ask ∷ []) tt 7 3)

second_new : NewReport 10 earlier (end ∷ update 7 2500 3 ∷ []) 2730
second_new = told_once at48 earlier (end ∷ update 7 2500 3 ∷ []) 2730 second_told

-- the first report is replaced where it was not told
replaced : (called at48 (sent_all at48 (end ∷ end ∷ update 100 3000 50 ∷ end ∷ update 7 2500 3 ∷ [])) ask).said.answer ≡ transmit_end 2730
unfolding stores none delays
replaced =
    told_next at48 (end ∷ end ∷ update 100 3000 50 ∷ end ∷ []) (owed_again (end ∷ end ∷ update 100 3000 50 ∷ [])) 7 2500 3 tt [] tt reporting_none 2730 (whole_end (end ∷ end ∷ update 100 3000 50 ∷ []) tt 7 3)

-- ---- the record, and what its number covers
earlier_given : Each Given earlier
unfolding Each Given Delay
earlier_given = (tt, (tt, (tt, tt)))

reporting : Reporting earlier
unfolding stores
reporting = record { before = end ∷ end ∷ []; fill = 100; capacity = 3000; latency = 50; since = []; parts = refl; taken = tt; owed = owed_again (end ∷ []) }

told_of_record : (left (record_after at48 earlier) ask).answer ≡ transmit_end 2870
unfolding reporting none delays
told_of_record = (told_by_record at48 facts48 earlier earlier_given 2870).1 (record { report = reporting; number = whole_end (end ∷ []) tt 100 50; unasked = tt; newest = reporting_none })

covered : Covers at48 earlier 100 50 2870
unfolding reporting none
covered = end_covers at48 facts48 earlier earlier_given 2870 told_of_record reporting tt reporting_none

-- a request, and a read of 2,720 places
abbrev emptied : List Call
emptied = ask ∷ read (replicate 2720 (pos 0)) ∷ []

brought_in_all : 150 + brought at48 earlier emptied ≡ 2870
unfolding none replaces places_read_lem places_of
brought_in_all = covered.exactly emptied tt (lit≤ tt)

brought_in_part : 150 + brought at48 earlier (read (pos 0 ∷ []) ∷ []) ≤ 2870
unfolding none replaces
brought_in_part = covered.never_more (read (pos 0 ∷ []) ∷ []) tt

-- ---- a preamble with a TxDelay of one step, 30 samples read, and an end: 450 of the padding are left
abbrev delayed : List Call
delayed = provide (Preamble Ordinary (record { 0 = 1 })) [] ∷ read (replicate 30 (pos 0)) ∷ end ∷ []

padding_left : PaddingLeft 10 delayed 450
unfolding none delays last_latency places_read_lem places_of
padding_left = set [] Ordinary (record { 0 = 1 }) [] (read (replicate 30 (pos 0)) ∷ end ∷ []) refl tt

unread_after_padding : UnreadLeft 10 delayed 2720
unfolding replaces none symbols_of_lem places_read_lem
unread_after_padding = sent (record { before = provide (Preamble Ordinary (record { 0 = 1 })) [] ∷ read (replicate 30 (pos 0)) ∷ []; call = end; since = []; parts = refl; started = tt; unstopped = tt }) 450 padding_left

delayed_given : Each Given delayed
unfolding Each Given Delay
delayed_given = (lit< tt, (tt, (tt, tt)))

unread_of_record : unread (record_after at48 delayed).progress ≡ 2720
unread_of_record = (unread_by_record at48 facts48 delayed delayed_given 2720).1 unread_after_padding

delayed_told : (called at48 (sent_all at48 (delayed ++ update 100 3000 50 ∷ [])) ask).said.answer ≡ transmit_end 3320
unfolding stores none
delayed_told =
    told_next at48 delayed (owed_again (provide (Preamble Ordinary (record { 0 = 1 })) [] ∷ read (replicate 30 (pos 0)) ∷ [])) 100 3000 50 tt [] tt reporting_none 3320
    (record { padding = 450; unread = 2720; padding_left = padding_left; unread_left = unread_after_padding; samples = refl })

-- ---- an end that is read out, and an update: the number is the old one
abbrev read_out : List Call
read_out = end ∷ read (replicate 2720 (pos 0)) ∷ []

all_read : UnreadLeft 10 read_out 0
unfolding replaces delays none symbols_of_lem places_read_lem places_of
all_read = sent (record { before = []; call = end; since = read (replicate 2720 (pos 0)) ∷ []; parts = refl; started = tt; unstopped = tt }) 0 (unset tt)

still_owed : Owed read_out
unfolding ends none stores
still_owed = record { before = []; call = end; since = read (replicate 2720 (pos 0)) ∷ []; parts = refl; started = tt; unstopped = tt }

reporting_late : Reporting (read_out ++ update 100 3000 50 ∷ [])
unfolding stores
reporting_late = record { before = read_out; fill = 100; capacity = 3000; latency = 50; since = []; parts = refl; taken = tt; owed = still_owed }

late_given : Each Given (read_out ++ update 100 3000 50 ∷ [])
unfolding Each Given Delay
late_given = (tt, (tt, (tt, tt)))

late_told : (left (record_after at48 (read_out ++ update 100 3000 50 ∷ [])) ask).answer ≡ transmit_end 150
unfolding reporting_late none delays
late_told = (told_by_record at48 facts48 (read_out ++ update 100 3000 50 ∷ []) late_given 150).1 (record {
  report = reporting_late;
  number = record { padding = 0; unread = 0; padding_left = unset tt; unread_left = all_read; samples = refl };
  unasked = tt;
  newest = reporting_none;
})

late_as_before : 150 ≡ end_before 100 50
unfolding reporting_late none delays
late_as_before = told_as_before at48 facts48 (read_out ++ update 100 3000 50 ∷ []) late_given 150 late_told reporting_late tt reporting_none (unset tt) all_read

-- ---- a made-up record with nothing to read that owes an end
abbrev owing : SoftModulator
owing = with_pending (record { update_idle = true; calculate_tx_end = true; report_tx_end = None; try_get_frame = false }) (fresh 48000).buffer (fresh 48000)

owing_fit : record_fit_lem 10 owing ≡ true
unfolding record_fit_lem window_fit pulse_fit all_below fresh of_bits le
owing_fit = refl

owing_as_before : (ran at48 (updated at48 owing 100 3000 50).modulator).answer ≡ transmit_end 150
unfolding fresh stores
owing_as_before = end_as_before at48 owing owing_fit refl refl refl 100 3000 50 tt
