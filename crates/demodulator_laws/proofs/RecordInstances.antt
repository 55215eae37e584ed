-- Small instances of the laws of the record, at a fresh one and at one whose frame is due with the next sample: what the laws ask can be met. Assumes nothing.
use Rattle.std.specs.Prelude.{Some}
use mathlib.Core.Path.{◌≡◌, refl}
use mathlib.Core.Bool.{true, false}
use mathlib.Core.List.{[]}
use Prim.Native.Nat.{◌<◌}
use native.Mathlib.Omega.{arith}
use lib.Dec.{T, lit<}
use lib.IntN.{pos}
use lib.ListN.{length, get_or, length-replicate}
use lib.Ieee.{nan, binary32, of_bits, lt, le}
use Rattle.numbers.specs.Below.{all_below}
use Rattle.numbers.specs.Firsts.{firsts}
use Rattle.shaping.specs.Rate.{at48}
use Rattle.protocol.specs.declared.Kind.TheVariants.{Lsf}
use Rattle.decode.specs.Correlator.{in_range}
use Rattle.search.specs.Fit.{candidate_fit_lem, wait_fit_lem, control_fit_lem}
use Rattle.demodulator.specs.declared.SoftDemodulator.{SoftDemodulator}
use Rattle.demodulator.specs.Spans.{eight}
use Rattle.demodulator.specs.Record.{fresh_control, assembled, back, fresh, filtered_after, stored, with_control}
use Rattle.demodulator.specs.Fit.{halves_agree_lem, record_fit_lem, fit_for_sample_lem, fit_for_reply_lem}
use Rattle.demodulator.specs.Parts.{TestsRecord}
use Rattle.demodulator.proofs.StepInstances.{fresh_for_sample}
use Rattle.demodulator.proofs.Readers.{stored_newest, stored_older, stored_symbols, eight_at}
use Rattle.demodulator.proofs.Fitness.{RecordFacts, record_facts, sample_record, sample_seven, sample_window, reply_record, reply_eight, tested_unfit, tested_fit, tested_inside}
use Rattle.demodulator_laws.proofs.ExampleBurst.{held_at, wait_of}

-- ---- the ring of a fresh record
fresh_inside : (fresh 48000).rx_cursor < 1920
unfolding fresh
fresh_inside = lit< tt

fresh_full : length (fresh 48000).rx_win ≡ 1920
unfolding fresh
fresh_full = length-replicate 1920 (of_bits binary32 0)

stored_newest_meets : back 10 (stored at48 (fresh 48000) (pos 1)) 0 ≡ filtered_after at48 (fresh 48000) (pos 1)
stored_newest_meets = stored_newest at48 (fresh 48000) (pos 1) fresh_inside (omega (arith, fresh_full))

stored_older_meets : back 10 (stored at48 (fresh 48000) (pos 1)) 1 ≡ back 10 (fresh 48000) 0
stored_older_meets = stored_older at48 (fresh 48000) (pos 1) fresh_inside 0 (lit< tt)

stored_symbols_meets : back 10 (stored at48 (fresh 48000) (pos 1)) 1910 ≡ back 10 (fresh 48000) 1909
stored_symbols_meets = stored_symbols at48 (fresh 48000) (pos 1) fresh_inside (lit< tt) 190 (lit< tt)

eight_at_meets : get_or (firsts (eight 10 (back 10 (fresh 48000))) 8) 7 nan ≡ back 10 (fresh 48000) 0
eight_at_meets = eight_at 10 (firsts (eight 10 (back 10 (fresh 48000))) 8) (back 10 (fresh 48000)) refl 7 (lit< tt)

-- ---- fitness
pub fresh_for_reply : fit_for_reply_lem 10 (fresh 48000) ≡ true
unfolding fresh fit_for_reply_lem record_fit_lem halves_agree_lem control_fit_lem candidate_fit_lem wait_fit_lem all_below in_range of_bits le lt
fresh_for_reply = refl

abbrev due_next : SoftDemodulator
due_next =
    with_control
    (record { candidate = held_at Lsf 254; wait = Some (wait_of 1); dcd = Some 3840; owed = false; sample = 1840 })
    (fresh 48000)

due_for_sample : fit_for_sample_lem 10 due_next ≡ true
unfolding fresh fit_for_sample_lem record_fit_lem halves_agree_lem control_fit_lem candidate_fit_lem wait_fit_lem all_below in_range of_bits le lt
due_for_sample = refl

record_facts_meets : RecordFacts 10 due_next
record_facts_meets = record_facts 10 due_next (sample_record 10 due_next due_for_sample)

sample_seven_meets : T (in_range (back 10 (fresh 48000) 69))
sample_seven_meets = sample_seven 10 (fresh 48000) fresh_for_sample 6 (lit< tt)

sample_window_meets : T (in_range (back 10 due_next 1909))
sample_window_meets = sample_window 10 due_next due_for_sample (wait_of 1) refl refl 190 (lit< tt)

reply_record_meets : record_fit_lem 10 (fresh 48000) ≡ true
reply_record_meets = reply_record 10 (fresh 48000) fresh_for_reply

reply_eight_meets : T (in_range (back 10 (fresh 48000) 70))
reply_eight_meets = reply_eight 10 (fresh 48000) fresh_for_reply 7 (lit< tt)

-- ---- by parts
fresh_tests : TestsRecord 10 true 0 0 fresh_control true
unfolding control_fit_lem candidate_fit_lem wait_fit_lem
fresh_tests = refl

past_tests : TestsRecord 10 true 81 0 fresh_control false
past_tests = refl

empty_agrees : true ≡ halves_agree_lem 10 []
unfolding halves_agree_lem all_below
empty_agrees = refl

tested_fit_meets : record_fit_lem 10 (assembled 48000 [] 0 [] 0 fresh_control) ≡ true
tested_fit_meets = tested_fit 10 true 0 0 fresh_control true fresh_tests 48000 [] [] refl empty_agrees refl

tested_inside_meets : 0 < 1920
tested_inside_meets = tested_inside 10 true 0 0 fresh_control true fresh_tests refl

tested_unfit_meets : record_fit_lem 10 (assembled 48000 [] 81 [] 0 fresh_control) ≡ false
tested_unfit_meets = tested_unfit 10 true 81 0 fresh_control false past_tests 48000 [] [] refl empty_agrees refl
