-- Small instances of what the laws ask. Assumes nothing.
use Rattle.std.specs.Prelude.{Some}
use mathlib.Core.Path.{◌≡◌, refl}
use mathlib.Core.Logic.{inl, inr}
use mathlib.Core.List.{List, [], ◌∷◌, ◌++◌, flat_map}
use Prim.Native.Nat.{ℕ, ◌^◌, ◌≤◌}
use lib.Dec.{lit<, lit≤}
use lib.IntN.{pos, negsuc}
use lib.ListN.{length, take}
use Rattle.machine.specs.Runs.{run, Each}
use Rattle.shaping.specs.Rate.{at48, at24}
use Rattle.shaping.proofs.RateFacts.{facts48, facts24}
use Rattle.demodulator.specs.Record.{fresh}
use Rattle.demodulator.specs.Calls.{nothing}
use Rattle.demodulator_run.specs.Rules.{start}
use Rattle.house.specs.Samples.{number_of, sample_of}
use Rattle.listening.specs.Listener.{listener, offers, own_record}
use Rattle.listening.specs.Verdict.{verdict}
use Rattle.listening.specs.Rules.{rules_at}
use Rattle.listening.proofs.Agreement.{same_offers}
use Rattle.receiving.specs.Pairs.{samples_of, odd_of}
use Rattle.receiving.specs.Hear.{looked}
use Rattle.receiving.specs.Caller.{Bytes, Read, Short, fresh_caller, input, given, intake_at, caller_after, text_of, consumed_by}
use Rattle.receiving.specs.Rules.{rules48, rules_intake, received_text}
use Rattle.receiving.proofs.NextCall.{bytes_fit, SameIntake, hear_run, next_taken}
use Rattle.receiving.proofs.ReceiveRun.{Receives, ReceivesWhole, receive_run, receive_whole, all_taken, sizes_alike, output_prefix, failed_write}

-- ---- five bytes, which are two samples and an odd one
abbrev read : List ℕ → ℕ → Read
read bytes places = record { bytes = bytes; places = places }

-- in reads that cut both samples
cut : List Read
cut = read (0x34 ∷ []) 794624 ∷ read (0x12 ∷ 0xfe ∷ []) 794624 ∷ read [] 794624 ∷ read (0xff ∷ 0x07 ∷ []) 794624 ∷ []

-- in one read
whole : List Read
whole = read (0x34 ∷ 0x12 ∷ 0xfe ∷ 0xff ∷ 0x07 ∷ []) 794624 ∷ []

-- with no room for a line, or for one
cramped : List Read
cramped = read (0x34 ∷ 0x12 ∷ 0xfe ∷ []) 96 ∷ read [] 97 ∷ read (0xff ∷ 0x07 ∷ []) 0 ∷ read [] 97 ∷ []

low_first_lem : samples_of (input cut) ≡ pos 0x1234 ∷ negsuc 1 ∷ []
unfolding cut flat_map samples_of sample_of number_of
low_first_lem = refl

last_odd : odd_of (input cut) ≡ Some 0x07
unfolding cut flat_map odd_of
last_odd = refl

cut_short : Short cut
unfolding cut Each
cut_short = ((lit≤ tt, lit≤ tt), ((lit≤ tt, lit≤ tt), ((lit≤ tt, lit≤ tt), ((lit≤ tt, lit≤ tt), tt))))

whole_short : Short whole
unfolding whole Each
whole_short = ((lit≤ tt, lit≤ tt), tt)

cut_bytes : Bytes (input cut)
unfolding cut flat_map Each
cut_bytes = (lit< tt, (lit< tt, (lit< tt, (lit< tt, (lit< tt, tt)))))

cramped_bytes : Bytes (input cramped)
unfolding cramped flat_map Each
cramped_bytes = (lit< tt, (lit< tt, (lit< tt, (lit< tt, (lit< tt, tt)))))

cramped_received : Receives cramped
cramped_received = receive_run cramped cramped_bytes

cut_received : ReceivesWhole cut
cut_received = receive_whole cut cut_short cut_bytes

two_samples : length (samples_of (input cut)) ≤ 2 ^ 63
unfolding cut flat_map samples_of
two_samples = lit≤ tt

cut_all_taken : ((caller_after fresh_caller cut).unused ≡ []) × ((caller_after fresh_caller cut).receiving.odd ≡ odd_of (input cut))
cut_all_taken = all_taken cut cut_short cut_bytes two_samples

same_bytes : input cut ≡ input whole
unfolding cut whole flat_map
same_bytes = refl

cut_or_whole : text_of fresh_caller cut ≡ text_of fresh_caller whole
cut_or_whole = sizes_alike cut whole (inl cut_short) (inr (all_taken whole whole_short (rw same_bytes at cut_bytes) (rw same_bytes at two_samples)).0) cut_bytes same_bytes

-- whatever comes after it
cut_begins : (back : List Read) → (rest : List ℕ) × (received_text (input (cut ++ back)) ≡ text_of fresh_caller cut ++ rest)
cut_begins back = output_prefix cut back cut_bytes

cut_failed : (back : List Read) → (rest : List ℕ) × (received_text (input (cut ++ back)) ≡ take 1 (text_of fresh_caller cut) ++ rest)
cut_failed back = failed_write cut back cut_bytes 1

-- and the next read of it is consumed
one_more : Read
one_more = read (0x00 ∷ []) 794624

six_bytes : Bytes (input cut ++ one_more.bytes)
unfolding cut one_more flat_map Each
six_bytes = (lit< tt, (lit< tt, (lit< tt, (lit< tt, (lit< tt, (lit< tt, tt))))))

three_samples : length (samples_of (input cut ++ one_more.bytes)) ≤ 2 ^ 63
unfolding cut one_more flat_map samples_of
three_samples = lit≤ tt

cut_goes_on : (intake_at (caller_after fresh_caller cut) one_more).answer ≡ nothing
cut_goes_on = (next_taken cut one_more six_bytes three_samples).0

cut_by_rules : let c = caller_after fresh_caller cut in SameIntake (intake_at c one_more) (rules_intake (run (listener rules48 verdict) start (samples_of (consumed_by fresh_caller cut))) c.receiving.odd (looked (given c one_more) one_more.places) one_more.places)
cut_by_rules = hear_run cut one_more six_bytes

-- ---- the list of offers, at either rate
cut_offers : offers own_record verdict (fresh 48000) (samples_of (input cut)) ≡ offers (rules_at at48) verdict start (samples_of (input cut))
cut_offers = same_offers at48 facts48 verdict (samples_of (input cut)) (bytes_fit (input cut) cut_bytes)

cut_offers_24 : offers own_record verdict (fresh 24000) (samples_of (input cut)) ≡ offers (rules_at at24) verdict start (samples_of (input cut))
cut_offers_24 = same_offers at24 facts24 verdict (samples_of (input cut)) (bytes_fit (input cut) cut_bytes)
