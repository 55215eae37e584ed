-- Small instances of the laws of the search: P6's values, the LSF's signs times 20 plus 5, with a diff of 2.0, at a control whose age is 254 and whose count is the largest. Assumes nothing.
use Rattle.std.specs.Prelude.{None}
use mathlib.Core.Path.{◌≡◌, refl}
use mathlib.Core.Logic.{◌⊎◌}
use mathlib.Core.Bool.{true, false}
use mathlib.Core.List.{List, [], ◌∷◌, map}
use Prim.Native.Nat.{ℕ, ◌^◌, ◌<◌}
use lib.Dec.{T, lit≤}
use lib.IntN.{pos, negsuc}
use lib.ListN.{replicate}
use lib.Ieee.{Float, binary32, of_bits, of_int, add, sub, div, lt, le, eq}
use Rattle.numbers.specs.Choice.{larger, smaller, size_of}
use Rattle.numbers.specs.Below.{any_below, all_below}
use Rattle.numbers.specs.Sum.{sum_to}
use Rattle.numbers.proofs.Below.{all_below_lem}
use Rattle.protocol.specs.declared.Kind.TheVariants.{Lsf}
use Rattle.protocol.specs.declared.SyncBurst.TheVariants.{Frame}
use Rattle.protocol.specs.Bursts.{signs_of, spelled, word_of, sign_of}
use Rattle.decode.specs.declared.Spread.{Spread}
use Rattle.decode.specs.Correlator.{least_gain, threshold, zero_unsigned, highest, lowest, gain_of, shift_of, symbol_of, distance_of, summed, diff_of, correlation, matches, in_range}
use Rattle.decode.specs.Parts.{values_of, spread_of, answer_from}
use Rattle.search.specs.declared.Control.{Control}
use Rattle.search.specs.declared.Reply.TheVariants.{Rejected}
use Rattle.search.specs.Search.{age_of, carried, marked, matched, missed, tried, passed, searched}
use Rattle.search.specs.Turn.{owing, sampled, replied}
use Rattle.search.specs.Fit.{candidate_fit_lem, wait_fit_lem, control_fit_lem}
use Rattle.search.proofs.Fitness.{ControlFacts, control_facts}
use Rattle.search.proofs.SearchSame.{searched_same, replied_same}
use Rattle.search.proofs.AgeInPass.{Passing, passing, tried_passing}
use Rattle.search.proofs.Compared.{match_own, Sensed, compared_own}
use Rattle.search.proofs.Silent.{silent_search, faint}
use Rattle.demodulator.specs.Record.{fresh_control}
use Rattle.demodulator_laws.proofs.ExampleBurst.{held_at}
use Rattle.search.proofs.SampleByWait.{sampled_same}
use Rattle.demodulator_laws.proofs.SearchFits.{Outgrown, search_fits}

high : Float
high = of_int binary32 (pos 25)

low : Float
low = of_int binary32 (negsuc 14)

-- P6's values, but for the first, which makes a diff
near : Float
near = of_int binary32 (pos 24)

abbrev sixth : List Float
sixth = near ∷ high ∷ high ∷ high ∷ low ∷ low ∷ high ∷ low ∷ []

sixth_range : (i : ℕ) → i < 8 → T (in_range (values_of sixth i))
sixth_range = all_below_lem 8 (λ i. in_range (values_of sixth i)) (unfold all_below in_range near high low le lt eq of_int of_bits in tt)

abbrev oldest : Control
oldest = record { candidate = held_at Lsf 254; wait = None; dcd = None; owed = false; sample = 2 ^ 63 }

oldest_fit : T (control_fit_lem 10 oldest)
unfolding control_fit_lem candidate_fit_lem wait_fit_lem in_range of_bits le lt
oldest_fit = tt

-- ---- readers
searched_same_meets : searched 10 (values_of sixth) oldest ≡ searched 10 (λ i. values_of sixth i) oldest
searched_same_meets = searched_same 10 (values_of sixth) (λ i. values_of sixth i) (λ i l. refl) oldest

sampled_same_meets : sampled 10 (values_of sixth) oldest ≡ sampled 10 (λ i. values_of sixth i) oldest
sampled_same_meets = sampled_same 10 (values_of sixth) (λ i. values_of sixth i) (λ i l. refl) oldest

replied_same_meets : replied 10 (values_of sixth) Rejected oldest ≡ replied 10 (λ i. values_of sixth i) Rejected oldest
replied_same_meets = replied_same 10 (values_of sixth) (λ i. values_of sixth i) (λ i l. refl) Rejected oldest

-- ---- one hearing
abbrev sixth_unsigned : List Float
sixth_unsigned = map zero_unsigned sixth

abbrev sixth_spread : Spread
sixth_spread = spread_of (values_of sixth_unsigned)

sixth_sensed : Sensed sixth sixth_unsigned sixth_spread
sixth_sensed = record { values = refl; spread = refl }

compared_own_meets : answer_from (Frame Lsf) (values_of sixth_unsigned) sixth_spread ≡ correlation (Frame Lsf) (values_of sixth)
compared_own_meets = compared_own sixth_sensed (Frame Lsf) _ refl

match_own_meets : matches (Frame Lsf) (values_of sixth) ≡ lt (correlation (Frame Lsf) (values_of sixth)).diff threshold
match_own_meets = match_own (Frame Lsf) (values_of sixth) _ refl

-- ---- the pass
begun : Passing (values_of sixth) 254 0 oldest
begun = passing (values_of sixth) 254 oldest (lit≤ tt) (lit≤ tt)

passing_meets : Passing (values_of sixth) 254 1 (tried 10 (values_of sixth) Lsf oldest)
passing_meets = tried_passing 10 (values_of sixth) sixth_range 254 Lsf oldest begun

-- ---- fitness
control_facts_meets : ControlFacts 10 oldest
control_facts_meets = control_facts 10 oldest oldest_fit

search_fits_meets : T (control_fit_lem 10 (searched 10 (values_of sixth) oldest)) ⊎ Outgrown 10 oldest (searched 10 (values_of sixth) oldest)
search_fits_meets = search_fits 10 (lit≤ tt) (values_of sixth) sixth_range oldest oldest_fit refl (lit≤ tt)

-- "A made-up age of 254 may come back as 255."
comes_back : age_of (searched 10 (values_of sixth) oldest).candidate ≡ 255
unfolding searched passed tried missed matched carried matches correlation diff_of summed sum_to any_below distance_of symbol_of shift_of gain_of highest lowest zero_unsigned larger smaller size_of signs_of spelled word_of sign_of near high low add sub div lt eq of_int of_bits
comes_back = refl

-- a candidate that is taken where no sample was counted has 0 for its sample, and the control is unfit then: only a made-up one that owes a reply at count 0 comes there
taken_uncounted : control_fit_lem 10 (replied 10 (values_of sixth) Rejected (owing true fresh_control)) ≡ false
unfolding replied searched passed tried missed matched marked carried control_fit_lem candidate_fit_lem wait_fit_lem matches correlation diff_of summed sum_to any_below distance_of symbol_of shift_of gain_of highest lowest zero_unsigned larger smaller size_of signs_of spelled word_of sign_of in_range near high low add sub div lt le eq of_int of_bits
taken_uncounted = refl

-- ---- nothing to do: no candidate, and silence
abbrev zeros : List Float
zeros = replicate 8 (of_bits binary32 0)

zeros_sensed : Sensed zeros (map zero_unsigned zeros) (spread_of (values_of (map zero_unsigned zeros)))
zeros_sensed = record { values = refl; spread = refl }

zeros_faint : lt (spread_of (values_of (map zero_unsigned zeros))).gain least_gain ≡ true
unfolding gain_of highest lowest zero_unsigned larger smaller add sub div lt eq of_bits
zeros_faint = refl

silent_search_meets : searched 10 (values_of zeros) fresh_control ≡ fresh_control
silent_search_meets = silent_search 10 (values_of zeros) fresh_control (faint zeros_sensed zeros_faint) refl
