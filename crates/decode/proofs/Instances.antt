-- Instances that meet the hypotheses of the laws: each burst's signs times 32, of which P3 has the LSF's. Assumes nothing.
use mathlib.Core.Path.{◌≡◌}
use mathlib.Core.Bool.{Bool, not}
use Prim.Native.Nat.{ℕ, suc, ◌≤◌, ◌<◌}
use native.Mathlib.Omega.{arith}
use lib.IntN.{ℤ, pos, nat_abs, ◌+ℤ◌, ◌*ℤ◌}
use lib.ListN.{get_or}
use lib.Dec.{T, leb, leb→le, not_T, lit<}
use lib.Ieee.{Float, binary32, of_bits, of_int, add, sub, mul, div, lt, le, eq, neg}
use Rattle.numbers.specs.Below.{any_below, all_below}
use Rattle.numbers.specs.Choice.{larger, smaller, size_of}
use Rattle.numbers.specs.Sum.{sum_to}
use Rattle.numbers.proofs.Below.{all_below_lem}
use Rattle.protocol.specs.declared.Kind.{Kind}
use Rattle.protocol.specs.declared.SyncBurst.{SyncBurst}
use Rattle.protocol.specs.declared.SyncBurst.TheVariants.{Frame}
use Rattle.protocol.specs.Bursts.{signs_of}
use Rattle.decode.specs.Correlator.{zero32, zero_unsigned, highest, lowest, gain_of, shift_of, symbol_of, distance_of, summed, diff_of, correlation, matches, in_range}
use Rattle.decode.specs.Offset.{wholes, offset_by, OffsetFree}
use Rattle.decode.proofs.Scale.{million}
use Rattle.decode.proofs.Side.{side_of_plus, side_of_minus}
use Rattle.decode.proofs.Opened.{unsigned_at, Opened, opened}
use Rattle.decode.proofs.Table.{rank_below, for_each}
use Rattle.decode.proofs.OneMatch.{one_match}
use Rattle.decode.proofs.Apart.{not_again, never_apart}
use Rattle.decode.proofs.Diff.{closed}
use Rattle.decode.proofs.OffsetFree.{offset_free}
use Rattle.decode.proofs.MatchFacts.{MatchFacts, match_facts}

-- 32.0 and -32.0
abbrev up32 : Float
up32 = of_bits binary32 0x4200_0000

abbrev down32 : Float
down32 = of_bits binary32 0xc200_0000

-- a burst as sent, and 0.0 after its eight symbols
sent : SyncBurst → ℕ → Float
sent b i = mul binary32 (of_int binary32 (get_or (signs_of b) i (pos 0))) up32

sent_range : (b : SyncBurst) (i : ℕ) → i < 9 → T (in_range (sent b i))
sent_range b = all_below_lem 9 (λ i. in_range (sent b i)) (for_each 6 (λ a. all_below 9 (λ i. in_range (sent a i))) (unfold all_below sent signs_of in_range le lt eq mul of_int of_bits in tt) b (rank_below b))

eight : (b : SyncBurst) (i : ℕ) → i < 8 → T (in_range (sent b i))
eight b i l = sent_range b i (omega arith)

sent_matches : (b : SyncBurst) → T (matches b (sent b))
sent_matches b =
    for_each 6 (λ a. matches a (sent a))
    (unfold all_below any_below sent signs_of matches correlation diff_of summed sum_to distance_of symbol_of shift_of gain_of highest lowest zero_unsigned larger smaller size_of add sub mul div lt eq neg of_int of_bits in tt) b (rank_below b)

side_plus : T (lt zero32 up32)
unfolding distance_of symbol_of size_of sub div of_int of_bits lt
side_plus = side_of_plus up32 zero32 up32 tt (lit< tt) tt tt tt

side_minus : T (lt down32 zero32)
unfolding distance_of symbol_of size_of sub div of_int of_bits lt
side_minus = side_of_minus up32 zero32 down32 tt (lit< tt) tt tt tt

sent_opened : (b : SyncBurst) → Opened b (sent b)
sent_opened b = opened b (sent b) (sent_matches b)

sent_closed : (b : SyncBurst) → T (matches b (sent b))
sent_closed b = closed b (sent b) (sent_opened b) (eight b)

sent_once : (b c : SyncBurst) → T (matches c (sent b)) → b ≡ c
sent_once b c = one_match (sent b) (eight b) b c (sent_matches b)

-- all but the last hypothesis hold, for each kind, and the last then fails
sent_not_again : (k : Kind) → T (not (matches (Frame k) (λ i. sent (Frame k) (suc i))))
sent_not_again k = not_T (matches (Frame k) (λ i. sent (Frame k) (suc i))) (not_again (sent (Frame k)) (sent_range (Frame k)) k (sent_matches (Frame k)))

sent_never_apart : (j k : Kind) → T (not (matches (Frame k) (λ i. sent (Frame j) (suc i))))
sent_never_apart j k = not_T (matches (Frame k) (λ i. sent (Frame j) (suc i))) (never_apart (sent (Frame j)) (sent_range (Frame j)) j k (sent_matches (Frame j)))

sent_facts : (b : SyncBurst) → MatchFacts (correlation b (sent b)) (lowest (unsigned_at (sent b)) 7) (highest (unsigned_at (sent b)) 7)
sent_facts b = match_facts (sent b) (eight b) b (sent_matches b)

-- whole values, and the largest offset that a card's samples leave room for
wave : SyncBurst → ℕ → ℤ
wave b i = get_or (signs_of b) i (pos 0) *ℤ pos 32

abbrev small : (SyncBurst → ℕ → ℤ) → SyncBurst → Bool
small z b = all_below 8 (λ i. leb (nat_abs (z b i)) million)

wave_small : (b : SyncBurst) (i : ℕ) → i < 8 → nat_abs (wave b i) ≤ million
wave_small b i l = leb→le _ _ (all_below_lem 8 (λ i. leb (nat_abs (wave b i)) million) (for_each 6 (small wave) (unfold all_below wave signs_of in tt) b (rank_below b)) i l)

wave_still : (b : SyncBurst) (i : ℕ) → i < 8 → nat_abs (wave b i +ℤ pos 32767) ≤ million
wave_still b i l =
    leb→le _ _ (all_below_lem 8 (λ i. leb (nat_abs (wave b i +ℤ pos 32767)) million) (for_each 6 (small λ b i. wave b i +ℤ pos 32767) (unfold all_below wave signs_of in tt) b (rank_below b)) i l)

wave_offset : (b c : SyncBurst) → OffsetFree c (wholes (wave b)) (offset_by (pos 32767) (wave b)) (pos 32767)
wave_offset b = offset_free (wave b) (pos 32767) (wave_small b) (wave_still b)
