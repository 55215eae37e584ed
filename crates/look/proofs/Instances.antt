-- Instances that meet the laws' hypotheses: eight values of 32 in size, a burst's or no burst's, and rows that hold each for a symbol, at
-- both rates. Assumes nothing.
use mathlib.Core.Path.{◌≡◌, refl, ap, ◌∙◌}
use mathlib.Core.Bool.{false}
use mathlib.Core.List.{List, [], ◌∷◌}
use Prim.Native.Nat.{ℕ, ◌+◌, ◌*◌, ◌/◌, ◌≤◌, ◌<◌}
use native.Mathlib.Omega.{arith}
use lib.Dec.{T, lit≤, lit<}
use lib.ListN.{length, get_or, replicate}
use lib.Ieee.{Float, binary32, of_bits, of_int, add, sub, mul, div, neg, lt, le, eq}
use Rattle.numbers.specs.Below.{any_below, all_below}
use Rattle.numbers.specs.Choice.{larger, smaller, size_of}
use Rattle.numbers.specs.Firsts.{firsts}
use Rattle.numbers.specs.Sum.{sum_to}
use Rattle.numbers.proofs.Below.{all_below_lem}
use Rattle.numbers.proofs.Firsts.{firsts_at, length_firsts}
use Rattle.protocol.specs.declared.Kind.{Kind}
use Rattle.protocol.specs.declared.Kind.TheVariants.{Lsf}
use Rattle.protocol.specs.declared.SyncBurst.{SyncBurst}
use Rattle.protocol.specs.declared.SyncBurst.TheVariants.{Frame}
use Rattle.protocol.specs.Bursts.{signs_of}
use Rattle.decode.specs.Correlator.{zero_unsigned, highest, lowest, gain_of, shift_of, symbol_of, distance_of, summed, diff_of, correlation, matches, in_range}
use Rattle.decode.specs.Parts.{values_of}
use Rattle.decode.proofs.Opened.{unsigned_at, shift_at}
use Rattle.look.specs.Marks.{top_of, bottom_of, sides_like, sides_of, mark_from, mark_of, eight_from, marks_of}
use Rattle.look.proofs.RowMarks.{marks_long, marks_many, marks_short, mark_same}
use Rattle.look.proofs.SignLaw.{sides_of_match, no_frame, unmarked}
use Rattle.look.proofs.Faint.{faint_unmatched}

-- 32.0 and -32.0
abbrev up : Float
up = of_bits binary32 0x4200_0000

abbrev down : Float
down = of_bits binary32 0xc200_0000

abbrev lsf : List Float
lsf = up ∷ up ∷ up ∷ up ∷ down ∷ down ∷ up ∷ down ∷ []

abbrev preamble : List Float
preamble = up ∷ down ∷ up ∷ down ∷ up ∷ down ∷ up ∷ down ∷ []

-- no burst's
abbrev other : List Float
other = up ∷ up ∷ down ∷ down ∷ up ∷ up ∷ down ∷ down ∷ []

lsf_range : (i : ℕ) → i < 8 → T (in_range (values_of lsf i))
lsf_range = all_below_lem 8 (λ i. in_range (values_of lsf i)) (unfold all_below in_range le lt eq of_bits in tt)

preamble_range : (i : ℕ) → i < 8 → T (in_range (values_of preamble i))
preamble_range = all_below_lem 8 (λ i. in_range (values_of preamble i)) (unfold all_below in_range le lt eq of_bits in tt)

other_range : (i : ℕ) → i < 8 → T (in_range (values_of other i))
other_range = all_below_lem 8 (λ i. in_range (values_of other i)) (unfold all_below in_range le lt eq of_bits in tt)

-- ---- what a match and a mark tell
sides_of_match_meets : T (sides_of (Frame Lsf) (shift_at (values_of lsf)) (unsigned_at (values_of lsf)))
sides_of_match_meets =
    sides_of_match (values_of lsf) lsf_range (Frame Lsf)
    (unfold all_below any_below signs_of matches correlation diff_of summed sum_to distance_of symbol_of shift_of gain_of highest lowest zero_unsigned larger smaller size_of add sub mul div lt eq neg of_int of_bits in tt)

no_frame_meets : (kind : Kind) → matches (Frame kind) (values_of preamble) ≡ false
no_frame_meets =
    no_frame (values_of preamble) preamble_range
    (unfold mark_of mark_from sides_like all_below top_of bottom_of gain_of shift_of zero_unsigned signs_of add sub div lt of_bits in lit< tt)

unmarked_meets : (burst : SyncBurst) → matches burst (values_of other) ≡ false
unmarked_meets =
    unmarked (values_of other) other_range
    (unfold mark_of mark_from sides_like all_below top_of bottom_of gain_of shift_of zero_unsigned signs_of add sub div lt of_bits in refl)

-- 14.0
faint_unmatched_meets : (burst : SyncBurst) → matches burst (λ _. of_bits binary32 0x4160_0000) ≡ false
faint_unmatched_meets = faint_unmatched (λ _. of_bits binary32 0x4160_0000) (λ i l. unfold lt neg of_bits in tt)

-- ---- the marks of a row: the LSF's values, each for a symbol
abbrev held_for : ℕ → List Float
held_for p = firsts (λ (i : ℕ). values_of lsf (i / p)) (7 * p + 48)

first_mark : (p : ℕ) → p ≤ 10 → get_or (marks_of p (held_for p)) 0 0 ≡ mark_of (eight_from p (held_for p) 0)
first_mark p few =
    let long : length (held_for p) ≡ 7 * p + 48 = length_firsts (λ (i : ℕ). values_of lsf (i / p)) (7 * p + 48) in
    ap (λ (q : List ℕ). get_or q 0 0) (marks_long p (held_for p) few (omega (arith, long)))
    ∙ firsts_at (λ (k : ℕ). mark_of (eight_from p (held_for p) k)) 48 0 0 (lit< tt)

marked_48 : get_or (marks_of 10 (held_for 10)) 0 0 ≡ 2
marked_48 =
    first_mark 10 (lit≤ tt)
    ∙ (unfold firsts mark_of mark_from sides_like all_below top_of bottom_of gain_of shift_of zero_unsigned signs_of add sub div lt of_bits in refl)

marked_24 : get_or (marks_of 5 (held_for 5)) 0 0 ≡ 2
marked_24 =
    first_mark 5 (lit≤ tt)
    ∙ (unfold firsts mark_of mark_from sides_like all_below top_of bottom_of gain_of shift_of zero_unsigned signs_of add sub div lt of_bits in refl)

-- read at the other rate's places the first eight values are no burst's
strange_24 : mark_of (eight_from 5 (held_for 10) 0) ≡ 0
strange_24 = unfold firsts mark_of mark_from sides_like all_below top_of bottom_of gain_of shift_of zero_unsigned signs_of add sub div lt of_bits in refl

marks_many_meets : marks_of 11 [] ≡ replicate 48 2
marks_many_meets = marks_many 11 [] (lit< tt)

marks_short_meets : marks_of 10 [] ≡ replicate 48 2
marks_short_meets = marks_short 10 [] (lit< tt)

mark_same_meets : mark_of (values_of lsf) ≡ mark_of (λ i. values_of lsf i)
mark_same_meets = mark_same (values_of lsf) (λ i. values_of lsf i) (λ i l. refl)
