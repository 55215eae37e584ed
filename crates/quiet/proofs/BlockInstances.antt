-- Small instances of the laws of a block, at 24 kHz: two samples, of which the first carries or none does. Assumes nothing.
use Rattle.std.specs.Prelude.{None}
use mathlib.Core.Path.{◌≡◌, refl, sym}
use mathlib.Core.Bool.{true, false, true≢false, cond}
use mathlib.Core.List.{List, [], ◌∷◌}
use Prim.Native.Nat.{ℕ, zero, suc, ◌+◌, ◌-◌, ◌/◌, ◌%◌, ◌^◌, ◌≤◌, ◌<◌}
use native.Mathlib.Nat.{lt_irrefl}
use native.Mathlib.Omega.{arith}
use lib.Dec.{T, not_T, eqb, lit≤, lit<}
use lib.ListN.{get_or}
use lib.Ieee.{Float, of_bits, of_int, add, sub, div, neg, lt, le, eq}
use lib.Ieee.Bits.{is_true, is_false}
use Rattle.numbers.specs.Below.{any_below, all_below}
use Rattle.numbers.specs.Choice.{larger, smaller, size_of}
use Rattle.numbers.specs.Firsts.{firsts}
use Rattle.numbers.specs.Sum.{nought, sum_to}
use Rattle.numbers.proofs.Below.{all_below_lem}
use Rattle.numbers.proofs.Firsts.{length_firsts}
use Rattle.protocol.specs.declared.Kind.{Kind}
use Rattle.protocol.specs.declared.Kind.TheVariants.{Lsf, Bert, Stream, Packet}
use Rattle.protocol.specs.declared.SyncBurst.{SyncBurst}
use Rattle.protocol.specs.declared.SyncBurst.TheVariants.{Frame}
use Rattle.protocol.specs.Bursts.{signs_of}
use Rattle.decode.specs.Correlator.{zero_unsigned, highest, lowest, gain_of, shift_of, symbol_of, distance_of, summed, diff_of, correlation, matches, in_range}
use Rattle.decode.specs.Parts.{values_of}
use Rattle.search.specs.declared.Candidate.TheVariants.{Nothing}
use Rattle.search.specs.declared.Control.{Control}
use Rattle.search.specs.Search.{searched}
use Rattle.search.specs.Turn.{counted_to}
use Rattle.search.specs.Fit.{held, candidate_fit_lem, wait_fit_lem, control_fit_lem}
use Rattle.search.proofs.Silent.{Unmatched}
use Rattle.look.specs.Rows.{value_faint}
use Rattle.look.specs.Marks.{eight_from}
use Rattle.look.proofs.Faint.{faint_unmatched}
use Rattle.quiet.specs.Walk.{goes_on_lem}
use Rattle.quiet.specs.Parts.{is_free_lem, carries, InRange, Marked, Calm, Block, Blocks, NextMark, LastCarrier}
use Rattle.quiet.proofs.GoesOn.{goes, goes_back, goes_timed}
use Rattle.quiet.proofs.LastTimer.{timed_to, Set, set_shape}
use Rattle.quiet.proofs.Rows.{uncarried}
use Rattle.quiet.proofs.BlockLaws.{carrier_ready, carrier_last, carrier_then}
use Rattle.quiet.proofs.Midway.{Midway, midway_start, midway_stops, midway_ends, midway_counts, midway_searches}
use Rattle.quiet.proofs.Instances.{heard, heard_24, preamble}

-- ---- the preamble at the first of each symbol's samples, zeros between
abbrev row : List Float
row = firsts (λ (i : ℕ). cond (eqb (i % 5) 0) (values_of preamble (i / 5)) nought) 83

row_range : (i : ℕ) → i < 2 → (j : ℕ) → j < 8 → T (in_range (eight_from 5 row (0 + i) j))
row_range i h =
    all_below_lem 8 (λ j. in_range (eight_from 5 row (0 + i) j))
    (all_below_lem 2 (λ k. all_below 8 (λ j. in_range (eight_from 5 row (0 + k) j))) (unfold all_below firsts in_range le lt eq of_bits in tt) i h)

row_values : (n : ℕ) → n ≤ 2 → InRange 5 row 0 n
row_values n few = record {
  rate = lit≤ tt;
  long = omega (arith, length_firsts (λ (i : ℕ). cond (eqb (i % 5) 0) (values_of preamble (i / 5)) nought) 83);
  range = λ i l. row_range i (omega arith);
}

block : (n : ℕ) → 1 ≤ n → n ≤ 2 → Block 5 row 0 n heard
block n some few =
    record { some = some; few = omega arith; free = refl; goes = goes_back 5 heard heard_24; count = omega arith; values = row_values n few }

-- ---- the first carries, and no burst matches at the second
first : (kind : Kind) → matches (Frame kind) (eight_from 5 row 0) ≡ false
unfolding all_below any_below firsts signs_of matches correlation diff_of summed sum_to distance_of symbol_of shift_of gain_of highest lowest zero_unsigned larger smaller size_of add sub div lt eq neg of_int of_bits
first Lsf = refl
first Bert = refl
first Stream = refl
first Packet = refl

first_carries : carries (eight_from 5 row 0) ≡ true
unfolding all_below any_below firsts signs_of matches correlation diff_of summed sum_to distance_of symbol_of shift_of gain_of highest lowest zero_unsigned larger smaller size_of add sub div lt eq neg of_int of_bits
first_carries = refl

second : Unmatched (eight_from 5 row 1)
second = faint_unmatched (eight_from 5 row 1) (all_below_lem 8 (λ j. value_faint (eight_from 5 row 1 j)) (unfold all_below firsts lt neg of_bits in tt))

calm : (n : ℕ) → n ≤ 2 → Calm 5 row 0 n heard
calm n few = record { nothing = refl; no_frame = λ i l. each i (omega arith) }
  where
    each : (i : ℕ) → i < 2 → (kind : Kind) → matches (Frame kind) (eight_from 5 row (0 + i)) ≡ false
    each zero l kind = first kind
    each (suc zero) l kind = second (Frame kind)
    each (suc (suc i)) l kind = absurd (omega arith)

last : (n : ℕ) → 1 ≤ n → n ≤ 2 → LastCarrier 5 row 0 n 1
last n some few = record { most = some; last = λ h. first_carries; after = λ i h l. each i h (omega arith) }
  where
    each : (i : ℕ) → 1 ≤ i → i < 2 → carries (eight_from 5 row (0 + i)) ≡ false
    each zero h l = absurd (omega arith)
    each (suc zero) h l = uncarried (eight_from 5 row 1) second
    each (suc (suc i)) h l = absurd (omega arith)

abbrev set : Control
set = searched 5 (eight_from 5 row 0) (counted_to 2 heard)

one_not_none : ◌≡◌ {A = ℕ} 1 0 → ⊥
one_not_none e = absurd (omega arith)

carrier_ready_meets : (set.wait ≡ None) × (set.sample + 1 ≤ 2 ^ 63)
carrier_ready_meets =
    carrier_ready 5 row 0 2 heard (block 2 (lit≤ tt) (lit≤ tt)) (calm 2 (lit≤ tt)) 1 (last 2 (lit≤ tt) (lit≤ tt)) one_not_none set refl

carrier_last_meets : Blocks 5 row 0 1 heard 1 set
carrier_last_meets =
    carrier_last 5 row 0 1 heard (block 1 (lit≤ tt) (lit≤ tt)) (calm 1 (lit≤ tt)) 1 (last 1 (lit≤ tt) (lit≤ tt)) one_not_none set refl refl

carrier_then_meets : Blocks 5 row 0 2 heard 2 (counted_to (set.sample + 1) set)
carrier_then_meets =
    carrier_then 5 row 0 2 heard (block 2 (lit≤ tt) (lit≤ tt)) (calm 2 (lit≤ tt)) 1
    (last 2 (lit≤ tt) (lit≤ tt)) one_not_none set refl one_not_none (counted_to (set.sample + 1) set) refl

-- ---- searched one after the other: the first is marked, and the second only counted
marks : List ℕ
marks = 1 ∷ 0 ∷ []

row_marked : (n : ℕ) → n ≤ 2 → Marked 5 row 0 n marks
row_marked n few = record { none = λ i h. none i (omega arith); no_frame = λ i h l. (calm n few).no_frame i h }
  where
    none : (i : ℕ) → i < 2 → get_or marks i 0 ≡ 0 → (burst : SyncBurst) → matches burst (eight_from 5 row (0 + i)) ≡ false
    none zero h z = absurd (unfold marks in one_not_none z)
    none (suc zero) h z = second
    none (suc (suc i)) h z = absurd (omega arith)

found_first : (n : ℕ) → NextMark marks 0 n false 0
found_first n = record { least = lit≤ tt; most = omega arith; at_once = λ e. refl; between = λ e i h l. absurd (omega arith) }

searches : Midway 5 row 0 2 heard 1 set
searches =
    midway_searches 5 row 0 2 heard (block 2 (lit≤ tt) (lit≤ tt)) 0 heard (midway_start 5 row 0 2 heard) (goes_back 5 heard heard_24) marks
    (row_marked 2 (lit≤ tt)) false refl 0 (found_first 2)
    (λ e. absurd (omega arith)) set refl

found_none : NextMark marks 1 2 false 2
found_none = record { least = lit≤ tt; most = lit≤ tt; at_once = λ e. absurd (true≢false (sym e)); between = λ e. unmarked }
  where
    unmarked : (i : ℕ) → 1 ≤ i → i < 2 → get_or marks i 0 ≡ 0
    unmarked zero h l = absurd (omega arith)
    unmarked (suc zero) h l = unfold marks in refl
    unmarked (suc (suc i)) h l = absurd (omega arith)

shape : Set 5 heard refl (eight_from 5 row) heard_24 refl 0 0
shape = set_shape 5 heard refl (eight_from 5 row) heard_24 refl 0 0 (lit≤ tt) first

set_free : is_free_lem 5 set ≡ true
set_free = rw shape.is (goes_back 5 _ (goes_timed 5 2 shape.timer heard heard_24 (lit≤ tt) (lit< tt) shape.fit))

set_holds : false ≡ held set.candidate
set_holds = rw shape.is refl

midway_counts_meets : Blocks 5 row 0 2 heard 2 (counted_to (set.sample + 1) set)
midway_counts_meets =
    midway_counts 5 row 0 2 heard (block 2 (lit≤ tt) (lit≤ tt)) 1 set searches set_free marks
    (row_marked 2 (lit≤ tt)) false set_holds 2 found_none (lit< tt) refl (counted_to (set.sample + 1) set) refl

-- ---- a block of one, which is the last that can be counted: at its end the control does not go on
abbrev nearly : Control
nearly = record { candidate = Nothing; wait = None; dcd = None; owed = false; sample = 2 ^ 63 - 1 }

nearly_goes : goes_on_lem 5 nearly ≡ true
unfolding goes_on_lem control_fit_lem candidate_fit_lem wait_fit_lem
nearly_goes = refl

only : Block 5 row 0 1 nearly
only = record { some = lit≤ tt; few = lit≤ tt; free = refl; goes = nearly_goes; count = lit≤ tt; values = row_values 1 (lit≤ tt) }

abbrev full : Control
full = searched 5 (eight_from 5 row 0) (counted_to (2 ^ 63) nearly)

ended : Midway 5 row 0 1 nearly 1 full
ended =
    midway_searches 5 row 0 1 nearly only 0 nearly (midway_start 5 row 0 1 nearly) nearly_goes marks (row_marked 1 (lit≤ tt)) false refl 0
    (found_first 1) (λ e. absurd (omega arith)) full refl

midway_ends_meets : Blocks 5 row 0 1 nearly 1 full
midway_ends_meets = midway_ends 5 row 0 1 nearly only 1 full ended (lit≤ tt)

full_shape : Set 5 nearly refl (eight_from 5 row) (goes 5 nearly nearly_goes) refl 0 0
full_shape = set_shape 5 nearly refl (eight_from 5 row) (goes 5 nearly nearly_goes) refl 0 0 (lit≤ tt) first

full_stops : is_free_lem 5 full ≡ false
full_stops =
    let d : Control = timed_to (2 ^ 63) full_shape.timer nearly in
    rw full_shape.is (is_false (goes_on_lem 5 d) (not_T (goes_on_lem 5 d) λ t. lt_irrefl (2 ^ 63) (goes 5 d (is_true (goes_on_lem 5 d) t)).count))

midway_stops_meets : Blocks 5 row 0 1 nearly 1 full
midway_stops_meets = midway_stops 5 row 0 1 nearly only 1 full ended full_stops
