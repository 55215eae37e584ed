-- Small instances of the laws of a stretch, at fresh records of both rates: what the laws ask can be met. Assumes nothing.
use mathlib.Core.Path.{◌≡◌, refl}
use mathlib.Core.Bool.{true}
use mathlib.Core.List.{List, [], ◌∷◌, ◌++◌}
use Prim.Native.Nat.{ℕ, ◌+◌, ◌<◌}
use native.Mathlib.Omega.{arith}
use borrow.Author.Tests.{le-leb}
use lib.Dec.{T, lit≤, lit<}
use lib.IntN.{ℤ, pos}
use lib.ListN.{length, get_or, take, drop, replicate, length-replicate}
use lib.Ieee.{Float, nan, binary32, of_bits, of_int, add, mul, lt, le, eq}
use Rattle.numbers.specs.Below.{all_below}
use Rattle.numbers.specs.Firsts.{firsts, written}
use Rattle.numbers.specs.Sum.{sum_to}
use Rattle.numbers.proofs.Below.{all_below_lem}
use Rattle.numbers.proofs.Firsts.{length_firsts, firsts_at}
use Rattle.shaping.specs.Taps.{taps, even_taps}
use Rattle.shaping.specs.Rate.{at48, at24, rate_fit, rate_at}
use Rattle.shaping.specs.Sum.{dot, sample_in}
use Rattle.shaping.proofs.RateFacts.{facts48, facts24}
use Rattle.decode.specs.Correlator.{in_range}
use Rattle.bulk.specs.Sums.{sum_from, sums_of, is_still_lem}
use Rattle.look.specs.Marks.{eight_from}
use Rattle.quiet.specs.Walk.{walked_from}
use Rattle.demodulator.specs.declared.step.Places.{Places}
use Rattle.demodulator.specs.Spans.{eight}
use Rattle.demodulator.specs.Record.{fresh_control, fresh, back, filtered_after, with_control}
use Rattle.demodulator.specs.Fit.{halves_agree_lem}
use Rattle.demodulator.specs.Feed.{rest_from}
use Rattle.demodulator.specs.Stretch.{stored_to, filtered_at, row_at, heard_float, Rows, Inside, HasValues, Lent, Begins, Stretches}
use Rattle.demodulator.proofs.StepInstances.{room, room_enough}
use Rattle.demodulator.proofs.StoredMany.{Standing, filtered_at_lem, eight_row, seven_row, row_same}
use Rattle.demodulator.proofs.WalkFeeds.{walk_feeds}
use Rattle.demodulator.proofs.RowLaid.{laid_side_by_side, still_sums, whole_sums, part_sums}
use Rattle.demodulator.proofs.StretchFeeds.{first_samples, none_taken, has_values, Plain, plain_facts}

-- ---- a fresh record of each rate, and three samples
standing48 : Standing 10 (fresh 48000)
unfolding fresh halves_agree_lem all_below
standing48 = record {
  window_cursor = lit< tt;
  ring_cursor = lit< tt;
  window_long = omega (arith, length-replicate 162 (pos 0));
  ring_long = omega (arith, length-replicate 1920 (of_bits binary32 0));
  halves = refl;
}

standing24 : Standing 5 (fresh 24000)
unfolding fresh halves_agree_lem all_below
standing24 = record {
  window_cursor = lit< tt;
  ring_cursor = lit< tt;
  window_long = omega (arith, length-replicate 162 (pos 0));
  ring_long = omega (arith, length-replicate 1920 (of_bits binary32 0));
  halves = refl;
}

abbrev three : List ℤ
three = pos 0 ∷ pos 0 ∷ pos 7 ∷ []

-- ---- stored
filtered_at_meets : filtered_after at24 (stored_to at24 (fresh 24000) three 2) (pos 7) ≡ filtered_at at24 (fresh 24000) three 2
filtered_at_meets = filtered_at_lem at24 facts24 (fresh 24000) standing24 three 2

eight_row_meets : eight 10 (back 10 (stored_to at48 (fresh 48000) three 3)) 7 ≡ row_at at48 (fresh 48000) three 72
eight_row_meets = eight_row at48 facts48 (fresh 48000) standing48 three 2 7 (lit< tt)

seven_row_meets : back 5 (stored_to at24 (fresh 24000) three 2) 4 ≡ row_at at24 (fresh 24000) three 32
seven_row_meets = seven_row at24 facts24 (fresh 24000) standing24 three 2 0 (lit< tt)

first_two : Begins (take 2 three) three
first_two = first_samples 2 three (lit≤ tt)

row_same_meets : row_at at24 (fresh 24000) (take 2 three) 36 ≡ row_at at24 (fresh 24000) three 36
row_same_meets = row_same at24 (fresh 24000) (take 2 three) three first_two facts24.number 36 (lit< tt)

-- ---- sums
still_sums_meets : replicate 48 (of_bits binary32 0) ≡ firsts (sum_from (rate_at 5).taps (replicate 88 (of_bits binary32 0))) 48
still_sums_meets = still_sums 5 facts24.known (replicate 88 (of_bits binary32 0)) (length-replicate 88 (of_bits binary32 0)) (unfold is_still_lem all_below of_bits eq in refl)

whole_sums_meets : sums_of (rate_at 10).taps (replicate 128 nan) ≡ firsts (sum_from (rate_at 10).taps (replicate 128 nan)) 48
whole_sums_meets = whole_sums 10 facts48.known (replicate 128 nan) (length-replicate 128 nan)

part_sums_meets : sum_from (rate_at 5).taps (take 88 (drop 1 (replicate 90 nan))) 2 ≡ sum_from (rate_at 5).taps (replicate 90 nan) 3
part_sums_meets = part_sums 5 facts24.known (replicate 90 nan) 1 88 (lit≤ tt) 2 (lit< tt)

-- ---- side by side: eight of the window's, and one more, at one sample a symbol
laid_meets : let part = take 8 (drop 1 (replicate 18 (pos 3))) in
    let room₁ = written (sample_in part) 8 (replicate 9 nan) in
    take 8 room₁ ++ written (sample_in (pos 5 ∷ [])) 1 (drop 8 room₁) ≡ written (heard_float 1 (replicate 18 (pos 3)) 0 (pos 5 ∷ [])) 9 (replicate 9 nan)
laid_meets = laid_side_by_side 1 (replicate 18 (pos 3)) 0 (pos 5 ∷ []) (take 8 (drop 1 (replicate 18 (pos 3)))) 8 refl (lit≤ tt) (replicate 9 nan) _ _ refl refl refl

-- ---- a silent sample at 24 kHz
abbrev silence : List ℤ
silence = pos 0 ∷ []

abbrev row : List Float
row = firsts (row_at at24 (fresh 24000) silence) 742

row_holds : (i : ℕ) → i < 36 → get_or row i nan ≡ row_at at24 (fresh 24000) silence i
row_holds i l = firsts_at (row_at at24 (fresh 24000) silence) 742 i nan (omega arith)

silent_range : T (all_below 36 (λ (i : ℕ). in_range (row_at at24 (fresh 24000) silence i)))
unfolding fresh filtered_at dot sum_to even_taps firsts taps all_below in_range of_bits of_int add mul le lt
silent_range = tt

row_range : (i : ℕ) → i < 36 → T (in_range (get_or row i nan))
row_range i l = rw (row_holds i l) (all_below_lem 36 (λ (j : ℕ). in_range (row_at at24 (fresh 24000) silence j)) silent_range i l)

fresh_rate : rate_fit (fresh 24000).rate ≡ true
unfolding fresh
fresh_rate = refl

walk_feeds_meets : let w = walked_from 5 (eight_from 5 row) 0 1 fresh_control in
    rest_from at24 0 (with_control fresh_control (stored_to at24 (fresh 24000) silence 0)) silence room
    ≡ rest_from at24 (0 + w.fed) (with_control w.control (stored_to at24 (fresh 24000) silence w.fed)) (drop w.fed silence) room
walk_feeds_meets = walk_feeds at24 facts24 (fresh 24000) fresh_rate standing24 silence room room_enough row 1 row_holds row_range 0 0 1 fresh_control (lit≤ tt) (lit≤ tt)

-- ---- the record by its parts
abbrev window : List ℤ
window = (fresh 24000).filter_win

abbrev ring : List Float
ring = (fresh 24000).rx_win

abbrev start : Places
start = record { filter_cursor = 0; rx_cursor = 0 }

inside : Inside 5 start
inside = record { window_cursor = lit< tt; ring_cursor = lit< tt }

lent : Lent 5 window ring
lent = record { known = facts24.known; window_long = standing24.window_long; ring_long = standing24.ring_long }

plain_meets : Plain true true room
plain_meets = plain_facts true true room 12 (rw (le-leb 192 (length room) room_enough))

none_taken_meets : Stretches 5 true window ring start fresh_control three (record { fed = 0; places = start; control = fresh_control }) window ring
none_taken_meets = none_taken 5 true window ring start fresh_control three lent

rows : Rows 5 window ring start silence row
unfolding fresh filtered_at
rows = record { long = length_firsts (row_at at24 (fresh 24000) silence) 742; values = λ rate c i l. row_holds i l }

has_values_meets : HasValues 5 window ring start silence row 1
has_values_meets = has_values 5 window ring start silence lent standing24.halves inside (lit≤ tt) row rows 1 (lit≤ tt)
