-- Small instances of the laws of a row: two samples of silence, at both rates. Assumes nothing.
use Rattle.std.specs.Prelude.{None}
use mathlib.Core.Path.{◌≡◌, refl, ◌∙◌}
use mathlib.Core.Bool.{true, false}
use mathlib.Core.List.{List, []}
use Prim.Native.Nat.{ℕ, ◌+◌, ◌-◌, ◌*◌, ◌^◌, ◌≤◌, ◌<◌}
use native.Mathlib.Omega.{arith}
use lib.Dec.{lit≤, lit<}
use lib.ListN.{length, take, drop, replicate, length-replicate}
use lib.Ieee.{Float, nan, of_bits, neg, lt, le, eq}
use Rattle.numbers.specs.Below.{all_below}
use Rattle.numbers.specs.Sum.{nought}
use Rattle.protocol.specs.declared.SyncBurst.TheVariants.{Frame}
use Rattle.decode.specs.Correlator.{in_range}
use Rattle.search.specs.declared.Candidate.TheVariants.{Nothing}
use Rattle.search.specs.declared.Control.{Control}
use Rattle.search.specs.Turn.{counted_to}
use Rattle.search.specs.Fit.{candidate_fit_lem, wait_fit_lem, control_fit_lem}
use Rattle.search.proofs.Silent.{Unmatched}
use Rattle.look.specs.Rows.{row_in_range, row_faint}
use Rattle.look.specs.Marks.{eight_from, marks_of}
use Rattle.quiet.specs.Walk.{goes_on_lem, walked_to, walked_from, walked}
use Rattle.quiet.specs.Parts.{InRange, Marked, Block, Blocks, LastCarrier}
use Rattle.quiet.proofs.GoesOn.{Goes, goes_back}
use Rattle.quiet.proofs.Rows.{uncarried, faint_all, marked, row_range}
use Rattle.quiet.proofs.BlockLaws.{counted_block, no_carrier}
use Rattle.quiet.proofs.WalkLaws.{row_many, row_short, row_out, row_ready, walk_stops, walk_ends, walk_on, fewer_in_range}
use Rattle.quiet.proofs.Instances.{heard, heard_48, heard_24}

-- ---- a row of zeros with two samples
abbrev still : ℕ → List Float
still p = replicate (7 * p + 50) nought

still_long : (p : ℕ) → 2 + (7 * p + 48) ≤ length (still p)
still_long p = omega (arith, length-replicate (7 * p + 50) nought)

still_range : (p : ℕ) → p ≤ 10 → row_in_range (take (2 + 7 * p) (still p)) ≡ true → InRange p (still p) 0 2
still_range p few e = row_range p (still p) 2 0 2 few (still_long p) (lit≤ tt) e

in_48 : row_in_range (take 72 (still 10)) ≡ true
unfolding row_in_range all_below in_range le lt eq of_bits
in_48 = refl

in_24 : row_in_range (take 37 (still 5)) ≡ true
unfolding row_in_range all_below in_range le lt eq of_bits
in_24 = refl

-- ---- a block of both
module _ (p : ℕ) (few : p ≤ 10) (inside : row_in_range (take (2 + 7 * p) (still p)) ≡ true) (g : Goes p heard) where
  block : Block p (still p) 0 2 heard
  block = record { some = lit≤ tt; few = lit≤ tt; free = refl; goes = goes_back p heard g; count = lit≤ tt; values = still_range p few inside }

  abbrev part : List Float
  part = take (0 + (7 * p + 48) - 0) (drop 0 (still p))

  module _ (faint : row_faint part ≡ true) where
    long : 0 + (7 * p + 48) ≤ length (still p)
    long = omega (arith, still_long p)

    silent : (i : ℕ) → i < 2 → Unmatched (eight_from p (still p) (0 + i))
    silent i l = faint_all p (still p) 0 part refl long faint i (omega arith)

    two_counted : Blocks p (still p) 0 2 heard 2 (counted_to 3 heard)
    two_counted = counted_block p (still p) 0 2 heard block refl silent (counted_to 3 heard) refl

    none_carries : LastCarrier p (still p) 0 2 0
    none_carries =
        record { most = lit≤ tt; last = λ h. absurd (omega arith); after = λ i h l. uncarried (eight_from p (still p) (0 + i)) (silent i l) }

    no_carrier_meets : Blocks p (still p) 0 2 heard 2 (counted_to 3 heard)
    no_carrier_meets =
        no_carrier p (still p) 0 2 heard block
        (record { nothing = refl; no_frame = λ i l kind. silent i l (Frame kind) }) 0 none_carries refl (counted_to 3 heard) refl

    -- the whole row
    walk_two : walked p (still p) 2 heard ≡ walked_to 2 (counted_to 3 heard)
    walk_two =
        row_ready p (still p) 2 heard few (still_long p) inside
        ∙ walk_on p (eight_from p (still p)) 2 0 2 heard (counted_to 3 heard) (lit≤ tt) two_counted.leads
        ∙ walk_ends p (eight_from p (still p)) 2 0 (counted_to 3 heard) refl

    marked_meets : Marked p (still p) 0 2 (marks_of p part)
    marked_meets = marked p (still p) 0 part refl long few (marks_of p part) refl 2 (lit≤ tt) (still_range p few inside)

walk_48 : walked 10 (still 10) 2 heard ≡ walked_to 2 (counted_to 3 heard)
walk_48 = walk_two 10 (lit≤ tt) in_48 heard_48 (unfold row_faint all_below lt neg of_bits in refl)

walk_24 : walked 5 (still 5) 2 heard ≡ walked_to 2 (counted_to 3 heard)
walk_24 = walk_two 5 (lit≤ tt) in_24 heard_24 (unfold row_faint all_below lt neg of_bits in refl)

fewer_in_range_meets : InRange 5 (still 5) 0 1
fewer_in_range_meets = fewer_in_range 5 (still 5) 0 1 2 (lit≤ tt) (still_range 5 (lit≤ tt) in_24)

-- ---- rows of which no sample is taken
many : walked 11 (still 11) 2 heard ≡ walked_to 0 heard
many = row_many 11 (still 11) 2 heard (lit< tt)

short : walked 5 [] 0 heard ≡ walked_to 0 heard
short = row_short 5 [] 0 heard (lit≤ tt) (lit< tt)

-- a row for 24 kHz is too short for as many samples at 48 kHz
short_48 : walked 10 (still 5) 2 heard ≡ walked_to 0 heard
short_48 = row_short 10 (still 5) 2 heard (lit≤ tt) (omega (arith, length-replicate 85 nought))

unfit_row : walked 5 (replicate 83 nan) 0 heard ≡ walked_to 0 heard
unfit_row =
    row_out 5 (replicate 83 nan) 0 heard (lit≤ tt) (omega (arith, length-replicate 83 nan))
    (unfold row_in_range all_below in_range le lt eq of_bits in refl)

-- ---- a control that does not go on: the count has reached its end
abbrev full : Control
full = record { candidate = Nothing; wait = None; dcd = None; owed = false; sample = 2 ^ 63 }

full_stops : goes_on_lem 5 full ≡ false
unfolding goes_on_lem control_fit_lem candidate_fit_lem wait_fit_lem
full_stops = refl

walk_stops_meets : walked_from 5 (eight_from 5 (still 5)) 0 2 full ≡ walked_to 0 full
walk_stops_meets = walk_stops 5 (eight_from 5 (still 5)) 0 2 full full_stops
