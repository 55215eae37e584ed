-- Small instances of the laws of quiet samples, at both rates: what they ask can be met. Assumes nothing.
use Rattle.std.specs.Prelude.{Some, None}
use mathlib.Core.Path.{◌≡◌, refl}
use mathlib.Core.Bool.{true, false}
use mathlib.Core.List.{List, [], ◌∷◌}
use Prim.Native.Nat.{ℕ}
use lib.Dec.{lit≤, lit<}
use lib.Ieee.{Float, binary32, of_bits, of_int, add, sub, div, neg, lt, le, eq}
use Rattle.numbers.specs.Below.{any_below, all_below}
use Rattle.numbers.specs.Choice.{larger, smaller, size_of}
use Rattle.numbers.specs.Sum.{nought, sum_to}
use Rattle.protocol.specs.declared.Kind.{Kind}
use Rattle.protocol.specs.declared.Kind.TheVariants.{Lsf, Bert, Stream, Packet}
use Rattle.protocol.specs.declared.SyncBurst.TheVariants.{Frame}
use Rattle.protocol.specs.Bursts.{signs_of}
use Rattle.decode.specs.Correlator.{zero_unsigned, highest, lowest, gain_of, shift_of, symbol_of, distance_of, summed, diff_of, correlation, matches, in_range}
use Rattle.decode.specs.Parts.{values_of}
use Rattle.search.specs.declared.Candidate.TheVariants.{Nothing, Held}
use Rattle.search.specs.declared.Waiting.{Waiting}
use Rattle.search.specs.declared.Control.{Control}
use Rattle.search.specs.Search.{searched}
use Rattle.search.specs.Turn.{cleared, counted_to, waiting_on}
use Rattle.search.specs.Fit.{candidate_fit_lem, wait_fit_lem, control_fit_lem}
use Rattle.search.proofs.Silent.{Unmatched}
use Rattle.look.proofs.Faint.{faint_unmatched}
use Rattle.quiet.specs.Walk.{goes_on_lem}
use Rattle.quiet.specs.Parts.{carries, Leads}
use Rattle.quiet.proofs.GoesOn.{Goes, goes, goes_back, cleared_once, counted_once, goes_counted}
use Rattle.quiet.proofs.QuietSteps.{search_after, search_one, quiet_counted}
use Rattle.quiet.proofs.Rests.{rests_some}
use Rattle.quiet.proofs.LastTimer.{Set, set_shape, last_timer}

-- ---- three samples of silence after sample 1; the carrier timer ends at the second of them
abbrev pub heard : Control
heard = record { candidate = Nothing; wait = None; dcd = Some 2; owed = false; sample = 1 }

pub heard_48 : Goes 10 heard
heard_48 = goes 10 heard (unfold goes_on_lem control_fit_lem candidate_fit_lem wait_fit_lem in refl)

pub heard_24 : Goes 5 heard
heard_24 = goes 5 heard (unfold goes_on_lem control_fit_lem candidate_fit_lem wait_fit_lem in refl)

goes_back_meets : goes_on_lem 5 heard ≡ true
goes_back_meets = goes_back 5 heard heard_24

goes_counted_meets : Goes 5 (counted_to 4 heard)
goes_counted_meets = goes_counted 5 4 heard heard_24 (lit≤ tt) (lit< tt)

cleared_once_meets : cleared 4 (cleared 3 (Some 2)) ≡ cleared 4 (Some 2)
cleared_once_meets = cleared_once 3 4 (Some 2) (lit≤ tt)

counted_once_meets : counted_to 4 (counted_to 3 heard) ≡ counted_to 4 heard
counted_once_meets = counted_once 3 4 heard (lit≤ tt)

abbrev silence : ℕ → ℕ → Float
silence i j = nought

silent : Unmatched (λ _. nought)
silent = faint_unmatched (λ _. nought) (λ j l. unfold lt of_bits neg in tt)

-- the control after them: the timer is cleared, as it was in the middle
abbrev unheard : Control
unheard = record { candidate = Nothing; wait = None; dcd = None; owed = false; sample = 4 }

three_48 : Leads 10 silence 0 3 heard unheard
unfolding cleared
three_48 = quiet_counted 10 silence heard heard_48 refl 0 refl 3 (lit≤ tt) (lit≤ tt) (λ i l. silent)

three_24 : Leads 5 silence 0 3 heard unheard
unfolding cleared
three_24 = quiet_counted 5 silence heard heard_24 refl 0 refl 3 (lit≤ tt) (lit≤ tt) (λ i l. silent)

search_after_meets : Leads 5 silence 0 3 heard (searched 5 (silence 2) (counted_to 4 heard))
search_after_meets = search_after 5 silence heard heard_24 refl 0 refl 2 (lit≤ tt) (λ i l. silent)

search_one_meets : Leads 5 silence 0 1 heard (searched 5 (silence 0) (counted_to 2 heard))
search_one_meets = search_one 5 silence heard heard_24 refl 0 (lit≤ tt)

-- ---- two rests of a wait of three, set at age 7 and marked: both are kept
abbrev waited : Waiting
waited = record { left = 3; age = 7; replaced = true }

-- taken at sample 1, with diff 0, gain 16 and shift 0
abbrev resting : Control
resting =
    record { candidate = Held Lsf 7 (of_bits binary32 0) (of_bits binary32 0x4180_0000) (of_bits binary32 0) 1; wait = Some waited; dcd = Some 2; owed = false; sample = 1 }

rest_48 : Leads 10 silence 0 2 resting (waiting_on (record { left = 1; age = 7; replaced = true }) (counted_to 3 resting))
rest_48 =
    rests_some 10 silence resting
    (goes 10 resting (unfold goes_on_lem control_fit_lem candidate_fit_lem wait_fit_lem in_range of_bits le lt in refl)) waited refl 0 2 (lit≤ tt) (lit< tt)
    (lit≤ tt)

rest_24 : Leads 5 silence 0 2 resting (waiting_on (record { left = 1; age = 7; replaced = true }) (counted_to 3 resting))
rest_24 =
    rests_some 5 silence resting
    (goes 5 resting (unfold goes_on_lem control_fit_lem candidate_fit_lem wait_fit_lem in_range of_bits le lt in refl)) waited refl 0 2 (lit≤ tt) (lit< tt)
    (lit≤ tt)

-- ---- a steady preamble: each sample sets the timer, and the last of two counts
abbrev pub up : Float
up = of_bits binary32 0x4200_0000

abbrev pub down : Float
down = of_bits binary32 0xc200_0000

abbrev pub preamble : List Float
preamble = up ∷ down ∷ up ∷ down ∷ up ∷ down ∷ up ∷ down ∷ []

abbrev steady : ℕ → ℕ → Float
steady i = values_of preamble

no_kind : (kind : Kind) → matches (Frame kind) (values_of preamble) ≡ false
unfolding all_below any_below signs_of matches correlation diff_of summed sum_to distance_of symbol_of shift_of gain_of highest lowest zero_unsigned larger smaller size_of add sub div lt eq neg of_int of_bits
no_kind Lsf = refl
no_kind Bert = refl
no_kind Stream = refl
no_kind Packet = refl

carrying : carries (values_of preamble) ≡ true
unfolding all_below any_below signs_of matches correlation diff_of summed sum_to distance_of symbol_of shift_of gain_of highest lowest zero_unsigned larger smaller size_of add sub div lt eq neg of_int of_bits
carrying = refl

set_shape_meets : Set 5 heard refl steady heard_24 refl 0 1
set_shape_meets = set_shape 5 heard refl steady heard_24 refl 0 1 (lit≤ tt) no_kind

last_48 : Leads 10 steady 0 2 heard (searched 10 (values_of preamble) (counted_to 3 heard))
last_48 = last_timer 10 heard refl steady heard_48 refl 0 1 (lit≤ tt) (λ i l. no_kind) carrying

last_24 : Leads 5 steady 0 2 heard (searched 5 (values_of preamble) (counted_to 3 heard))
last_24 = last_timer 5 heard refl steady heard_24 refl 0 1 (lit≤ tt) (λ i l. no_kind) carrying
