-- What a caller reads from a refused call's code: the refusal's number in the lower half, the symbol's place in the upper. Assumes nothing.
use mathlib.Core.Path.{◌≡◌, refl, ap, ◌∙◌}
use Prim.Native.Nat.{ℕ, ◌+◌, ◌*◌, ◌/◌, ◌%◌, ◌≤◌}
use native.Mathlib.Omega.{arith}
use borrow.Author.Tests.{le-ltb}
use Rattle.protocol.specs.declared.Refusal.{Refusal}
use Rattle.protocol.specs.declared.Refusal.TheVariants.{RecordUnfit, ReplyOwed, NoReplyOwed, RoomTooSmall, CountAtItsEnd, WrongCount, SymbolNotANumber, SymbolInfinite, SymbolAboveOne, SymbolBelowMinusOne, CountTooLarge, CapacityBelowFill, ValueOutside, WrongBurst, WrongRate, RecordingTooLong, ListRoomTooSmall, NoSuchSample, TotalTooLarge, BadLine, NoSuchSeat, SeatClosed, SeatOpen}
use Rattle.protocol.specs.declared.Place.{Place}
use Rattle.protocol.specs.declared.Place.TheVariants.{Nothing, Symbol, Line}
use Rattle.protocol.specs.Refusals.{PaperRefusal, number_of, place_of, on_paper}
use Rattle.library_codes.specs.Codes.{place_share, refusal_code}

-- ---- no number passes the largest of document 02
pub number_few : (why : Refusal) → number_of (on_paper why) ≤ 74
number_few RecordUnfit = omega arith
number_few ReplyOwed = omega arith
number_few NoReplyOwed = omega arith
number_few RoomTooSmall = omega arith
number_few CountAtItsEnd = omega arith
number_few WrongCount = omega arith
number_few (SymbolNotANumber place) = omega arith
number_few (SymbolInfinite place) = omega arith
number_few (SymbolAboveOne place) = omega arith
number_few (SymbolBelowMinusOne place) = omega arith
number_few CountTooLarge = omega arith
number_few CapacityBelowFill = omega arith
number_few ValueOutside = omega arith
number_few WrongBurst = omega arith
number_few WrongRate = omega arith
number_few RecordingTooLong = omega arith
number_few ListRoomTooSmall = omega arith
number_few NoSuchSample = omega arith
number_few TotalTooLarge = omega arith
number_few (BadLine line) = omega arith
number_few NoSuchSeat = omega arith
number_few SeatClosed = omega arith
number_few SeatOpen = omega arith

-- ---- no answer has a refusal's code
pub refused_from_100 : (why : PaperRefusal) → 100 ≤ refusal_code why
refused_from_100 why = omega arith

-- ---- the two halves
share_whole : (place : Place) → place_share place % 65536 ≡ 0
share_whole Nothing = refl
share_whole (Symbol place) = omega arith
share_whole (Line line) = refl

pub code_number : (why : Refusal) → refusal_code (on_paper why) % 65536 ≡ 100 + number_of (on_paper why)
code_number why = omega (arith, number_few why, share_whole (place_of (on_paper why)))

pub code_place : (why : Refusal) (place : ℕ) → place_of (on_paper why) ≡ Symbol place → place ≤ 65535 → refusal_code (on_paper why) / 65536 ≡ place
code_place why place at few =
    let share : place_share (place_of (on_paper why)) ≡ 65536 * place = ap place_share at ∙ rw (le-ltb 65535 place few) in
    omega (arith, number_few why, share)

-- ---- the hypotheses met: symbol 191, above 1
code_place_meets : refusal_code (on_paper (SymbolAboveOne 191)) / 65536 ≡ 191
code_place_meets = code_place (SymbolAboveOne 191) 191 refl (omega arith)

-- symbol 3 is not a number; line 5 is bad, which the code does not tell
codes_written : (refusal_code (on_paper (SymbolNotANumber 3)) ≡ 196779) × (refusal_code (on_paper (BadLine 5)) ≡ 117)
codes_written = (refl, refl)
