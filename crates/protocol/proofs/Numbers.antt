-- No two refusals have the same number and place. Assumes nothing.
use mathlib.Core.Path.{◌≡◌, refl, sym, ap, ◌∙◌}
use mathlib.Core.List.{List, [], ◌∷◌}
use Prim.Native.Nat.{ℕ, ◌-◌}
use lib.ListN.{get_or}
use Rattle.protocol.specs.declared.Refusal.{Refusal}
use Rattle.protocol.specs.declared.Refusal.TheVariants.{RecordUnfit, ReplyOwed, NoReplyOwed, RoomTooSmall, CountAtItsEnd, WrongCount, SymbolNotANumber, SymbolInfinite, SymbolAboveOne, SymbolBelowMinusOne, CountTooLarge, CapacityBelowFill, ValueOutside, WrongBurst, WrongRate, RecordingTooLong, ListRoomTooSmall, NoSuchSample, TotalTooLarge, BadLine, NoSuchSeat, SeatClosed, SeatOpen}
use Rattle.protocol.specs.Refusals.{PaperRefusal, bare, placed, at_line, on_paper}

-- those without a place in the order of their numbers, from 1; 7 and 17 are none's, and any is there
table : List Refusal
table =
    RecordUnfit ∷ ReplyOwed ∷ NoReplyOwed ∷ RoomTooSmall ∷ CountAtItsEnd ∷ WrongCount ∷ RecordUnfit ∷ CountTooLarge ∷ CapacityBelowFill ∷ ValueOutside ∷ WrongBurst
    ∷ RecordingTooLong ∷ ListRoomTooSmall ∷ NoSuchSample ∷ WrongRate ∷ TotalTooLarge ∷ RecordUnfit ∷ NoSuchSeat ∷ SeatClosed ∷ SeatOpen ∷ []

-- those with a symbol's place, from 71
table_at : ℕ → List Refusal
table_at place = SymbolNotANumber place ∷ SymbolInfinite place ∷ SymbolAboveOne place ∷ SymbolBelowMinusOne place ∷ []

-- the refusal of which the paper writes this
pub numbered : PaperRefusal → Refusal
numbered (bare n) = get_or table (n - 1) RecordUnfit
numbered (placed n place) = get_or (table_at place) (n - 71) RecordUnfit
numbered (at_line n line) = BadLine line

pub numbered_back : (why : Refusal) → numbered (on_paper why) ≡ why
unfolding numbered table table_at
numbered_back RecordUnfit = refl
numbered_back ReplyOwed = refl
numbered_back NoReplyOwed = refl
numbered_back RoomTooSmall = refl
numbered_back CountAtItsEnd = refl
numbered_back WrongCount = refl
numbered_back (SymbolNotANumber place) = refl
numbered_back (SymbolInfinite place) = refl
numbered_back (SymbolAboveOne place) = refl
numbered_back (SymbolBelowMinusOne place) = refl
numbered_back CountTooLarge = refl
numbered_back CapacityBelowFill = refl
numbered_back ValueOutside = refl
numbered_back WrongBurst = refl
numbered_back WrongRate = refl
numbered_back RecordingTooLong = refl
numbered_back ListRoomTooSmall = refl
numbered_back NoSuchSample = refl
numbered_back TotalTooLarge = refl
numbered_back (BadLine line) = refl
numbered_back NoSuchSeat = refl
numbered_back SeatClosed = refl
numbered_back SeatOpen = refl

pub refusal_once : (a b : Refusal) → on_paper a ≡ on_paper b → a ≡ b
refusal_once a b e = sym (numbered_back a) ∙ ap numbered e ∙ numbered_back b
