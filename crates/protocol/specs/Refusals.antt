-- The refusals' numbers: document 01's table, row by row, with document 02's in their places. Assumes nothing.
use Rattle.std.specs.Prelude.{◌≡◌, ℕ}
use Rattle.protocol.specs.declared.Refusal.{Refusal}
use Rattle.protocol.specs.declared.Refusal.TheVariants.{RecordUnfit, ReplyOwed, NoReplyOwed, RoomTooSmall, CountAtItsEnd, WrongCount, SymbolNotANumber, SymbolInfinite, SymbolAboveOne, SymbolBelowMinusOne, CountTooLarge, CapacityBelowFill, ValueOutside, WrongBurst, WrongRate, RecordingTooLong, ListRoomTooSmall, NoSuchSample, TotalTooLarge, BadLine, NoSuchSeat, SeatClosed, SeatOpen}
use Rattle.protocol.specs.declared.Place.{Place}
use Rattle.protocol.specs.declared.Place.TheVariants.{Nothing, Symbol, Line}

-- a refusal on paper: its number alone, with a symbol's place beside it, or with a line's number
pub data PaperRefusal : Type 0 where
  bare : ℕ → PaperRefusal
  placed : ℕ → ℕ → PaperRefusal
  at_line : ℕ → ℕ → PaperRefusal

abbrev pub on_paper : Refusal → PaperRefusal
-- "record unfit"
on_paper RecordUnfit = bare 1
-- "sample given while a reply is owed"
on_paper ReplyOwed = bare 2
-- "reply given while none is owed"
on_paper NoReplyOwed = bare 3
-- "room for symbols below 192 (checked on every sample)"
on_paper RoomTooSmall = bare 4
-- "sample given at count 2^63"
on_paper CountAtItsEnd = bare 5
-- "symbols not exactly 192; correlator values not exactly 8"; "6 also for a payload that is not 184 symbols"
on_paper WrongCount = bare 6
-- "not a number, infinite, above 1, below -1, each with the place of the first offending symbol": "71 to 74 in that order replace 7"
on_paper (SymbolNotANumber place) = placed 71 place
on_paper (SymbolInfinite place) = placed 72 place
on_paper (SymbolAboveOne place) = placed 73 place
on_paper (SymbolBelowMinusOne place) = placed 74 place
-- "fill, capacity or latency above 16,777,216"; "a padding count above 122,400"
on_paper CountTooLarge = bare 8
-- "capacity below fill"
on_paper CapacityBelowFill = bare 9
-- "a correlator value not a number or beyond ±1,000,000"
on_paper ValueOutside = bare 10
-- "a BERT frame whose first eight symbols are not that burst's signs"
on_paper WrongBurst = bare 11
-- "any rate but the two, checked first"
on_paper WrongRate = bare 15
-- "12, recording too long; 13, room for the list too small"
on_paper RecordingTooLong = bare 12
on_paper ListRoomTooSmall = bare 13
-- "14, sample number 0 or beyond the recording's end"
on_paper NoSuchSample = bare 14
-- "16, a total that would pass 2^63"
on_paper TotalTooLarge = bare 16
-- "17, a bad frame line, with its number"
on_paper (BadLine line) = at_line 17 line
-- "18 seat above 7, 19 seat closed, 20 seat open"
on_paper NoSuchSeat = bare 18
on_paper SeatClosed = bare 19
on_paper SeatOpen = bare 20

abbrev pub number_of : PaperRefusal → ℕ
number_of (bare number) = number
number_of (placed number place) = number
number_of (at_line number line) = number

abbrev pub place_of : PaperRefusal → Place
place_of (bare number) = Nothing
place_of (placed number place) = Symbol place
place_of (at_line number line) = Line line

-- ---- what the functions promise
abbrev pub NumberSays : Refusal → ℕ → Type 0
NumberSays refusal r = r ≡ number_of (on_paper refusal)

abbrev pub PlaceSays : Refusal → Place → Type 0
PlaceSays refusal r = r ≡ place_of (on_paper refusal)
