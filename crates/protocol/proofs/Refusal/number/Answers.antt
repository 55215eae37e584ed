-- `Refusal::number` meets its contract. Assumes nothing.
use mathlib.Core.Path.{sym, ap}
use Rattle.protocol.specs.declared.Refusal.{Refusal}
use Rattle.protocol.specs.Refusals.{on_paper, number_of}
use Rattle.protocol.proofs.Refusal.number.Goals as goal

pub returns-in-RecordUnfit : goal.returns-in-RecordUnfit
returns-in-RecordUnfit c = sym (ap (λ (why : Refusal). number_of (on_paper why)) c.in-RecordUnfit.is)

pub returns-in-ReplyOwed : goal.returns-in-ReplyOwed
returns-in-ReplyOwed c = sym (ap (λ (why : Refusal). number_of (on_paper why)) c.in-ReplyOwed.is)

pub returns-in-NoReplyOwed : goal.returns-in-NoReplyOwed
returns-in-NoReplyOwed c = sym (ap (λ (why : Refusal). number_of (on_paper why)) c.in-NoReplyOwed.is)

pub returns-in-RoomTooSmall : goal.returns-in-RoomTooSmall
returns-in-RoomTooSmall c = sym (ap (λ (why : Refusal). number_of (on_paper why)) c.in-RoomTooSmall.is)

pub returns-in-CountAtItsEnd : goal.returns-in-CountAtItsEnd
returns-in-CountAtItsEnd c = sym (ap (λ (why : Refusal). number_of (on_paper why)) c.in-CountAtItsEnd.is)

pub returns-in-WrongCount : goal.returns-in-WrongCount
returns-in-WrongCount c = sym (ap (λ (why : Refusal). number_of (on_paper why)) c.in-WrongCount.is)

pub returns-in-SymbolNotANumber : goal.returns-in-SymbolNotANumber
returns-in-SymbolNotANumber c = sym (ap (λ (why : Refusal). number_of (on_paper why)) c.in-SymbolNotANumber.is)

pub returns-in-SymbolInfinite : goal.returns-in-SymbolInfinite
returns-in-SymbolInfinite c = sym (ap (λ (why : Refusal). number_of (on_paper why)) c.in-SymbolInfinite.is)

pub returns-in-SymbolAboveOne : goal.returns-in-SymbolAboveOne
returns-in-SymbolAboveOne c = sym (ap (λ (why : Refusal). number_of (on_paper why)) c.in-SymbolAboveOne.is)

pub returns-in-SymbolBelowMinusOne : goal.returns-in-SymbolBelowMinusOne
returns-in-SymbolBelowMinusOne c = sym (ap (λ (why : Refusal). number_of (on_paper why)) c.in-SymbolBelowMinusOne.is)

pub returns-in-CountTooLarge : goal.returns-in-CountTooLarge
returns-in-CountTooLarge c = sym (ap (λ (why : Refusal). number_of (on_paper why)) c.in-CountTooLarge.is)

pub returns-in-CapacityBelowFill : goal.returns-in-CapacityBelowFill
returns-in-CapacityBelowFill c = sym (ap (λ (why : Refusal). number_of (on_paper why)) c.in-CapacityBelowFill.is)

pub returns-in-ValueOutside : goal.returns-in-ValueOutside
returns-in-ValueOutside c = sym (ap (λ (why : Refusal). number_of (on_paper why)) c.in-ValueOutside.is)

pub returns-in-WrongBurst : goal.returns-in-WrongBurst
returns-in-WrongBurst c = sym (ap (λ (why : Refusal). number_of (on_paper why)) c.in-WrongBurst.is)

pub returns-in-WrongRate : goal.returns-in-WrongRate
returns-in-WrongRate c = sym (ap (λ (why : Refusal). number_of (on_paper why)) c.in-WrongRate.is)

pub returns-in-RecordingTooLong : goal.returns-in-RecordingTooLong
returns-in-RecordingTooLong c = sym (ap (λ (why : Refusal). number_of (on_paper why)) c.in-RecordingTooLong.is)

pub returns-in-ListRoomTooSmall : goal.returns-in-ListRoomTooSmall
returns-in-ListRoomTooSmall c = sym (ap (λ (why : Refusal). number_of (on_paper why)) c.in-ListRoomTooSmall.is)

pub returns-in-NoSuchSample : goal.returns-in-NoSuchSample
returns-in-NoSuchSample c = sym (ap (λ (why : Refusal). number_of (on_paper why)) c.in-NoSuchSample.is)

pub returns-in-TotalTooLarge : goal.returns-in-TotalTooLarge
returns-in-TotalTooLarge c = sym (ap (λ (why : Refusal). number_of (on_paper why)) c.in-TotalTooLarge.is)

pub returns-in-BadLine : goal.returns-in-BadLine
returns-in-BadLine c = sym (ap (λ (why : Refusal). number_of (on_paper why)) c.in-BadLine.is)

pub returns-in-NoSuchSeat : goal.returns-in-NoSuchSeat
returns-in-NoSuchSeat c = sym (ap (λ (why : Refusal). number_of (on_paper why)) c.in-NoSuchSeat.is)

pub returns-in-SeatClosed : goal.returns-in-SeatClosed
returns-in-SeatClosed c = sym (ap (λ (why : Refusal). number_of (on_paper why)) c.in-SeatClosed.is)

pub returns-in-SeatOpen : goal.returns-in-SeatOpen
returns-in-SeatOpen c = sym (ap (λ (why : Refusal). number_of (on_paper why)) c.in-SeatOpen.is)
