-- The desk's functions called one after the other: each is given the desk that the one before it left, and does what it promises. Assumes nothing.
use Rattle.protocol.specs.declared.Refusal.{Refusal}
use Rattle.std.specs.Prelude.{◌≡◌, List, [], ◌∷◌, Float, Bool, Option, Result}
use Rattle.demodulator.specs.Calls.{done_paper, heard_paper, carrier_paper}
use Rattle.demodulator_run.specs.Rules.{sample, reply, query}
use Rattle.demodulator_run.specs.Calls.{one, stretch}
use Rattle.desk.specs.declared.Desk.{Desk}
use Rattle.desk.specs.declared.Fed.{Fed}
use Rattle.desk.specs.declared.Line.{Line}
use Rattle.desk.specs.Calls.{DeskFeedSays, DeskReplySays, DeskOpenSays, DeskCloseSays, DeskCarrierSays}
use Rattle.desk.specs.Listing.{listed_paper, DeskListSays}
use Rattle.desk_run.specs.Seat.{opening, giving, closing, told}
use Rattle.desk_run.specs.Desk.{DeskCall, at, listing, DeskTold, seat_told, list_told_lem}

-- a call, what it was answered with, and the desk after it. A single sample is a stretch of one: no function takes it alone
unfoldable pub Promised : Desk → DeskCall → DeskTold → Desk → Type 0
Promised d (at s (opening rate)) a next = (r : Result Unit Refusal) × DeskOpenSays d s rate r next × (a ≡ seat_told (told (done_paper r)))
Promised d (at s (giving (stretch xs room))) a next =
    (r : Fed) × (after : List Float) × DeskFeedSays d s xs room r next after × (a ≡ seat_told (record { answer = heard_paper r.answer; fed = r.fed; room = after }))
Promised d (at s (giving (one (sample x room)))) a next = ⊥
Promised d (at s (giving (one (reply rp)))) a next = (r : Result Unit Refusal) × DeskReplySays d s rp r next × (a ≡ seat_told (told (done_paper r)))
Promised d (at s (giving (one query))) a next = (r : Result Bool Refusal) × DeskCarrierSays d s r × (next ≡ d) × (a ≡ seat_told (told (carrier_paper r)))
Promised d (at s closing) a next = (r : Result Unit Refusal) × DeskCloseSays d s r next × (a ≡ seat_told (told (done_paper r)))
Promised d listing a next = (r : Result (List (Option Line)) Refusal) × DeskListSays d r × (next ≡ d) × (a ≡ list_told_lem (listed_paper r))

-- the calls one after the other, their answers, and the desk at the end
unfoldable pub Session : Desk → List DeskCall → List DeskTold → Desk → Type 0
Session d [] ts end = (ts ≡ []) × (end ≡ d)
Session d (c ∷ cs) ts end =
    (a : DeskTold) × (next : Desk) × (rest : List DeskTold) × Promised d c a next × Session next cs rest end × (ts ≡ a ∷ rest)
