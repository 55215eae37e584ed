-- `test_seats` meets its contract: what the first seats are tested for. Assumes nothing.
use Rattle.library_desk.specs.Listing.{SeatsTested}
use Rattle.library_desk.proofs.listing.test_seats.Given as goal

abbrev pub invariant-loop-at : goal.invariant-loop-at
invariant-loop-at l = SeatsTested l.windows l.numbers l.levels l.opened l.at l.strange l.unfit
