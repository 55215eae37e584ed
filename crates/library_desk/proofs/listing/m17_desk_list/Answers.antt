-- `m17_desk_list` meets its contract. Assumes nothing.
use Rattle.library_desk.proofs.Listed.{list_strange, list_unfit, list_done}
use Rattle.library_desk.proofs.listing.m17_desk_list.Goals as goal

pub returns-then-tested : goal.returns-then-tested
returns-then-tested c = list_strange _ _ _ _ c.test_seats-tested.ensures c.if-tested.true

pub returns-then-tested-2 : goal.returns-then-tested-2
returns-then-tested-2 c = list_unfit _ _ _ _ c.test_seats-tested.ensures c.if-tested.false c.if-tested-2.true

pub returns : goal.returns
returns c = list_done _ _ _ _ c.test_seats-tested.ensures c.if-tested.false c.if-tested-2.false _ c.write_lines.ensures
