-- `search_last` meets its contract. Assumes nothing.
use Rattle.look.specs.Marks.{eight_from}
use Rattle.quiet.proofs.Rows.{found_last}
use Rattle.quiet.proofs.block.search_last.Goals as goal

pub count-counted-requires : goal.count-counted-requires
count-counted-requires c = (c.requires.2, c.requires.3)

pub returns : goal.returns
returns c =
    let a = c.args in
    found_last (eight_from a.p a.row.now a.at) _ c.eight.ensures a.p _ _ _ c.searched.ensures
    c.count-counted.ensures
