-- `list_desk` meets its contract. Assumes nothing.
use mathlib.Core.Path.{sym, ap, ◌∙◌}
use mathlib.Core.Bool.{true, false}
use Rattle.desk.specs.Listing.{lines, strange, unfit, any_strange, any_unfit}
use Rattle.desk.proofs.ListLaws.{listed_strange, listed_by}
use Rattle.desk.proofs.listing.list_desk.Goals as goal

pub returns-then-any_seat : goal.returns-then-any_seat
unfolding any_strange
returns-then-any_seat c = listed_strange _ (sym (c.any_seat.ensures strange (λ flag m b e. e.1)) ∙ c.if-any_seat.true)

pub returns-then-any_seat-2 : goal.returns-then-any_seat-2
unfolding any_strange any_unfit
returns-then-any_seat-2 c = listed_by _ false true (sym (c.any_seat.ensures strange (λ flag m b e. e.1)) ∙ c.if-any_seat.false) (sym (c.any_seat-2.ensures unfit (λ flag m b e. e.1)) ∙ c.if-any_seat-2.true)

pub returns : goal.returns
unfolding any_strange any_unfit
returns c = ap lines c.lines_of.ensures ∙ listed_by _ false false (sym (c.any_seat.ensures strange (λ flag m b e. e.1)) ∙ c.if-any_seat.false) (sym (c.any_seat-2.ensures unfit (λ flag m b e. e.1)) ∙ c.if-any_seat-2.false)
