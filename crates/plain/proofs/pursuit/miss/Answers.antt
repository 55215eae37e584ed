-- `miss` meets its contract: a kind is the held candidate's where their places are equal. Assumes nothing.
use mathlib.Core.Path.{◌≡◌, sym, ◌∙◌}
use borrow.Author.Tests.{eq-eqb, ne_eqb}
use Rattle.search.specs.Search.{rank, missed}
use Rattle.plain.proofs.pursuit.miss.Goals as goal

pub returns-then-place_of : goal.returns-then-place_of
unfolding missed
returns-then-place_of c =
    let same : rank c.in-Held.held ≡ rank c.args.kind = sym c.place_of.ensures ∙ c.if-place_of.true ∙ c.place_of-in-Held.ensures in
    rw (c.in-Held.is, eq-eqb _ _ same, c.rest_of-left.ensures)

pub returns-else-place_of : goal.returns-else-place_of
unfolding missed
returns-else-place_of c =
    let Same : Type 0 = rank c.in-Held.held ≡ rank c.args.kind in
    let other : Same → ⊥ = λ same. c.if-place_of.false (c.place_of.ensures ∙ same ∙ sym c.place_of-in-Held.ensures) in
    rw (c.in-Held.is, ne_eqb _ _ other)

pub returns-in_default : goal.returns-in_default
unfolding missed
returns-in_default c = rw c.in_default.is
