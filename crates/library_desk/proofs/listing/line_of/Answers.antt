-- `line_of` meets its contract. Assumes nothing.
use mathlib.Core.Path.{refl}
use borrow.Author.Tests.{eq-eqb, ne_eqb}
use Rattle.library_desk.proofs.listing.line_of.Goals as goal

-- src/listing.rt:66:9
pub returns-then-flag-eq1 : goal.returns-then-flag-eq1
returns-then-flag-eq1 c = rw (eq-eqb _ 1 c.if-flag-eq1.true, c.flag_of-owed.ensures) refl

-- src/listing.rt:61:1
pub returns : goal.returns
returns c = rw (ne_eqb _ 1 c.if-flag-eq1.false) refl
