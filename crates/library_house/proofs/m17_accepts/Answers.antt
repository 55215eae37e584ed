-- `m17_accepts` meets its contract. Assumes nothing.
use mathlib.Core.Path.{sym, ◌∙◌}
use mathlib.Core.Bool.{true, false}
use borrow.Author.Tests.{not-true, not-false}
use borrow.Author.Rules.{rules}
use Rattle.house.specs.Accept.{read_bits, accepted}
use Rattle.library_house.proofs.Tests.{no_kind, named_kind}
use Rattle.library_house.proofs.m17_accepts.Goals as goal

pub returns-then-not-named : goal.returns-then-not-named
returns-then-not-named c = no_kind _ _ c.if-not-named.true

pub returns-then-good : goal.returns-then-good
unfolding accepted read_bits
returns-then-good c =
    let accepted-so = rw c.find_kind-of_kind.ensures at c.accepts-good.ensures in
    named_kind _ _ c.if-not-named.false true (sym c.if-good.true ∙ accepted-so)

pub returns : goal.returns
unfolding accepted read_bits
returns c =
    let accepted-so = rw c.find_kind-of_kind.ensures at c.accepts-good.ensures in
    named_kind _ _ c.if-not-named.false false (sym c.if-good.false ∙ accepted-so)
