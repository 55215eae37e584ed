-- `record_code` meets its contract. Assumes nothing.
use mathlib.Core.Path.{refl, sym, ◌∙◌}
use borrow.Author.Tests.{not-true, not-false}
use Rattle.library_layout.specs.Layout.{record_code_lem}
use borrow.Author.Rules.{rules}
use Rattle.library_layout.proofs.record_code.Goals as goal

pub returns-then-not-is_rate : goal.returns-then-not-is_rate
unfolding record_code_lem
returns-then-not-is_rate c = let other = sym c.is_rate.ensures ∙ c.if-not-is_rate.true in rw other refl

pub returns-then-not-is_receiver : goal.returns-then-not-is_receiver
unfolding record_code_lem
returns-then-not-is_receiver c =
    let rate = sym c.is_rate.ensures ∙ c.if-not-is_rate.false in
    let none = sym c.is_receiver.ensures ∙ c.if-not-is_receiver.true in
    rw (rate, none) refl

pub returns : goal.returns
unfolding record_code_lem
returns c =
    let rate = sym c.is_rate.ensures ∙ c.if-not-is_rate.false in
    let good = sym c.is_receiver.ensures ∙ c.if-not-is_receiver.false in
    rw (rate, good) refl
