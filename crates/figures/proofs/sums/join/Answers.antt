-- `sums::join` meets its contract. Assumes nothing.
use mathlib.Core.Path.{sym, ◌∙◌}
use Rattle.figures.proofs.JoinLaws.{fit_48, fit_24, first_passes, second_passes, neither_passes}
use Rattle.figures.proofs.sums.join.Goals as goal

pub is_too_large-requires : goal.is_too_large-requires
is_too_large-requires c =
    (fit_48 _ c.requires.0, fit_48 _ c.requires.1)

pub returns-then-is_too_large : goal.returns-then-is_too_large
returns-then-is_too_large c = first_passes _ _ (sym c.is_too_large.ensures ∙ c.if-is_too_large.true)

pub is_too_large-requires-2 : goal.is_too_large-requires-2
is_too_large-requires-2 c =
    (fit_24 _ c.requires.0, fit_24 _ c.requires.1)

pub returns-then-is_too_large-2 : goal.returns-then-is_too_large-2
returns-then-is_too_large-2 c =
    second_passes _ _ (sym c.is_too_large.ensures ∙ c.if-is_too_large.false) (sym c.is_too_large-2.ensures ∙ c.if-is_too_large-2.true)

pub add_figures-at_48-requires : goal.add_figures-at_48-requires
add_figures-at_48-requires c = record { first = fit_48 _ c.requires.0; second = fit_48 _ c.requires.1; few = sym c.is_too_large.ensures ∙ c.if-is_too_large.false }

pub add_figures-at_24-requires : goal.add_figures-at_24-requires
add_figures-at_24-requires c = record { first = fit_24 _ c.requires.0; second = fit_24 _ c.requires.1; few = sym c.is_too_large-2.ensures ∙ c.if-is_too_large-2.false }

pub returns : goal.returns
returns c =
    neither_passes _ _ (sym c.is_too_large.ensures ∙ c.if-is_too_large.false) (sym c.is_too_large-2.ensures ∙ c.if-is_too_large-2.false) _ _ c.add_figures-at_48.ensures c.add_figures-at_24.ensures
