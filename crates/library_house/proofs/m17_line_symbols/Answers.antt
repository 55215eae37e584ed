-- `m17_line_symbols` meets its contract. Assumes nothing.
use mathlib.Core.Path.{refl, sym, ◌∙◌}
use Rattle.house.proofs.Lines.{some_good, some_symbols, none_bad}
use Rattle.library_house.proofs.m17_line_symbols.Goals as goal

pub returns-in-Some : goal.returns-in-Some
returns-in-Some c =
    let read = sym c.line_symbols.ensures ∙ c.in-Some.is in
    let good = some_good c.args.line.now read in
    record { answers = rw good refl; leaves = rw good (some_symbols c.args.line.now read) }

pub returns : goal.returns
returns c =
    let bad = none_bad c.args.line.now (sym c.line_symbols.ensures ∙ c.in_default.is) in
    record { answers = rw bad refl; leaves = rw bad refl }
