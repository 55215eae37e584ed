-- `line::judge` meets its contract: each return is one case of the definition. Assumes nothing.
use mathlib.Core.Path.{sym, ◌∙◌}
use Rattle.house.proofs.Lines.{some_good, some_symbols, none_bad}
use Rattle.sending.proofs.Parts.{judged_short, judged_good, judged_bad}
use Rattle.sending.proofs.line.judge.Goals as goal

pub returns-then-have-lt97 : goal.returns-then-have-lt97
returns-then-have-lt97 c =
    let s = c.args.s in
    rw (judged_short s c.if-have-lt97.true, ← c.has_feed.ensures) c.write_nothing.ensures

pub returns-in_default : goal.returns-in_default
returns-in_default c =
    let s = c.args.s in
    let bad = none_bad s.line (sym c.line_symbols.ensures ∙ c.in_default.is) in
    rw (judged_bad s c.if-have-lt97.false bad) c.write_nothing-in_default.ensures

pub returns : goal.returns
returns c =
    let s = c.args.s in
    let read = sym c.line_symbols.ensures ∙ c.in-Some.is in
    rw (judged_good s c.if-have-lt97.false (some_good s.line read), ← c.next_number.ensures, ← some_symbols s.line read) c.part.ensures
