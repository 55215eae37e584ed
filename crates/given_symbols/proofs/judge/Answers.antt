-- `judge` meets its contract: each return is one of the five judgements. Assumes nothing.
use lib.Ieee.{of_bits, neg, div}
use Rattle.given_symbols.proofs.Judged.{judged_not_a_number, judged_infinite, judged_above, judged_below_lem, judged_fine}
use Rattle.given_symbols.proofs.judge.Goals as goal

pub returns-then-symbol : goal.returns-then-symbol
returns-then-symbol c = judged_not_a_number c.args.place c.args.symbol c.if-symbol.true

pub returns-then-symbol-infinity : goal.returns-then-symbol-infinity
unfolding of_bits neg div
returns-then-symbol-infinity c = let a = c.args in judged_infinite a.place a.symbol c.if-symbol-infinity.true

pub returns-then-symbol-2 : goal.returns-then-symbol-2
unfolding of_bits neg div
returns-then-symbol-2 c =
    let a = c.args in
    judged_above a.place a.symbol c.if-symbol.false c.if-symbol-infinity.false c.if-symbol-2.true

pub returns-then-symbol-3 : goal.returns-then-symbol-3
unfolding of_bits neg div
returns-then-symbol-3 c =
    let a = c.args in
    judged_below_lem a.place a.symbol c.if-symbol.false c.if-symbol-infinity.false c.if-symbol-2.false c.if-symbol-3.true

pub returns-else-symbol-3 : goal.returns-else-symbol-3
unfolding of_bits neg div
returns-else-symbol-3 c =
    let a = c.args in
    judged_fine a.place a.symbol c.if-symbol.false c.if-symbol-infinity.false c.if-symbol-2.false c.if-symbol-3.false
