-- `line::good` meets its contract: the test of the first 96 bytes is the definition's. Assumes nothing.
use Rattle.std.proofs.Common.{◌≡◌, length, take, sym, ◌∙◌, arith, rules, tests}
use Rattle.std.specs.List.{list_all}
use Rattle.std.proofs.lemmas.Iterator.{YieldsList-from_slice}
use Rattle.std.proofs.lemmas.Iterator.Search.{all_from_yields_List}
use lib.ListN.{length-take}
use Rattle.numbers.specs.Below.{all_below}
use Rattle.house.specs.Digits.{is_digit}
use Rattle.house.specs.Line.{good_line}
use Rattle.house.proofs.Lines.{digit_at, first_digits}
use Rattle.house.proofs.line.good.Goals as goal
use Rattle.house.proofs.line.good.Goals.{After-all}

pub slice_bounds-iter-end : goal.slice_bounds-iter-end
slice_bounds-iter-end c =
    let long : length c.args.line ≡ 97 = search rules in
    rw (length-take 96 c.args.line) (omega arith)

tested : (c : After-all) → all_below 96 (digit_at c.args.line) ≡ c.all.result
tested c =
    let line = c.args.line in
    let long : length line ≡ 97 = search rules in
    let listed : c.all.result ≡ list_all is_digit (take 96 line) =
    all_from_yields_List is_digit _ _ _ c.all.ensures.ran (YieldsList-from_slice (take 96 line) (search rules)) (λ x b q k. search (rules, tests))
    in
    sym (listed ∙ first_digits line 96 (omega arith))

pub returns-then-all : goal.returns-then-all
unfolding good_line
returns-then-all c =
    let long : length c.args.line ≡ 97 = search rules in
    rw (tested c.before, c.if-all.true, long)

pub returns-else-all : goal.returns-else-all
unfolding good_line
returns-else-all c = rw (tested c.before, c.if-all.false)
