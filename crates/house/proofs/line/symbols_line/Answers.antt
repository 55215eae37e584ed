-- `line::symbols_line` meets its contract: the first i digits are written, and the rest is line feeds. Assumes nothing.
use mathlib.Core.Path.{◌≡◌}
use Prim.Native.Nat.{◌<◌, ◌+◌, ◌*◌}
use native.Mathlib.Omega.{arith}
use native.Mathlib.Numerals.{add-one}
use borrow.Author.Rules.{rules}
use lib.ListN.{replicate}
use Rattle.numbers.specs.Firsts.{firsts}
use Rattle.numbers.proofs.Firsts.{written_step}
use Rattle.house.specs.Line.{line_feed, four_at, line_of}
use Rattle.house.proofs.Lines.{four_below}
use Rattle.house.proofs.line.symbols_line.Invariants.{digit_in}
use Rattle.house.proofs.line.symbols_line.Goals as goal
use Rattle.house.proofs.line.symbols_line.Goals.{After-two_bits-low}

pub loop-i-init : goal.loop-i-init
unfolding firsts
loop-i-init c = search rules

-- the digit's value, and that it is one digit's
value : (c : After-two_bits-low) → 4 * c.two_bits-high.result + c.two_bits-low.result ≡ four_at c.args.symbols c.loop-i.i
value c = rw (c.two_bits-high.ensures, c.two_bits-low.ensures)

value_below : (c : After-two_bits-low) → 4 * c.two_bits-high.result + c.two_bits-low.result < 16
value_below c =
    let symbols = c.args.symbols in
    let i = c.loop-i.i in
    rw (value c) (four_below symbols i)

pub overflow_mul-high : goal.overflow_mul-high
overflow_mul-high c = omega (arith, value_below c)

pub overflow_add-high : goal.overflow_add-high
overflow_add-high c = omega (arith, value_below c)

pub digit-requires : goal.digit-requires
digit-requires c = value_below c

pub loop-i-preserved : goal.loop-i-preserved
loop-i-preserved c =
    let f = digit_in c.args.symbols in
    let i = c.loop-i.i in
    rw (c.digit.ensures, value c.before, c.loop-i.invariant, add-one i) (written_step f i (replicate 97 line_feed) 0 (omega arith))

pub returns : goal.returns
unfolding line_of
returns c =
    let done : c.loop-i.i ≡ 96 = omega arith in
    rw done at c.loop-i.invariant
