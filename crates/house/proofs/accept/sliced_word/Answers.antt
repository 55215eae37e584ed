-- `accept::sliced_word` meets its contract: so many symbols read make a number of so many times two bits. Assumes nothing.
use mathlib.Core.Path.{◌≡◌, refl}
use native.Mathlib.Omega.{arith}
use native.Mathlib.Numerals.{add-one}
use Rattle.house.specs.Accept.{read_bits, symbol_at}
use Rattle.house.proofs.Bits.{bits_below}
use Rattle.house.proofs.Word.{read_below, read_step}
use Rattle.house.proofs.accept.sliced_word.Goals as goal

pub loop-symbol-init : goal.loop-symbol-init
unfolding read_bits
loop-symbol-init c = refl

pub overflow_mul-read : goal.overflow_mul-read
overflow_mul-read c = omega (arith, read_below (symbol_at c.args.symbols) c.loop-symbol.symbol-index (omega arith))

pub overflow_add-read : goal.overflow_add-read
overflow_add-read c =
    let v = symbol_at c.args.symbols in
    let i = c.loop-symbol.symbol-index in
    omega (arith, read_below v i (omega arith), bits_below (v i), c.two_bits.ensures)

pub loop-symbol-preserved : goal.loop-symbol-preserved
loop-symbol-preserved c =
    let v = symbol_at c.args.symbols in
    let i = c.loop-symbol.symbol-index in
    rw (add-one i, c.two_bits.ensures, c.loop-symbol.invariant) (read_step v i)

pub returns : goal.returns
returns c =
    let done : c.loop-symbol.symbol-index ≡ 8 = omega arith in
    rw done at c.loop-symbol.invariant
