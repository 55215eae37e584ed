-- `line::symbol` meets its contract. Assumes nothing.
use mathlib.Core.Path.{◌≡◌, sym, ap}
use native.Mathlib.Omega.{arith}
use lib.Ieee.{of_bits, neg}
use Rattle.house.specs.Line.{symbol_of}
use Rattle.house.proofs.line.symbol.Goals as goal

pub returns-in-0 : goal.returns-in-0
unfolding symbol_of
returns-in-0 c =
    let this : c.args.bits ≡ 0 = omega arith in
    ap symbol_of (sym this)

pub returns-in-1 : goal.returns-in-1
unfolding symbol_of
returns-in-1 c =
    let this : c.args.bits ≡ 1 = omega arith in
    ap symbol_of (sym this)

pub returns-in-2 : goal.returns-in-2
unfolding symbol_of neg of_bits
returns-in-2 c =
    let this : c.args.bits ≡ 2 = omega arith in
    ap symbol_of (sym this)

pub returns-in_default : goal.returns-in_default
unfolding symbol_of neg of_bits
returns-in_default c =
    let this : c.args.bits ≡ 3 = omega arith in
    ap symbol_of (sym this)
