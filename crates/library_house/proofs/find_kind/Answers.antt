-- `find_kind` meets its contract. Assumes nothing.
use mathlib.Core.Path.{◌≡◌, sym, ap}
use native.Mathlib.Omega.{arith}
use borrow.Author.Tests.{ne_eqb}
use Rattle.library_house.specs.Exports.{kind_of}
use Rattle.library_house.proofs.find_kind.Goals as goal

pub returns-in-1 : goal.returns-in-1
returns-in-1 c =
    let this : c.args.number ≡ 1 = omega arith in
    ap kind_of (sym this)

pub returns-in-2 : goal.returns-in-2
returns-in-2 c =
    let this : c.args.number ≡ 2 = omega arith in
    ap kind_of (sym this)

pub returns-in-3 : goal.returns-in-3
returns-in-3 c =
    let this : c.args.number ≡ 3 = omega arith in
    ap kind_of (sym this)

pub returns-in_default : goal.returns-in_default
returns-in_default c =
    let n = c.args.number in
    rw (ne_eqb n 1 (λ e. omega arith), ne_eqb n 2 (λ e. omega arith), ne_eqb n 3 (λ e. omega arith))
