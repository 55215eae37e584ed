-- `test_seats` meets its contract. Assumes nothing.
use mathlib.Core.Path.{◌≡◌, refl}
use mathlib.Core.Bool.{◌||◌}
use mathlib.Core.List.{[]}
use lib.Dec.{eqb}
use lib.ListN.{get_or}
use native.Mathlib.Numerals.{add-one}
use native.Mathlib.Omega.{arith}
use Rattle.numbers.specs.Below.{any_below}
use Rattle.library_desk.proofs.listing.test_seats.Goals as goal

-- src/listing.rt:50:5
pub loop-at-init : goal.loop-at-init
unfolding any_below
loop-at-init c = record { any_strange_lem = λ rings. refl; any_unfit_lem = λ rings. refl }

-- src/listing.rt:50:5
pub loop-at-preserved : goal.loop-at-preserved
unfolding any_below
loop-at-preserved c =
    let l = c.loop-at in
    rw (add-one l.at) (record {
      any_strange_lem = λ rings. λ i. l.invariant.any_strange_lem rings i || eqb (c.test_seat-code.ensures (get_or rings l.at []) i) 115;
      any_unfit_lem = λ rings. λ i. l.invariant.any_unfit_lem rings i || eqb (c.test_seat-code.ensures (get_or rings l.at []) i) 101;
    })

-- src/listing.rt:39:1
pub returns : goal.returns
returns c =
    let l = c.loop-at in
    let done : l.at ≡ 8 = omega arith in
    rw done at l.invariant
