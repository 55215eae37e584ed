-- `offered::count_offer` meets its contract. Assumes nothing.
use Prim.Native.Nat.{◌+◌, ◌≤◌, ◌<◌}
use native.Mathlib.Omega.{arith}
use borrow.Author.Rules.{rules}
use borrow.Author.Tests.{leb-true}
use lib.Dec.{leb}
use lib.Ieee.Bits.{is_true}
use lib.Ieee.Fits.{and_r}
use Rattle.numbers.proofs.Tests.{holds}
use Rattle.figures.proofs.OfferPlaces.{rank_small, reply_small, aged, ageless}
use Rattle.figures.proofs.offered.count_offer.Goals as goal
use Rattle.figures.proofs.offered.count_offer.Goals.{After-place_kind-place, After-place_reply-first}

kind_small : (c : After-place_kind-place) → c.place_kind-place.result < 4
kind_small c = let small = rank_small c.args.offer.kind in let e = c.place_kind-place.ensures in omega arith

settled_small : (c : After-place_reply-first) → c.place_reply-first.result + c.place_kind-place.result < 12
settled_small c =
    let kind = kind_small c.before in
    let most = reply_small c.args.reply in
    let e = c.place_reply-first.ensures in
    omega arith

pub overflow_add-settled : goal.overflow_add-settled
overflow_add-settled c = let small = settled_small c in search rules

pub offset_bounds-totals-place : goal.offset_bounds-totals-place
offset_bounds-totals-place c = let small = kind_small c.before in search rules

pub bounds-totals-place : goal.bounds-totals-place
bounds-totals-place c = let small = kind_small c.before in omega arith

pub offset_bounds-totals-settled : goal.offset_bounds-totals-settled
offset_bounds-totals-settled c = let small = settled_small c in search rules

pub bounds-totals-settled : goal.bounds-totals-settled
bounds-totals-settled c = let small = settled_small c in omega arith

pub bounds-totals-at : goal.bounds-totals-at
bounds-totals-at c =
    let a = c.args in
    let age = a.offer.age in
    let most : age ≤ 11 = leb-true age 11 (is_true (leb age 11) (and_r (leb 1 age) (leb age 11) (holds c.if-age.true))) in
    omega arith

pub returns-then-age : goal.returns-then-age
returns-then-age c =
    let a = c.args in
    rw (c.place_reply-first.ensures, c.place_kind-place.ensures) (aged a.offer a.reply c.if-age.true)

pub returns-else-age : goal.returns-else-age
returns-else-age c =
    let a = c.args in
    rw (c.place_reply-first.ensures, c.place_kind-place.ensures) (ageless a.offer a.reply c.if-age.false)
