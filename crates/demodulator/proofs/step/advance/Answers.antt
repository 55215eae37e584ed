-- `advance` meets its contract. Assumes nothing.
use native.Mathlib.Omega.{arith}
use mir.Facts.{to_z-of_z}
use Rattle.demodulator.specs.Parts.{Stores}
use Rattle.demodulator.proofs.StepTurn.{accepts_inside, rests, offers, looks}
use Rattle.demodulator.proofs.step.advance.Goals as goal
use Rattle.demodulator.proofs.step.advance.Lts as Lts
use Rattle.demodulator.proofs.step.advance.Reads as Reads
use Rattle.demodulator.proofs.step.advance.Tie as Tie

abbrev After-store : Type 0
After-store = Lts.After-store Tie.the-claims Reads.Pre Reads.Post

stored_is : (s : After-store) → let a = s.args in Stores a.p a.filter_win.now a.places.filter_cursor a.rx_win.now a.places.rx_cursor a.sample s.store.new.filter_win s.store.new.rx_win
stored_is s rate d = rw (to_z-of_z s.ranges.sample) at (s.store.ensures rate d)

pub store-requires : goal.store-requires
store-requires c =
    let pre = c.requires in
    accepts_inside pre

pub place_after-filter_next-requires : goal.place_after-filter_next-requires
place_after-filter_next-requires c =
    let pre = c.requires in
    let inside = (accepts_inside pre).0 in
    omega arith

pub place_after-rx_next-requires : goal.place_after-rx_next-requires
place_after-rx_next-requires c =
    let pre = c.requires in
    let inside = (accepts_inside pre).1 in
    omega arith

pub write_window-requires : goal.write_window-requires
write_window-requires c =
    let pre = c.requires in
    (rw c.samples-per.ensures at c.place_after-rx_next.ensures.0, pre.room_enough)

pub returns-in-Rest : goal.returns-in-Rest
returns-in-Rest c =
    λ rate known. rw (c.place_after-filter_next.ensures.1, c.place_after-rx_next.ensures.1, c.samples-per.ensures) (rests _ _ _ _ _ _ _ _ (stored_is c.before.before.before.before.before.before.before) _ c.requires rate known _ c.turn_of-turn.ensures _ c.in-Rest.is)

pub returns-in-Offer : goal.returns-in-Offer
returns-in-Offer c =
    λ rate known. rw (c.place_after-filter_next.ensures.1, c.place_after-rx_next.ensures.1, c.samples-per.ensures) (offers _ _ _ _ _ _ _ _ (stored_is c.before.before.before.before.before.before.before.before.before.before.before) _ c.requires rate known _ c.turn_of-turn.ensures _ _ c.in-Offer.is _ (rw (c.place_after-rx_next.ensures.1, c.samples-per.ensures) at c.write_window.ensures))

pub returns-in-Look : goal.returns-in-Look
returns-in-Look c =
    λ rate known. rw (c.place_after-filter_next.ensures.1, c.place_after-rx_next.ensures.1, c.samples-per.ensures) (looks _ _ _ _ _ _ _ _ (stored_is c.before.before.before.before.before.before.before.before.before) _ c.requires rate known _ c.turn_of-turn.ensures _ c.in-Look.is _ (rw (c.place_after-rx_next.ensures.1, c.samples-per.ensures) at c.eight-values.ensures) _ (rw c.samples-per.ensures at c.searched-found.ensures))
