-- `walk_stretch` meets its contract. Assumes nothing.
use mathlib.Core.Path.{sym, subst}
use Prim.Native.Nat.{◌≤◌}
use lib.ListN.{length}
use Rattle.quiet.specs.declared.Walked.{Walked}
use Rattle.demodulator.proofs.StretchFeeds.{walked_most, has_values, walk_taken}
use Rattle.demodulator.proofs.stretch.walk_stretch.Goals as goal

pub store_all-places-requires : goal.store_all-places-requires
store_all-places-requires c =
    let a = c.args in
    let most : c.walk-walked.result.fed ≤ length a.samples.now = subst (λ (q : Walked). q.fed ≤ length a.samples.now) (sym (rw c.samples.ensures at c.walk-walked.ensures)) (walked_most _ _ _ _) in
    has_values a.p a.filter_win.now a.rx_win.now a.places a.samples.now c.requires.0 c.requires.1 c.requires.2 c.requires.3 _ c.lay_row.ensures _ most

pub returns : goal.returns
returns c all begins =
    let a = c.args in
    walk_taken a.p a.filter_win.now a.rx_win.now a.places a.samples.now c.requires.0 c.requires.1 c.requires.2 c.requires.3 _ c.lay_row.ensures
    all begins a.control c.walk-walked.result (rw c.samples.ensures at c.walk-walked.ensures) _ _ _ c.store_all-places.ensures
