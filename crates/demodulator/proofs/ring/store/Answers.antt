-- `store` meets its contract. Assumes nothing.
use mathlib.Core.Path.{◌≡◌}
use Prim.Native.Nat.{◌+◌, ◌%◌}
use native.Mathlib.Nat.{mod-eq_of_lt}
use native.Mathlib.Omega.{arith}
use lib.ListN.{length}
use mir.Facts.{to_z-of_z}
use Rattle.shaping.specs.Rate.{rate_at}
use Rattle.shaping.proofs.RateFacts.{facts}
use Rattle.demodulator.specs.Record.{stored}
use Rattle.demodulator.proofs.ring.store.Goals as goal

pub returns : goal.returns
unfolding stored
returns c =
    let a = c.args in
    let number = (facts a.p (omega arith)).number in
    let inside : (a.filter_cursor + 1) % (length (rate_at a.p).taps + 1) ≡ a.filter_cursor + 1 = mod-eq_of_lt (omega (arith, number)) in
    λ rate control. rw (c.filter_samples-filtered.ensures, c.samples-per.ensures, to_z-of_z c.ranges.sample, inside)
