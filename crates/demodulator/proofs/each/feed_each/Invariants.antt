-- `feed_each` meets its contract: at each turn the stretch from the start is what the samples that are left make of the record by now. Assumes nothing.
use mathlib.Core.Path.{◌≡◌}
use mathlib.Core.Bool.{true}
use Prim.Native.Nat.{ℕ, ◌-◌, ◌≤◌}
use lib.ListN.{length, drop}
use Rattle.shaping.specs.Rate.{rate_fit, rate_at}
use Rattle.demodulator.specs.Fit.{halves_agree_lem}
use Rattle.demodulator.specs.Feed.{rest_from}
use Rattle.demodulator.specs.Stretch.{joined, Lent}
use Rattle.demodulator.proofs.StretchFeeds.{Plain}
use Rattle.demodulator.proofs.each.feed_each.Given as goal

abbrev pub invariant-loop-fed : goal.invariant-loop-fed
invariant-loop-fed l =
    (l.fed ≤ length l.samples)
    × (length l.room ≡ length l.initial.room)
    × Plain l.plain l.halves l.initial.room
    × Lent l.p l.filter_win l.rx_win
    × (l.halves ≡ halves_agree_lem l.p l.filter_win)
    × ((rate : ℕ) → rate_fit rate ≡ true → rest_from (rate_at l.p) 0 (joined l.initial.filter_win l.initial.rx_win l.initial.next rate l.initial.now) l.samples l.initial.room ≡ rest_from (rate_at l.p) l.fed (joined l.filter_win l.rx_win l.next rate l.now) (drop l.fed l.samples) l.room)

abbrev pub decreases-loop-fed : goal.decreases-loop-fed
decreases-loop-fed l = length l.samples - l.fed
