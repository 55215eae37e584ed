-- `part::find_offer` meets its contract: at each turn the offers before the samples that are left are before the asked one. Assumes nothing.
use mathlib.Core.Path.{◌≡◌}
use Prim.Native.Nat.{◌-◌, ◌≤◌}
use lib.ListN.{length, drop}
use Rattle.demodulator.specs.Record.{fresh}
use Rattle.listening.proofs.FirstSample.{record_offers}
use Rattle.replay.specs.FullRun.{first_from}
use Rattle.replay.proofs.part.find_offer.Given as goal

abbrev pub invariant-loop-fed : goal.invariant-loop-fed
invariant-loop-fed l =
    (l.fed ≤ length l.samples) × (first_from l.sample (record_offers (fresh l.rate) l.samples) ≡ first_from l.sample (record_offers l.left (drop l.fed l.samples)))

abbrev pub decreases-loop-fed : goal.decreases-loop-fed
decreases-loop-fed l = length l.samples - l.fed
