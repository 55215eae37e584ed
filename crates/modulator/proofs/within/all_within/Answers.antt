-- `within::all_within` meets its contract. Assumes nothing.
use Rattle.std.proofs.Common.{rules, ◌↔◌, EachIndex, IsTrue, length, get_or}
use Rattle.std.proofs.iter.runs.Made.{chains}
use lib.Ieee.{nan}
use Rattle.numbers.proofs.Below.{all_below_iff}
use Rattle.modulator.specs.Frame.{within}
use Rattle.modulator.proofs.within.all_within.Goals as goal

pub returns : goal.returns
returns c =
    let values = c.args.values.now in
    let each : IsTrue c.all.result ↔ EachIndex values (λ i. IsTrue (within c.args.size (get_or values i nan))) = search (rules, chains) in
    all_below_iff (length values) _ _ each.0 each.1
