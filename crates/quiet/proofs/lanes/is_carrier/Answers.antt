-- `is_carrier` meets its contract: one spread serves both bursts. Assumes nothing.
use Rattle.protocol.specs.declared.SyncBurst.TheVariants.{Preamble, EndOfTransmission}
use Rattle.decode.specs.Parts.{values_of}
use Rattle.search.proofs.Compared.{match_own, Sensed, compared_own}
use Rattle.quiet.proofs.lanes.is_carrier.Goals as goal

pub returns : goal.returns
returns c =
    let vs = c.args.values in
    let once : Sensed vs c.unsign_zeros-unsigned.result c.spread_of-spread.result =
    record { values = c.unsign_zeros-unsigned.ensures; spread = c.spread_of-spread.ensures }
    in
    rw (
      match_own Preamble (values_of vs) _ (compared_own once Preamble _ c.compare-preamble.ensures),
      match_own EndOfTransmission (values_of vs) _ (compared_own once EndOfTransmission _ c.compare-end.ensures),
    )
