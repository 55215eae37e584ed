-- `is_unfit` meets its contract. Assumes nothing.
use Rattle.desk.proofs.ListLaws.{refuses_unfit}
use Rattle.desk.proofs.listing.is_unfit.Goals as goal

pub returns : goal.returns
returns c = rw (c.is_err.ensures.value, refuses_unfit c.args.receiver _ c.data_carrier_detect.ensures)
