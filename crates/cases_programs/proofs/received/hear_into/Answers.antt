-- `hear_into` meets its contract: no call takes more bytes than it is given. Assumes nothing.
use Rattle.receiving.proofs.HearPromise.{consumed_fits}
use Rattle.cases_programs.proofs.received.hear_into.Goals as goal

pub returns : goal.returns
returns g c = consumed_fits _ _ _ _ _ c.hear-after.ensures
