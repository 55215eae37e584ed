-- `windows::hear_stretch` meets its contract. Assumes nothing.
use Rattle.receiving.proofs.Settlement.{hears_stretch}
use Rattle.receiving.proofs.windows.hear_stretch.Goals as goal

pub returns : goal.returns
returns c =
    hears_stretch _ _ c.listen-heard.result c.listen-heard.ensures _ c.put_settled-written.result _ c.put_settled-written.ensures
