-- `windows::put_line` meets its contract. Assumes nothing.
use mathlib.Core.Path.{◌≡◌, sym, ◌∙◌}
use borrow.Author.Rules.{rules}
use lib.ListN.{length}
use lib.Seq.{length-take-le}
use Rattle.receiving.proofs.windows.put_line.Goals as goal

pub copy_from_slice-requires : goal.copy_from_slice-requires
copy_from_slice-requires c =
    let size : length c.symbols_line-line.result ≡ 97 = search rules in
    length-take-le 97 c.args.room.now c.requires ∙ sym size
