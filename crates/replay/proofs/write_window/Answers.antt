-- `write_window` meets its contract. Assumes nothing.
use mathlib.Core.Path.{◌≡◌, sym, ◌∙◌}
use borrow.Author.Rules.{rules}
use lib.ListN.{length}
use lib.Seq.{length-take-le}
use Rattle.replay.proofs.write_window.Goals as goal

pub copy_from_slice-requires : goal.copy_from_slice-requires
copy_from_slice-requires c =
    let size : length c.args.window ≡ 192 = search rules in
    length-take-le 192 c.args.room.now c.requires ∙ sym size
