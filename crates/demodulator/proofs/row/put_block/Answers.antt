-- `put_block` meets its contract. Assumes nothing.
use mathlib.Core.Path.{◌≡◌, ap, ◌∙◌}
use mathlib.Core.List.{List, ◌++◌}
use native.Mathlib.Omega.{arith}
use lib.ListN.{length, drop}
use lib.Ieee.{Float}
use Rattle.std.proofs.lemmas.List.{length-take-le}
use Rattle.demodulator.proofs.row.put_block.Goals as goal

pub copy_from_slice-requires : goal.copy_from_slice-requires
copy_from_slice-requires c =
    let long : length c.block_sums-sums.result ≡ 48 = omega arith in
    omega (arith, length-take-le 48 c.args.room.now c.requires.2)

pub returns : goal.returns
returns c = ap (λ (q : List Float). q ++ drop 48 c.args.room.now) (c.copy_from_slice.ensures.after ∙ c.block_sums-sums.ensures)
