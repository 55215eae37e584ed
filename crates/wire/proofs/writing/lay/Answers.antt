-- `writing::lay` meets its contract: as many bytes as there is room for are copied. Assumes nothing.
use Rattle.std.proofs.Common.{◌≡◌, ◌+◌, ◌-◌, arith}
use Rattle.wire.proofs.Slices.{laid_as_far}
use Rattle.wire.proofs.writing.lay.Goals as goal

pub returns : goal.returns
returns c =
    let s = c.min-start.result in
    let k = c.min-count.result in
    let many : s + k - s ≡ k = omega arith in
    rw (many, c.copy_from_slice.ensures.after)
    (laid_as_far c.args.bytes.now c.args.to.now c.args.at s k c.min-start.ensures c.min-count.ensures)
