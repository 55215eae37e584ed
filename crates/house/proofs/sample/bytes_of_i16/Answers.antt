-- `sample::bytes_of_i16` meets its contract. Assumes nothing.
use Rattle.std.proofs.Common.{◌≡◌, ◌/◌, ◌%◌, ap, ◌∙◌, arith}
use mir.Syntax.{w16}
use mir.Val.{of_z}
use mir.Facts.{to_z-of_z}
use Rattle.house.specs.Samples.{pattern_of, bytes_of}
use Rattle.house.proofs.Samples.{unsigned_is}
use Rattle.house.proofs.sample.bytes_of_i16.Goals as goal

pub returns : goal.returns
unfolding bytes_of
returns c =
    let p = c.cast_unsigned.result in
    let pattern : p ≡ pattern_of c.args.x = c.cast_unsigned.ensures ∙ ap (of_z w16) (to_z-of_z c.ranges.x) ∙ unsigned_is c.args.x c.ranges.x.sfits in
    let high : p / 256 % 256 ≡ p / 256 = omega (arith, c.cast_unsigned.type_inv) in
    rw (← pattern) (c.to_le_bytes.ensures ∙ rw high)
