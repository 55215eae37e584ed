-- `sample::i16_of_bytes` meets its contract. Assumes nothing.
use Rattle.std.proofs.Common.{◌≡◌, ◌+◌, ◌*◌, ap, ◌∙◌, arith}
use mir.Syntax.{w16}
use mir.Facts.{to_z-of_z}
use Rattle.house.specs.Samples.{number_of, sample_of}
use Rattle.house.proofs.Samples.{signed_is}
use Rattle.house.proofs.sample.i16_of_bytes.Goals as goal

pub returns : goal.returns
unfolding sample_of
returns c =
    let read = c.from_le_bytes in
    let pattern : read.result ≡ c.args.low + 256 * c.args.high = omega (arith, read.ensures) in
    to_z-of_z {w = w16} (record { sfits = c.cast_signed.type_inv }) ∙ c.cast_signed.ensures ∙ signed_is read.result read.type_inv ∙ ap number_of pattern
