-- `writing::lay_sample` meets its contract. Assumes nothing.
use mathlib.Core.Path.{ap, ◌∙◌}
use mir.Facts.{to_z-of_z}
use lib.Seq.{sets}
use Rattle.house.specs.Samples.{pattern_of, bytes_of}
use Rattle.house.proofs.Samples.{pattern_below}
use Rattle.wire.proofs.Bytes.{lows_two}
use Rattle.wire.proofs.writing.lay_sample.Goals as goal

pub returns : goal.returns
unfolding bytes_of
returns c =
    let x = c.args.sample in
    c.lay.ensures ∙ ap (sets c.args.to.now c.args.at) (c.bytes_of_i16.ensures ∙ ap bytes_of (to_z-of_z c.ranges.sample) ∙ lows_two (pattern_of x) (pattern_below x c.ranges.sample.sfits))
