-- `frame::end_of_transmission` meets its contract. Assumes nothing.
use borrow.Author.Rules.{rules}
use Rattle.shaping.specs.Rate.{rate_of}
use Rattle.modulator.specs.Frame.{ending}
use Rattle.modulator.specs.Control.{ended}
use Rattle.modulator.proofs.Frames.{framed_listed}
use Rattle.modulator.proofs.frame.end_of_transmission.Goals as goal

pub framed-requires : goal.framed-requires
framed-requires c =
    (c.requires.0, c.requires.1, search rules)

pub returns : goal.returns
returns c =
    let m = c.args.m in
    rw (framed_listed (rate_of m.rate) m.progress.tx_delay_padding.0 (ended m.pending) m ending.symbol 272 c.generate_ending-symbols.result c.generate_ending-symbols.ensures) at c.framed.ensures
