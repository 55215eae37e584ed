-- `frame::preamble` meets its contract. Assumes nothing.
use native.Mathlib.Omega.{arith}
use borrow.Author.Rules.{rules}
use Rattle.shaping.specs.Rate.{rate_of}
use Rattle.shaping.proofs.RateFacts.{per_symbol_some}
use Rattle.modulator.specs.Frame.{preamble}
use Rattle.modulator.proofs.Frames.{framed_listed}
use Rattle.modulator.proofs.frame.preamble.Goals as goal

pub unwrap-p-requires : goal.unwrap-p-requires
unwrap-p-requires c = rw (c.of.ensures, c.requires.0)

pub framed-requires : goal.framed-requires
framed-requires c =
    (c.requires.0, c.requires.1, search rules)

pub returns : goal.returns
returns c =
    let a = c.args in
    let padding = c.saturating_sub-padding.result.0 in
    rw (framed_listed (rate_of a.m.rate) padding a.m.pending a.m (preamble a.traffic).symbol 192 c.preamble_symbols-symbols.result c.preamble_symbols-symbols.ensures, c.saturating_sub-padding.ensures, c.in_samples-delay.ensures, (per_symbol_some c.args.m.rate c.unwrap-p.result c.of.result c.of.ensures c.unwrap-p.ensures).1) at c.framed.ensures
