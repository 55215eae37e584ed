-- `frame::preamble_symbols` meets its contract. Assumes nothing.
use mathlib.Core.Path.{ap, sym, ◌∙◌}
use mathlib.Core.List.{List}
use lib.Ieee.{Float}
use Rattle.numbers.specs.Firsts.{firsts}
use Rattle.encode.specs.Frames.{frame_of}
use Rattle.given_symbols.specs.declared.Traffic.{Traffic}
use Rattle.modulator.specs.Frame.{preamble_symbol, preamble}
use Rattle.modulator.proofs.frame.preamble_symbols.Goals as goal

abbrev symbols : Traffic → List Float
symbols traffic = firsts (preamble traffic).symbol 192

pub returns-in-Ordinary : goal.returns-in-Ordinary
unfolding frame_of preamble_symbol
returns-in-Ordinary c = c.generate_preamble.ensures ∙ sym (ap symbols c.in-Ordinary.is)

pub returns-in-Bert : goal.returns-in-Bert
unfolding preamble_symbol
returns-in-Bert c = c.generate_bert_preamble.ensures ∙ sym (ap symbols c.in-Bert.is)
