-- `m17_receiver_new` meets its contract. Assumes nothing.
use mathlib.Core.Path.{refl, sym, ◌∙◌}
use lib.Ieee.{of_bits}
use borrow.Author.Tests.{not-true, not-false}
use Rattle.demodulator.specs.Record.{fresh}
use borrow.Author.Rules.{rules}
use Rattle.library_receiver.proofs.m17_receiver_new.Goals as goal

pub returns-then-not-is_rate : goal.returns-then-not-is_rate
returns-then-not-is_rate c =
    let other = sym c.is_rate.ensures ∙ c.if-not-is_rate.true in
    record { answers = rw other refl; leaves = rw other refl }

pub returns : goal.returns
unfolding fresh of_bits
returns c =
    let fit = sym c.is_rate.ensures ∙ c.if-not-is_rate.false in
    record { answers = rw fit refl; leaves = rw fit refl }
