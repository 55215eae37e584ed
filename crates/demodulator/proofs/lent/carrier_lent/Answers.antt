-- `lent::carrier_lent` meets its contract. Assumes nothing.
use mathlib.Core.Path.{◌≡◌, sym}
use Rattle.shaping.specs.Rate.{samples_in_lem}
use Rattle.shaping.proofs.RateFacts.{per_symbol_some, per_symbol_none}
use Rattle.demodulator.specs.Record.{assembled}
use Rattle.demodulator.specs.Calls.{carrier, timer_held, detected}
use Rattle.demodulator.proofs.Fitness.{tested_unfit, tested_fit}
use Rattle.demodulator.proofs.CallCases.{carrier_other_rate, carrier_unfit, carrier_told}
use Rattle.demodulator.proofs.lent.carrier_lent.Goals as goal

pub returns-in_default : goal.returns-in_default
returns-in_default c ring =
    let a = c.args in
    let m = assembled a.rate a.filter_win.now a.filter_cursor ring a.rx_cursor a.control in
    sym (carrier_other_rate _ m (per_symbol_none a.rate c.of.result c.of.ensures c.in_default.is))

pub returns-then-not-record_fit : goal.returns-then-not-record_fit
returns-then-not-record_fit c ring =
    let a = c.args in
    let m = assembled a.rate a.filter_win.now a.filter_cursor ring a.rx_cursor a.control in
    let asked = per_symbol_some a.rate c.in-Some.p c.of.result c.of.ensures c.in-Some.is in
    sym (rw asked.1 at (carrier_unfit _ m asked.0 (tested_unfit _ _ _ _ _ _ c.record_fit.ensures m.rate m.filter_win ring asked.0 c.halves_agree-halves.ensures c.if-not-record_fit.true-raw)))

pub returns : goal.returns
returns c ring =
    let a = c.args in
    let m = assembled a.rate a.filter_win.now a.filter_cursor ring a.rx_cursor a.control in
    let asked = per_symbol_some a.rate c.in-Some.p c.of.result c.of.ensures c.in-Some.is in
    let told : detected (samples_in_lem m.rate) m ≡ carrier (timer_held m.control.dcd) =
    rw asked.1 at (carrier_told _ m (tested_fit _ _ _ _ _ _ c.record_fit.ensures m.rate m.filter_win ring asked.0 c.halves_agree-halves.ensures c.if-not-record_fit.false-raw)) in
    rw (told, c.is_some.ensures)
