-- `lent::feed_lent` meets its contract. Assumes nothing.
use mathlib.Core.Path.{◌≡◌, sym, ◌∙◌}
use Prim.Native.Nat.{◌<◌}
use native.Mathlib.Omega.{arith}
use borrow.Author.Rules.{rules}
use lib.Arith.{lt_of_le-ne}
use lib.ListN.{length}
use Rattle.shaping.proofs.RateFacts.{per_symbol_some, per_symbol_none}
use Rattle.demodulator.specs.Record.{assembled}
use Rattle.demodulator.proofs.Fitness.{tested_unfit, tested_fit}
use Rattle.demodulator.proofs.FeedSteps.{fed_some, feeds, feeds_nothing, feeds_other_rate, nothing_unfit, nothing_fed}
use Rattle.demodulator.proofs.lent.feed_lent.Goals as goal

pub returns-in_default : goal.returns-in_default
returns-in_default c =
    let a = c.args in
    let m = assembled a.rate a.filter_win.now a.filter_cursor a.rx_win.now a.rx_cursor a.control in
    rw c.keep.ensures (feeds_other_rate m (per_symbol_none a.rate c.of.result c.of.ensures c.in_default.is) _ _)

pub returns-then-not-record_fit : goal.returns-then-not-record_fit
returns-then-not-record_fit c =
    let a = c.args in
    let m = assembled a.rate a.filter_win.now a.filter_cursor a.rx_win.now a.rx_cursor a.control in
    let asked = per_symbol_some a.rate c.in-Some.p c.of.result c.of.ensures c.in-Some.is in
    rw c.keep-then-not-record_fit.ensures (feeds_nothing m _ _ _ c.if-samples-eq0.true
    (nothing_unfit _ m asked.0 asked.1 (tested_unfit _ _ _ _ _ _ c.record_fit.ensures m.rate m.filter_win m.rx_win asked.0 c.halves_agree-halves.ensures c.if-not-record_fit.true-raw)))

pub returns-then-samples-eq0 : goal.returns-then-samples-eq0
returns-then-samples-eq0 c =
    let a = c.args in
    let m = assembled a.rate a.filter_win.now a.filter_cursor a.rx_win.now a.rx_cursor a.control in
    let asked = per_symbol_some a.rate c.in-Some.p c.of.result c.of.ensures c.in-Some.is in
    rw c.keep-then-samples-eq0.ensures (feeds_nothing m _ _ _ c.if-samples-eq0.true
    (nothing_fed _ m asked.0 asked.1 (tested_fit _ _ _ _ _ _ c.record_fit.ensures m.rate m.filter_win m.rx_win asked.0 c.halves_agree-halves.ensures c.if-not-record_fit.false-raw)))

pub feed_each-done-requires : goal.feed_each-done-requires
feed_each-done-requires c =
    -- the arrays' lengths, as their types have them
    let window : length c.args.filter_win.now ≡ 162 = search rules in
    let ring : length c.args.rx_win.now ≡ 1920 = search rules in
    (record { known = omega arith; window_long = omega (arith, window); ring_long = omega (arith, ring) }, c.halves_agree-halves.ensures)

pub returns : goal.returns
returns c =
    let a = c.args in
    let m = assembled a.rate a.filter_win.now a.filter_cursor a.rx_win.now a.rx_cursor a.control in
    let asked = per_symbol_some a.rate c.in-Some.p c.of.result c.of.ensures c.in-Some.is in
    let some : 0 < length a.samples.now = lt_of_le-ne (omega arith) (λ e. c.if-samples-eq0.false (sym e)) in
    feeds _ m asked.1 _ _ _ _ (fed_some _ _ _ _ some ∙ c.feed_each-done.ensures _ asked.0)
