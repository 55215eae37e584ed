-- `feed` meets its contract. Assumes nothing.
use mathlib.Core.Path.{◌≡◌, sym, ◌∙◌}
use Prim.Native.Nat.{◌<◌}
use native.Mathlib.Omega.{arith}
use lib.Arith.{lt_of_le-ne}
use borrow.Author.Rules.{rules}
use lib.ListN.{length}
use Rattle.shaping.proofs.RateFacts.{per_symbol_some, per_symbol_none}
use Rattle.demodulator.proofs.FeedSteps.{fed_some, feeds, feeds_nothing, feeds_other_rate}
use Rattle.demodulator.proofs.SoftDemodulator.feed.Goals as goal

pub returns-in_default : goal.returns-in_default
returns-in_default c = feeds_other_rate _ (per_symbol_none c.args.self.rate c.of.result c.of.ensures c.in_default.is) _ _

pub feed_nothing-requires : goal.feed_nothing-requires
feed_nothing-requires c = per_symbol_some c.args.self.rate c.in-Some.p c.of.result c.of.ensures c.in-Some.is

pub returns-then-samples-eq0 : goal.returns-then-samples-eq0
returns-then-samples-eq0 c = feeds_nothing _ _ _ _ c.if-samples-eq0.true c.feed_nothing.ensures

pub feed_each-done-requires : goal.feed_each-done-requires
feed_each-done-requires c =
    -- the arrays' lengths, as the record's type has them
    let window : length c.args.self.filter_win ≡ 162 = search rules in
    let ring : length c.args.self.rx_win ≡ 1920 = search rules in
    (record { known = omega arith; window_long = omega (arith, window); ring_long = omega (arith, ring) }, c.halves_agree-halves.ensures)

pub returns : goal.returns
returns c =
    let asked = per_symbol_some c.args.self.rate c.in-Some.p c.of.result c.of.ensures c.in-Some.is in
    let some : 0 < length c.args.samples.now = lt_of_le-ne (omega arith) (λ e. c.if-samples-eq0.false (sym e)) in
    feeds _ _ asked.1 _ _ _ _ (rw c.rebuild.ensures (fed_some _ _ _ _ some ∙ c.feed_each-done.ensures _ asked.0))
