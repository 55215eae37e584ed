-- `feed::feed_nothing` meets its contract. Assumes nothing.
use Rattle.demodulator.proofs.Fitness.{tested_unfit, tested_fit}
use Rattle.demodulator.proofs.FeedSteps.{nothing_unfit, nothing_fed}
use Rattle.demodulator.proofs.feed.feed_nothing.Goals as goal

pub returns-then-not-record_fit : goal.returns-then-not-record_fit
returns-then-not-record_fit c =
    let m = c.args.demodulator in
    nothing_unfit _ m c.requires.0 c.requires.1 (tested_unfit _ _ _ _ _ _ c.record_fit.ensures m.rate m.filter_win m.rx_win c.requires.0 c.halves_agree-halves.ensures c.if-not-record_fit.true-raw)

pub returns : goal.returns
returns c =
    let m = c.args.demodulator in
    nothing_fed _ m c.requires.0 c.requires.1 (tested_fit _ _ _ _ _ _ c.record_fit.ensures m.rate m.filter_win m.rx_win c.requires.0 c.halves_agree-halves.ensures c.if-not-record_fit.false-raw)
