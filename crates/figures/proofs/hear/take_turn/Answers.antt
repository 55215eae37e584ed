-- `hear::take_turn` meets its contract. Assumes nothing.
use Rattle.figures.proofs.TurnLaws.{timer_none, turn_says_lem}
use Rattle.figures.proofs.hear.take_turn.Goals as goal

pub returns : goal.returns
returns c =
    rw (c.then_some.ensures, c.set_carrier.ensures, c.count_carrier-held.ensures, c.count_answer-offered.ensures, timer_none c.listen-heard.result.timer c.is_none.result c.is_none.ensures, c.rests.ensures, c.lasts-last.ensures)
    (turn_says_lem c.args.demodulator c.args.samples.now c.requires c.listen-heard.result c.listen-heard.ensures)
