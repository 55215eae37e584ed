-- `listen` meets its contract: of an offer by its own lemma. Assumes nothing.
use mathlib.Core.Path.{◌≡◌}
use Rattle.std.specs.Prelude.{Ok, Some}
use borrow.Author.Rules.{rules}
use Rattle.demodulator.specs.Singles.{blank}
use Rattle.listening.proofs.Settlement.{listens_offered}
use Rattle.listening.proofs.listen.Goals as goal

pub returns-in-Ok-Some : goal.returns-in-Ok-Some
unfolding blank
returns-in-Ok-Some c =
    let a = c.args in
    let offered : c.feed-after.result.answer ≡ Ok (Some c.in-Ok-Some.offer) = search rules in
    listens_offered a.demodulator a.samples.now c.feed-after.result _ c.feed-after.ensures c.in-Ok-Some.offer offered c.judge-reply.result c.judge-reply.ensures _ c.reply.ensures.leaves
