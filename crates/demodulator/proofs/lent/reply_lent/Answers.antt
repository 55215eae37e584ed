-- `lent::reply_lent` meets its contract. Assumes nothing.
use mathlib.Core.Path.{◌≡◌, sym, ◌∙◌}
use mathlib.Core.Bool.{true}
use mathlib.Core.List.{[]}
use borrow.Author.Tests.{not-true, not-false}
use Rattle.shaping.specs.Rate.{rate_fit, samples_in_lem}
use Rattle.shaping.proofs.RateFacts.{per_symbol_some, per_symbol_none}
use Rattle.demodulator.specs.declared.SoftDemodulator.{SoftDemodulator}
use Rattle.demodulator.specs.Record.{assembled}
use Rattle.demodulator.specs.Fit.{fit_for_reply_lem}
use Rattle.demodulator.proofs.Fitness.{record_facts, reply_record}
use Rattle.demodulator.proofs.CallCases.{reply_other_rate, reply_unfit, reply_unasked}
use Rattle.demodulator.proofs.ReplySearch.{replies}
use Rattle.demodulator.proofs.lent.reply_lent.Goals as goal
use Rattle.demodulator.proofs.lent.reply_lent.Goals.{After-fit_for_reply, Else-not-fit_for_reply}

abbrev record_of : After-fit_for_reply → SoftDemodulator
record_of c = let a = c.args in assembled a.rate a.filter_win.now a.filter_cursor a.rx_win.now a.rx_cursor a.control

asked : (c : After-fit_for_reply) → (rate_fit c.args.rate ≡ true) × (c.in-Some.p ≡ samples_in_lem c.args.rate)
asked c = per_symbol_some c.args.rate c.in-Some.p c.of.result c.of.ensures c.in-Some.is

told : (c : After-fit_for_reply) → c.fit_for_reply.result ≡ fit_for_reply_lem c.in-Some.p (record_of c)
told c = c.fit_for_reply.ensures c.args.rate c.args.filter_win.now (asked c).0 c.halves_agree-halves.ensures

fit : (c : Else-not-fit_for_reply) → fit_for_reply_lem c.in-Some.p (record_of c.before) ≡ true
fit c = sym (told c.before) ∙ c.if-not-fit_for_reply.false

pub returns-in_default : goal.returns-in_default
returns-in_default c =
    let a = c.args in
    let m = assembled a.rate a.filter_win.now a.filter_cursor a.rx_win.now a.rx_cursor a.control in
    let d = reply_other_rate (samples_in_lem a.rate) m a.reply [] (per_symbol_none a.rate c.of.result c.of.ensures c.in_default.is) in
    record { answers = rw d; leaves = rw d }

pub returns-then-not-fit_for_reply : goal.returns-then-not-fit_for_reply
returns-then-not-fit_for_reply c =
    let s = asked c.before in
    let d = rw s.1 at (reply_unfit c.in-Some.p (record_of c.before) c.args.reply [] s.0 (sym (told c.before) ∙ c.if-not-fit_for_reply.true)) in
    record { answers = rw d; leaves = rw d }

pub returns-then-not-control : goal.returns-then-not-control
returns-then-not-control c =
    let f = c.before.before in
    let d = rw (asked f.before).1 at (reply_unasked c.in-Some.p (record_of f.before) c.args.reply [] (fit f) (not-true _ c.if-not-control.true)) in
    record { answers = rw d; leaves = rw d }

pub eight-values-requires : goal.eight-values-requires
eight-values-requires c = (record_facts _ _ (reply_record _ _ (fit c.before.before))).ring_cursor

pub returns : goal.returns
returns c =
    let f = c.before.before.before.before.before in
    let d = rw (asked f.before).1 at (replies _ _ (fit f) _ c.eight-values.ensures (not-false _ c.if-not-control.false) _ _ (rw c.samples-symbol.ensures at c.replied-settled.ensures)) in
    record { answers = d.0; leaves = d.1 }
