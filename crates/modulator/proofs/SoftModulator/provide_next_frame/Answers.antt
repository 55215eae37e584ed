-- `SoftModulator::provide_next_frame` meets its contract: each return is one case of the rules. Assumes nothing.
use mathlib.Core.Path.{◌≡◌, sym, ap, ◌∙◌}
use mathlib.Core.Bool.{true}
use Prim.Native.Nat.{◌<◌}
use Rattle.shaping.specs.Rate.{rate_fit, samples_in_lem, rate_of, tap_count}
use Rattle.protocol.specs.Refusals.{on_paper}
use Rattle.given_symbols.specs.Offender.{verdict_paper}
use Rattle.given_symbols.proofs.Judged.{fine_count}
use Rattle.modulator.specs.Fit.{record_fit_lem}
use Rattle.modulator.proofs.Fitness.{record_facts}
use Rattle.modulator.proofs.FrameCases.{frame_unfit, frame_none, frame_preamble, frame_ending, frame_refused, frame_given}
use Rattle.modulator.proofs.SoftModulator.provide_next_frame.Goals as goal
use Rattle.modulator.proofs.SoftModulator.provide_next_frame.Lts as Lts
use Rattle.modulator.proofs.SoftModulator.provide_next_frame.Reads as Reads
use Rattle.modulator.proofs.SoftModulator.provide_next_frame.Tie as Tie

abbrev Else-not-record_fit : Type 0
Else-not-record_fit = Lts.Else1 Tie.the-claims Reads.Pre Reads.Post

-- where a frame is looked at, the record is fit, and so are its rate and its cursor
fit : (c : Else-not-record_fit) → record_fit_lem (samples_in_lem c.args.self.rate) c.args.self ≡ true
fit c = sym c.record_fit.ensures ∙ c.if-not-record_fit.false

rate : (c : Else-not-record_fit) → rate_fit c.args.self.rate ≡ true
rate c = (record_facts (samples_in_lem c.args.self.rate) c.args.self (fit c)).rate

cursor : (c : Else-not-record_fit) → c.args.self.filter_cursor < tap_count (samples_in_lem c.args.self.rate)
cursor c = (record_facts (samples_in_lem c.args.self.rate) c.args.self (fit c)).cursor

pub returns-then-not-record_fit : goal.returns-then-not-record_fit
returns-then-not-record_fit c =
    let a = c.args in
    let e = frame_unfit (rate_of a.self.rate) a.self a.frame a.symbols.now (sym c.record_fit.ensures ∙ c.if-not-record_fit.true) in
    record { answers = rw (e, c.unfit_for.ensures); leaves = rw e }

pub preamble-modulator-requires : goal.preamble-modulator-requires
preamble-modulator-requires c = (rate c.before.before, cursor c.before.before)

pub returns-in-Err : goal.returns-in-Err
returns-in-Err c =
    let a = c.args in
    let wrong = sym c.judge_frame.ensures ∙ ap verdict_paper c.in-Err.is in
    let e = frame_refused (rate_of a.self.rate) a.self a.frame a.symbols.now (fit c.before.before.before.before) c.in-Symbols.traffic c.in-Symbols.is (on_paper c.in-Err.why) wrong in
    record { answers = rw e; leaves = rw e }

pub given-modulator-requires : goal.given-modulator-requires
given-modulator-requires c =
    let a = c.args in
    (rate c.before.before.before.before, cursor c.before.before.before.before, fine_count c.in-Symbols.traffic a.symbols.now (sym c.judge_frame.ensures ∙ ap verdict_paper c.in_default.is))

pub end_of_transmission-modulator-requires : goal.end_of_transmission-modulator-requires
end_of_transmission-modulator-requires c = (rate c.before.before, cursor c.before.before)

pub returns-in-Nothing : goal.returns-in-Nothing
returns-in-Nothing c =
    let a = c.args in
    let e = frame_none (rate_of a.self.rate) a.self a.frame a.symbols.now (fit c.before.before.before) c.in-Nothing.is in
    record { answers = rw e; leaves = rw (e, c.without_wish-modulator.ensures) }

pub returns-in-Preamble : goal.returns-in-Preamble
returns-in-Preamble c =
    let a = c.args in
    let e = frame_preamble (rate_of a.self.rate) a.self a.frame a.symbols.now (fit c.before.before.before) c.in-Preamble.traffic c.in-Preamble.tx_delay c.in-Preamble.is in
    record { answers = rw e; leaves = rw (e, c.preamble-modulator.ensures) }

pub returns-in_default : goal.returns-in_default
returns-in_default c =
    let a = c.args in
    let right = sym c.judge_frame.ensures ∙ ap verdict_paper c.in_default.is in
    let e = frame_given (rate_of a.self.rate) a.self a.frame a.symbols.now (fit c.before.before.before.before.before) c.in-Symbols.traffic c.in-Symbols.is right in
    record { answers = rw e; leaves = rw (e, c.given-modulator.ensures) }

pub returns-in-EndOfTransmission : goal.returns-in-EndOfTransmission
returns-in-EndOfTransmission c =
    let a = c.args in
    let e = frame_ending (rate_of a.self.rate) a.self a.frame a.symbols.now (fit c.before.before.before) c.in-EndOfTransmission.is in
    record { answers = rw e; leaves = rw (e, c.end_of_transmission-modulator.ensures) }
