-- `SoftModulator::update_output_buffer` meets its contract. Assumes nothing.
use mathlib.Core.Path.{◌≡◌, sym, ◌∙◌}
use mathlib.Core.Bool.{true, false, not, ◌||◌}
use native.Mathlib.Omega.{arith}
use Rattle.shaping.specs.Rate.{Known, samples_in_lem, rate_of}
use Rattle.shaping.proofs.RateFacts.{rate_known, per_symbol_some}
use Rattle.modulator.specs.Fit.{record_fit_lem}
use Rattle.modulator.specs.Outcome.{too_large}
use Rattle.modulator.proofs.Fitness.{RecordFacts, record_facts}
use Rattle.modulator.proofs.Cases.{counts_taken, update_unfit, update_large, update_below, update_done}
use Rattle.modulator.proofs.SoftModulator.update_output_buffer.Goals as goal
use Rattle.modulator.proofs.SoftModulator.update_output_buffer.Goals.{Else-not-record_fit, After-count_fit-3, Else-count_fit}

-- where the counts are tested, the record is fit
fit : (c : Else-not-record_fit) → record_fit_lem (samples_in_lem c.args.self.rate) c.args.self ≡ true
fit c = sym c.record_fit.ensures ∙ c.if-not-record_fit.false

facts : (c : Else-not-record_fit) → RecordFacts (samples_in_lem c.args.self.rate) c.args.self
facts c = record_facts (samples_in_lem c.args.self.rate) c.args.self (fit c)

known : (c : Else-not-record_fit) → Known (samples_in_lem c.args.self.rate)
known c = rate_known c.args.self.rate (facts c).rate

-- the code's test of the counts is the definition's
tested : (c : After-count_fit-3) → let a = c.args in
    not c.count_fit.result || not c.count_fit-2.result || not c.count_fit-3.result ≡ too_large a.samples_to_play.0 a.capacity.0 a.output_latency.0
tested c = rw (c.count_fit.ensures, c.count_fit-2.ensures, c.count_fit-3.ensures)

-- where none is refused
small : (c : Else-count_fit) → let a = c.args in too_large a.samples_to_play.0 a.capacity.0 a.output_latency.0 ≡ false
small c = sym (tested c.before) ∙ c.if-count_fit.false

pub returns-then-not-record_fit : goal.returns-then-not-record_fit
returns-then-not-record_fit c =
    let a = c.args in
    let e = update_unfit (rate_of a.self.rate) a.self a.samples_to_play.0 a.capacity.0 a.output_latency.0 (sym c.record_fit.ensures ∙ c.if-not-record_fit.true) in
    record { answers = rw (e, c.unfit_for.ensures); leaves = rw e }

pub returns-then-count_fit : goal.returns-then-count_fit
returns-then-count_fit c =
    let a = c.args in
    let e = update_large (rate_of a.self.rate) a.self a.samples_to_play.0 a.capacity.0 a.output_latency.0 (fit c.before.before.before.before) (sym (tested c.before) ∙ c.if-count_fit.true) in
    record { answers = rw e; leaves = rw e }

pub returns-then-capacity-samples_to_play : goal.returns-then-capacity-samples_to_play
returns-then-capacity-samples_to_play c =
    let a = c.args in
    let e = update_below (rate_of a.self.rate) a.self a.samples_to_play.0 a.capacity.0 a.output_latency.0 (fit c.before.before.before.before.before.before.before) (small c.before.before.before) c.if-capacity-samples_to_play.true in
    record { answers = rw e; leaves = rw e }

pub end_after-end-requires : goal.end_after-end-requires
end_after-end-requires c =
    let a = c.args in
    let f = counts_taken a.samples_to_play.0 a.capacity.0 a.output_latency.0 (small c.before.before.before.before.before) in
    let far = (facts c.before.before.before.before.before.before.before.before.before).progress in
    let k = known c.before.before.before.before.before.before.before.before.before in
    record { card = (f.0, f.2); padding = omega arith; frame = (far.read, omega arith) }

pub unwrap-p-requires : goal.unwrap-p-requires
unwrap-p-requires c =
    let rate = (facts c.before.before.before.before.before.before.before.before.before.before.before).rate in
    rw (c.of.ensures, rate)

pub returns : goal.returns
returns c =
    let a = c.args in
    let e = update_done (rate_of a.self.rate) a.self a.samples_to_play.0 a.capacity.0 a.output_latency.0 (fit c.before.before.before.before.before.before.before.before.before.before.before.before.before) (small c.before.before.before.before.before.before.before.before.before) c.if-capacity-samples_to_play.false in
    record { answers = rw e; leaves = rw (e, c.updated_pending-told.ensures, c.end_after-end.ensures, (per_symbol_some c.args.self.rate c.unwrap-p.result c.of.result c.of.ensures c.unwrap-p.ensures).1) }
