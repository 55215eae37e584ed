-- `SoftModulator::read_output_samples` meets its contract. Assumes nothing.
use mathlib.Core.Path.{◌≡◌, sym, ◌∙◌}
use mathlib.Core.Bool.{true}
use Prim.Native.Nat.{◌≤◌}
use native.Mathlib.Omega.{arith}
use Rattle.shaping.specs.Rate.{samples_in_lem, rate_of}
use Rattle.shaping.proofs.RateFacts.{rate_known}
use Rattle.modulator.specs.Fit.{record_fit_lem}
use Rattle.modulator.proofs.Fitness.{RecordFacts, record_facts}
use Rattle.modulator.proofs.Cases.{read_unfit, read_fit}
use Rattle.modulator.proofs.Drain.{drained_is}
use Rattle.modulator.proofs.SoftModulator.read_output_samples.Goals as goal
use Rattle.modulator.proofs.SoftModulator.read_output_samples.Goals.{Else-not-record_fit}

-- where samples are read, the record is fit
fit : (c : Else-not-record_fit) → record_fit_lem (samples_in_lem c.args.self.rate) c.args.self ≡ true
fit c = sym c.record_fit.ensures ∙ c.if-not-record_fit.false

facts : (c : Else-not-record_fit) → RecordFacts (samples_in_lem c.args.self.rate) c.args.self
facts c = record_facts (samples_in_lem c.args.self.rate) c.args.self (fit c)

frame_long : (c : Else-not-record_fit) → c.args.self.progress.next_len ≤ 4000
frame_long c =
    let long = (facts c).progress.len in
    let known = rate_known c.args.self.rate (facts c).rate in
    omega arith

pub returns-then-not-record_fit : goal.returns-then-not-record_fit
returns-then-not-record_fit c =
    let a = c.args in
    let e = read_unfit (rate_of a.self.rate) a.self a.out.now (sym c.record_fit.ensures ∙ c.if-not-record_fit.true) in
    record { answers = rw (e, c.unfit_for.ensures); leaves = rw e; writes = rw e }

pub copy_frame-copied-requires : goal.copy_frame-copied-requires
copy_frame-copied-requires c =
    ((facts c.before.before.before.before.before.before.before).progress.read, frame_long c.before.before.before.before.before.before.before)

pub returns : goal.returns
returns c =
    let a = c.args in
    let e = read_fit (rate_of a.self.rate) a.self a.out.now (fit c.before.before.before.before.before.before.before.before.before.before.before)
    ∙ drained_is a.self a.out.now c.write_padding-written.new.room c.copy_frame-copied.new.room c.write_padding-written.result c.copy_frame-copied.result c.write_padding-written.ensures.count c.write_padding-written.ensures.zeros c.copy_frame-copied.ensures.count c.copy_frame-copied.ensures.samples in
    record { answers = rw e; leaves = rw (e, c.saturating_sub-tx_delay_padding.ensures); writes = rw e }
