-- `SoftModulator::run` meets its contract: each return is one case of the rules. Assumes nothing.
use mathlib.Core.Path.{sym, ◌∙◌}
use Rattle.shaping.specs.Rate.{rate_of}
use Rattle.modulator.proofs.Cases.{run_unfit, run_end, run_read, run_idle, run_frame, run_nothing}
use Rattle.modulator.proofs.SoftModulator.run.Goals as goal

pub returns-then-not-record_fit : goal.returns-then-not-record_fit
returns-then-not-record_fit c =
    let m = c.args.self in
    let e = run_unfit (rate_of m.rate) m (sym c.record_fit.ensures ∙ c.if-not-record_fit.true) in
    record { answers = rw (e, c.unfit_for.ensures); leaves = rw e }

pub returns-in-Some : goal.returns-in-Some
returns-in-Some c =
    let m = c.args.self in
    let e = run_end (rate_of m.rate) m c.in-Some.end (sym c.record_fit.ensures ∙ c.if-not-record_fit.false) c.in-Some.is in
    record { answers = rw e; leaves = rw (e, c.reported-self.ensures) }

pub returns-then-progress : goal.returns-then-progress
returns-then-progress c =
    let m = c.args.self in
    let e = run_read (rate_of m.rate) m (sym c.record_fit.ensures ∙ c.if-not-record_fit.false) c.in_default.is c.if-progress.true in
    record { answers = rw e; leaves = rw e }

pub returns-then-pending : goal.returns-then-pending
returns-then-pending c =
    let m = c.args.self in
    let e = run_idle (rate_of m.rate) m (sym c.record_fit.ensures ∙ c.if-not-record_fit.false) c.in_default.is c.if-progress.false c.if-pending.true in
    record { answers = rw e; leaves = rw e }

pub returns-then-pending-2 : goal.returns-then-pending-2
returns-then-pending-2 c =
    let m = c.args.self in
    let e = run_frame (rate_of m.rate) m (sym c.record_fit.ensures ∙ c.if-not-record_fit.false) c.in_default.is c.if-progress.false c.if-pending.false c.if-pending-2.true in
    record { answers = rw e; leaves = rw e }

pub returns : goal.returns
returns c =
    let m = c.args.self in
    let e = run_nothing (rate_of m.rate) m (sym c.record_fit.ensures ∙ c.if-not-record_fit.false) c.in_default.is c.if-progress.false c.if-pending.false c.if-pending-2.false in
    record { answers = rw e; leaves = rw e }
