-- `fit::record_fit` meets its contract. Assumes nothing.
use mathlib.Core.Path.{◌≡◌, sym, ◌∙◌}
use mathlib.Core.Bool.{true, false}
use Prim.Native.Nat.{◌≤◌}
use native.Mathlib.Omega.{arith}
use borrow.Author.Rules.{rules}
use lib.ListN.{length}
use Rattle.shaping.specs.Rate.{rate_fit, tap_count}
use Rattle.shaping.proofs.RateFacts.{per_symbol_some, per_symbol_none}
use Rattle.modulator.specs.Fit.{window_fit, record_fit_lem}
use Rattle.modulator.proofs.Fitness.{window_within}
use Rattle.modulator.proofs.fit.record_fit.Goals as goal

pub returns-in_default : goal.returns-in_default
unfolding record_fit_lem
returns-in_default c =
    let none : rate_fit c.args.m.rate ≡ false = per_symbol_none c.args.m.rate c.of.result c.of.ensures c.in_default.is in
    rw none

pub returns : goal.returns
unfolding record_fit_lem window_fit
returns c =
    let window = c.args.m.filter_win in
    let places : length window ≡ 81 = search rules in
    let asked = per_symbol_some c.args.m.rate c.in-Some.p c.of.result c.of.ensures c.in-Some.is in
    let long : tap_count c.samples.result ≤ length window = omega arith in
    rw (asked.0, c.all_within.ensures, window_within window (tap_count c.samples.result) long, c.progress_fit.ensures, c.buffer_fit.ensures, c.report_fit.ensures, c.samples.ensures, asked.1)
