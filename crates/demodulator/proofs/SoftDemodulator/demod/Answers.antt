-- `demod` meets its contract. Assumes nothing.
use mir.Facts.{to_z-of_z}
use Rattle.shaping.specs.Rate.{rate_of}
use Rattle.shaping.proofs.RateFacts.{per_symbol_some, per_symbol_none}
use Rattle.demodulator.proofs.CallCases.{sample_other_rate}
use Rattle.demodulator.proofs.SoftDemodulator.demod.Goals as goal

pub returns-in_default : goal.returns-in_default
returns-in_default c =
    let a = c.args in
    let d = sample_other_rate (rate_of a.self.rate) a.self a.sample a.room.now (per_symbol_none a.self.rate c.of.result c.of.ensures c.in_default.is) in
    record { answers = rw d; leaves = rw d; writes = rw d }

pub returns : goal.returns
returns c =
    let asked = per_symbol_some c.args.self.rate c.in-Some.p c.of.result c.of.ensures c.in-Some.is in
    rw (to_z-of_z c.ranges.sample, asked.1) at (c.step-stepped.ensures c.args.self.rate asked.0)
