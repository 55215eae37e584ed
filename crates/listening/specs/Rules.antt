-- The receiver's rules since a fresh start, as a receiver of single calls that can be listened to. Assumes nothing.
use Rattle.machine.specs.Runs.{Machine}
use Rattle.shaping.specs.Rate.{Rate}
use Rattle.demodulator.specs.Singles.{Single, Said}
use Rattle.demodulator_run.specs.Rules.{History, single_rules}

abbrev pub rules_at : Rate → Machine History Single Said
rules_at R = single_rules R.taps R.p
