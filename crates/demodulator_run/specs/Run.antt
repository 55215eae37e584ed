-- The record as a machine over single calls, each given the record that the one before it left, at the rate that it says. Assumes nothing.
use Rattle.std.specs.Prelude.{List}
use Rattle.std.specs.Int.{w16}
use Rattle.std.proofs.Common.{SFits}
use Rattle.machine.specs.Runs.{Machine, run, answers}
use Rattle.shaping.specs.Rate.{Rate, per_second}
use Rattle.demodulator.specs.declared.SoftDemodulator.{SoftDemodulator}
use Rattle.demodulator.specs.Record.{fresh}
use Rattle.demodulator.specs.Singles.{Single, sample, reply, query, Said}
pub use Rattle.demodulator.specs.Singles.{left, said_by}
unfoldable pub use Rattle.demodulator.specs.Singles.{left_at}

abbrev pub single_receiver : Machine SoftDemodulator Single Said
single_receiver = record { next = λ m c. (left m c).demodulator; says = λ m c. said_by (left m c) }

-- ---- its runs from a fresh start at a rate
abbrev pub fresh_at : Rate → SoftDemodulator
fresh_at R = fresh (per_second R.p)

abbrev pub record_after : Rate → List Single → SoftDemodulator
record_after R cs = run single_receiver (fresh_at R) cs

abbrev pub answers_to : Rate → List Single → List Said
answers_to R cs = answers single_receiver (fresh_at R) cs

-- ---- what a caller can give: a sample is an i16's value, whether or not it will be refused
unfoldable pub Callable : Single → Type 0
Callable (sample x room) = SFits w16 x
Callable (reply r) = Unit {0}
Callable query = Unit {0}
