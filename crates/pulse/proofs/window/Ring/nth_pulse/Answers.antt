-- `nth_pulse` meets its contract. Assumes nothing.
use Prim.Native.Nat.{◌-◌}
use native.Mathlib.Omega.{arith}
use borrow.Author.Tests.{lt-ltb, le-ltb}
use lib.ListN.{length}
use Rattle.pulse.specs.Phases.{pulse_no}
use Rattle.pulse.proofs.window.Ring.nth_pulse.Goals as goal

pub returns-then-n-lt8 : goal.returns-then-n-lt8
unfolding pulse_no
returns-then-n-lt8 c = rw (c.samples-step.ensures, lt-ltb c.args.n 8 (omega arith))

pub returns-then-i-symbols : goal.returns-then-i-symbols
unfolding pulse_no
returns-then-i-symbols c =
    let a = c.args in
    rw (le-ltb a.n 8 (omega arith), lt-ltb (a.n - 8) (length a.symbols.now) (omega arith))

pub returns-else-i-symbols : goal.returns-else-i-symbols
unfolding pulse_no
returns-else-i-symbols c =
    let a = c.args in
    rw (le-ltb a.n 8 (omega arith), le-ltb (a.n - 8) (length a.symbols.now) (omega arith))
