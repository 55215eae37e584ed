-- `store_all` meets its contract: after k turns the first k samples are stored. Assumes nothing.
use Rattle.demodulator.specs.Stretch.{StoresAll}
use Rattle.demodulator.proofs.stretch.store_all.Given as goal

abbrev pub invariant-loop-k : goal.invariant-loop-k
invariant-loop-k l = StoresAll l.p l.initial.filter_win l.initial.rx_win l.initial.next l.fn.samples l.k l.filter_win l.rx_win l.next
