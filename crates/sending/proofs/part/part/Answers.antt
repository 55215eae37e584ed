-- `part::part` meets its contract. Assumes nothing.
use native.Mathlib.Omega.{arith}
use Rattle.sending.proofs.Parts.{counted_within, part_said}
use Rattle.sending.proofs.part.part.Goals as goal

pub overflow_mul-length : goal.overflow_mul-length
overflow_mul-length c = omega (arith, c.count-length.ensures, counted_within c.read_output_samples-read.ensures)

pub returns : goal.returns
returns c =
    let a = c.args in
    part_said a.s a.frame a.symbols a.bad a.last c.provide_next_frame-given.result c.read_output_samples-read.result _ c.bytes_of.result c.count-length.result c.provide_next_frame-given.ensures c.read_output_samples-read.ensures c.bytes_of.ensures c.count-length.ensures
