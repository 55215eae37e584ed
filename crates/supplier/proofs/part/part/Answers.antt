-- `part::part` meets its contract. Assumes nothing.
use mathlib.Core.Path.{◌≡◌, ◌∙◌}
use native.Mathlib.Omega.{arith}
use lib.ListN.{length}
use Rattle.sending.proofs.Parts.{counted_within}
use borrow.Author.Rules.{rules}
use Rattle.supplier.proofs.part.part.Goals as goal

pub meet_part-verdict-requires : goal.meet_part-verdict-requires
meet_part-verdict-requires c =
    let out = c.read_output_samples-read in
    let size : length out.new.out ≡ 2720 = search rules in
    (omega (arith, c.count-written.ensures, counted_within out.ensures, size), search rules)

pub overflow_add-end : goal.overflow_add-end
overflow_add-end c = omega (arith, c.count-written.ensures, counted_within c.read_output_samples-read.ensures)

pub returns : goal.returns
returns c =
    let out = c.read_output_samples-read in
    let one = c.provide_next_frame-given in
    record {
      verdict = c.meet_part-verdict.ensures ∙ rw (c.count-written.ensures, out.ensures.answers, out.ensures.writes, one.ensures.leaves);
      place = rw (c.count-written.ensures, out.ensures.answers, one.ensures.leaves);
      leaves = rw (out.ensures.leaves, one.ensures.leaves);
    }
