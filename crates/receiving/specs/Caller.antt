-- How a caller goes on, with reads of any sizes and any room for each: the bytes that a call did not consume go before the next.
-- Assumes nothing.
use mathlib.Core.List.{List, [], ◌++◌, flat_map}
use Rattle.std.specs.Prelude.{ℕ, ◌*◌, ◌≤◌, ◌<◌, length, take, drop}
use Rattle.machine.specs.Runs.{Machine, run, answers, Each}
use Rattle.demodulator.specs.declared.SoftDemodulator.{SoftDemodulator}
use Rattle.receiving.specs.declared.Receiving.{Receiving}
use Rattle.receiving.specs.Hear.{most_samples, Intake, record_intake, fresh_receiving}

abbrev pub Bytes : List ℕ → Type 0
Bytes = Each (λ (b : ℕ). b < 256)

-- what a read brings, and how many bytes of lines its call has room for
pub record Read : Type 0 where
  pub bytes : List ℕ
  pub places : ℕ

-- all that the reads bring
abbrev pub input : List Read → List ℕ
input = flat_map (λ (r : Read). r.bytes)

-- as the program has it: 16,384 bytes at most, and room for a line of each of their samples
abbrev pub Short : List Read → Type 0
Short = Each (λ (r : Read). (length r.bytes ≤ 2 * most_samples) × (97 * most_samples ≤ r.places))

-- ---- a caller: the record that the last call left, and the bytes that no call has consumed
pub record Caller : Type 0 where
  pub receiving : Receiving
  pub unused : List ℕ

abbrev pub fresh_caller : Caller
fresh_caller = record { receiving = fresh_receiving; unused = [] }

abbrev pub given : Caller → Read → List ℕ
given c r = c.unused ++ r.bytes

abbrev pub intake_at : Caller → Read → Intake SoftDemodulator
intake_at c r = record_intake c.receiving (given c r) r.places

abbrev pub after : Caller → Read → Caller
after c r = record {
  receiving = record { demodulator = (intake_at c r).state; odd = (intake_at c r).odd };
  unused = drop (intake_at c r).consumed (given c r);
}

-- what one call consumes of its bytes, and what it writes
pub record Turn : Type 0 where
  pub bytes : List ℕ
  pub text : List ℕ

abbrev pub calling : Machine Caller Read Turn
calling = record { next = after; says = λ c r. record { bytes = take (intake_at c r).consumed (given c r); text = (intake_at c r).text } }

-- ---- over all reads: where the caller is, what was written, one text after the other, and the bytes that were consumed
abbrev pub caller_after : Caller → List Read → Caller
caller_after = run calling

abbrev pub text_of : Caller → List Read → List ℕ
text_of c reads = flat_map (λ (t : Turn). t.text) (answers calling c reads)

abbrev pub consumed_by : Caller → List Read → List ℕ
consumed_by c reads = flat_map (λ (t : Turn). t.bytes) (answers calling c reads)
