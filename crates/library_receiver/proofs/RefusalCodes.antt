-- A code of 100 and above is a refusal's. Assumes nothing.
use mathlib.Core.Path.{◌≡◌, refl}
use mathlib.Core.Bool.{Bool, true, false}
use Prim.Native.Nat.{◌≤◌}
use native.Mathlib.Omega.{arith}
use Rattle.protocol.specs.declared.Kind.{Kind}
use Rattle.protocol.specs.declared.Kind.TheVariants.{Lsf, Bert, Stream, Packet}
use Rattle.protocol.specs.Refusals.{PaperRefusal}
use Rattle.demodulator.specs.Calls.{Paper, refusal, nothing, frame, done, carrier}
use Rattle.library_codes.specs.Codes.{kind_number, flag_number}
use Rattle.library_receiver.specs.Memory.{paper_code}

kind_few : (k : Kind) → kind_number k ≤ 4
kind_few Lsf = omega arith
kind_few Bert = omega arith
kind_few Stream = omega arith
kind_few Packet = omega arith

flag_few : (b : Bool) → flag_number b ≤ 1
flag_few true = omega arith
flag_few false = omega arith

pub paper_refused : (a : Paper) → 100 ≤ paper_code a → (number : PaperRefusal) × (a ≡ refusal number)
paper_refused (refusal number) l = (number, refl)
paper_refused nothing l = absurd (omega arith)
paper_refused (frame o) l = absurd (omega (arith, kind_few o.kind))
paper_refused done l = absurd (omega arith)
paper_refused (carrier there) l = absurd (omega (arith, flag_few there))
