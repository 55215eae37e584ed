-- Each function's promise fixes its answer. That there is one on every input is the function's own proof. Assumes nothing.
use Rattle.std.specs.Prelude.{Option}
use mathlib.Core.Path.{◌≡◌}
use mathlib.Core.Bool.{Bool}
use mathlib.Core.List.{List}
use Prim.Native.Nat.{ℕ}
use lib.IntN.{ℤ}
use lib.Ieee.{Float}
use Rattle.numbers.proofs.Answer.{same_answer}
use Rattle.protocol.specs.declared.Kind.{Kind}
use Rattle.house.specs.declared.Text.{Text}
use Rattle.house.specs.Line.{LineSymbolsSays, SymbolsLineSays}
use Rattle.house.specs.Samples.{I16OfBytesSays, BytesOfI16Says}
use Rattle.house.specs.BadLine.{BadLineTextSays}
use Rattle.house.specs.Accept.{AcceptsSays}
use Rattle.house.specs.declared.Program.{Program}
use Rattle.house.specs.declared.Trouble.{Trouble}
use Rattle.house.specs.Trouble.{TroubleTextSays, OutcomeTextSays}

pub line_symbols_only_answer : (line : List ℕ) (r s : Option (List Float)) → LineSymbolsSays line r → LineSymbolsSays line s → r ≡ s
line_symbols_only_answer line r s = same_answer

pub symbols_line_only_answer : (symbols : List Float) (r s : List ℕ) → SymbolsLineSays symbols r → SymbolsLineSays symbols s → r ≡ s
symbols_line_only_answer symbols r s = same_answer

pub i16_of_bytes_only_answer : (low high : ℕ) (r s : ℤ) → I16OfBytesSays low high r → I16OfBytesSays low high s → r ≡ s
i16_of_bytes_only_answer low high r s = same_answer

pub bytes_of_i16_only_answer : (x : ℤ) (r s : List ℕ) → BytesOfI16Says x r → BytesOfI16Says x s → r ≡ s
bytes_of_i16_only_answer x r s = same_answer

pub bad_line_text_only_answer : (n : ℕ) (r s : Text) → BadLineTextSays n r → BadLineTextSays n s → r ≡ s
bad_line_text_only_answer n r s = same_answer

pub accepts_only_answer : (kind : Kind) (symbols : List Float) (r s : Bool) → AcceptsSays kind symbols r → AcceptsSays kind symbols s → r ≡ s
accepts_only_answer kind symbols r s = same_answer

pub trouble_text_only_answer : (program : Program) (trouble : Trouble) (r s : Text) → TroubleTextSays program trouble r → TroubleTextSays program trouble s → r ≡ s
trouble_text_only_answer program trouble r s = same_answer

pub outcome_text_only_answer : (program : Program) (read written admitted : Bool) (r s : Text) → OutcomeTextSays program read written admitted r → OutcomeTextSays program read written admitted s → r ≡ s
outcome_text_only_answer program read written admitted r s = same_answer
