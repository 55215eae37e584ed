-- Each promise leaves one answer. Assumes nothing.
use mathlib.Core.Path.{◌≡◌}
use mathlib.Core.Bool.{Bool}
use Prim.Native.Nat.{ℕ}
use Rattle.numbers.proofs.Answer.{same_answer}
use Rattle.protocol.specs.declared.Kind.{Kind}
use Rattle.protocol.specs.declared.Refusal.{Refusal}
use Rattle.library_codes.specs.Codes.{RefusalCodeSays, KindCodeSays, FlagOfSays}

pub refusal_code_only_answer : (why : Refusal) (r s : ℕ) → RefusalCodeSays why r → RefusalCodeSays why s → r ≡ s
refusal_code_only_answer why r s = same_answer

pub kind_code_only_answer : (kind : Kind) (r s : ℕ) → KindCodeSays kind r → KindCodeSays kind s → r ≡ s
kind_code_only_answer kind r s = same_answer

pub flag_of_only_answer : (b : Bool) (r s : ℕ) → FlagOfSays b r → FlagOfSays b s → r ≡ s
flag_of_only_answer b r s = same_answer
