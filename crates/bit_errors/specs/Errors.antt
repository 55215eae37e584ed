-- Document 02 b): "a small bit-error count: two 184-symbol payloads, and the exact number of differing bits". Assumes nothing.
use Rattle.protocol.specs.declared.Refusal.{Refusal}
use Rattle.std.specs.Prelude.{◌≡◌, not, cond, List, [], ◌∷◌, ◌++◌, ℕ, ◌+◌, eqb, length, Float, Result, Ok, Err}
use Rattle.protocol.specs.Refusals.{PaperRefusal, bare, on_paper}
use Rattle.decode.specs.Slicer.{sliced}

-- "The count slices both payloads, whatever the symbols' values": each symbol's two bits, one after the other
unfoldable pub bits_of : List Float → List ℕ
bits_of [] = []
bits_of (symbol ∷ later) = sliced symbol ++ bits_of later

-- "the exact number of differing bits": the places at which two lists differ
abbrev pub differ : ℕ → ℕ → ℕ
differ a b = cond (eqb a b) 0 1

unfoldable pub differences : List ℕ → List ℕ → ℕ
differences [] ys = 0
differences (a ∷ xs) [] = 0
differences (a ∷ xs) (b ∷ ys) = differ a b + differences xs ys

-- ---- on paper: a refusal, or the count
pub data Paper : Type 0 where
  refusal : PaperRefusal → Paper
  errors : ℕ → Paper

abbrev pub paper : Result ℕ Refusal → Paper
paper (Err why) = refusal (on_paper why)
paper (Ok n) = errors n

-- "6 also for a payload that is not 184 symbols"
unfoldable pub bit_errors_lem : List Float → List Float → Paper
bit_errors_lem sent received =
    cond (not (eqb (length sent) 184)) (refusal (bare 6))
    (cond (not (eqb (length received) 184)) (refusal (bare 6))
    (errors (differences (bits_of sent) (bits_of received))))

-- ---- what the function promises
abbrev pub BitErrorsSays : List Float → List Float → Result ℕ Refusal → Type 0
BitErrorsSays sent received r = paper r ≡ bit_errors_lem sent received
