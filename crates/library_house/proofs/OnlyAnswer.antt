-- Each export has one answer, and leaves one line, one list of symbols, one told number. Assumes nothing.
use mathlib.Core.Path.{◌≡◌}
use mathlib.Core.List.{List}
use Prim.Native.Nat.{ℕ}
use lib.Ieee.{Float}
use Rattle.numbers.proofs.Answer.{same_answer}
use Rattle.library_house.specs.Exports.{M17AcceptsSays, M17LineSays, M17LineSymbolsSays, M17BitErrorsSays}

pub m17_accepts_only_answer : (kind : ℕ) (symbols : List Float) (r s : ℕ) → M17AcceptsSays kind symbols r → M17AcceptsSays kind symbols s → r ≡ s
m17_accepts_only_answer kind symbols r s = same_answer

pub m17_line_only_answer : (symbols : List Float) (r s : List ℕ) → M17LineSays symbols r → M17LineSays symbols s → r ≡ s
m17_line_only_answer symbols r s = same_answer

pub m17_line_symbols_only_answer : (line : List ℕ) (symbols : List Float) (r s : ℕ) (after other : List Float)
    → M17LineSymbolsSays line symbols r after → M17LineSymbolsSays line symbols s other → (r ≡ s) × (after ≡ other)
m17_line_symbols_only_answer line symbols r s after other p q = (same_answer p.answers q.answers, same_answer p.leaves q.leaves)

pub m17_bit_errors_only_answer : (sent received : List Float) (told r s after other : ℕ)
    → M17BitErrorsSays sent received told r after → M17BitErrorsSays sent received told s other → (r ≡ s) × (after ≡ other)
m17_bit_errors_only_answer sent received told r s after other p q = (same_answer p.answers q.answers, same_answer p.leaves q.leaves)
