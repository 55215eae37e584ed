-- Samples as bytes, one pair after the other. Assumes nothing.
use mathlib.Core.Path.{◌≡◌, refl, sym, ap, ◌∙◌}
use mathlib.Core.List.{List, [], ◌∷◌, ◌++◌, map, map-append, flatten}
use Prim.Native.Nat.{ℕ, ◌+◌, ◌*◌, ◌≤◌, ◌<◌}
use native.Mathlib.Numerals.{add-one}
use native.Mathlib.Omega.{arith}
use lib.IntN.{ℤ, pos}
use lib.ListN.{length, get_or, take}
use lib.Seq.{paste, take-suc}
use Rattle.std.proofs.lemmas.List.Edits.{take-paste}
use Rattle.numbers.proofs.Flatten.{flatten_append}
use Rattle.house.specs.Samples.{bytes_of}
use Rattle.sending.specs.Text.{sample_bytes}

-- ---- bytes
pub bytes_two : (a b : List ℤ) → sample_bytes (a ++ b) ≡ sample_bytes a ++ sample_bytes b
unfolding sample_bytes
bytes_two a b = ap flatten (map-append bytes_of a b) ∙ flatten_append (map bytes_of a) (map bytes_of b)

pub bytes_length : (l : List ℤ) → length (sample_bytes l) ≡ 2 * length l
unfolding sample_bytes flatten bytes_of
bytes_length [] = refl
bytes_length (x ∷ l) = omega (arith, bytes_length l)

pub bytes_one : (x : ℤ) → sample_bytes (x ∷ []) ≡ take 2 (bytes_of x)
unfolding sample_bytes flatten bytes_of
bytes_one x = refl

-- ---- a turn of the loop that writes them
pub pair_written : (samples : List ℤ) (bytes pair : List ℕ) (i : ℕ) → i < length samples → 2 * i + 2 ≤ length bytes → pair ≡ bytes_of (get_or samples i (pos 0)) → length pair ≡ 2
    → take (2 * i) bytes ≡ sample_bytes (take i samples) → take (2 * (i + 1)) (paste bytes (2 * i) pair 2) ≡ sample_bytes (take (i + 1) samples)
pair_written samples bytes pair i inside room is size before =
    let next : 2 * (i + 1) ≡ 2 * i + 2 = omega arith in
    rw next (take-paste bytes (2 * i) pair 2 (omega arith) (omega (arith, size)))
    ∙ ap (λ (l : List ℕ). l ++ take 2 pair) before
    ∙ ap (λ (l : List ℕ). sample_bytes (take i samples) ++ l) (ap (take 2) is ∙ sym (bytes_one (get_or samples i (pos 0))))
    ∙ sym (ap sample_bytes (rw (add-one i) (take-suc samples i (pos 0) inside)) ∙ bytes_two (take i samples) (get_or samples i (pos 0) ∷ []))
