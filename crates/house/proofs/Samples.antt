-- Samples and bytes, there and back, in two's complement; and the machine's own steps from one to the other. Assumes nothing.
use mathlib.Core.Path.{◌≡◌, refl, sym, ap, ◌∙◌}
use mathlib.Core.Logic.{⊎_elim}
use mathlib.Core.Bool.{Bool, true, false, cond}
use mathlib.Core.List.{List, [], ◌∷◌}
use Prim.Native.Nat.{ℕ, suc, ◌+◌, ◌-◌, ◌*◌, ◌/◌, ◌%◌, ◌^◌, ◌≤◌, ◌<◌}
use native.Mathlib.Omega.{arith}
use borrow.Author.Tests.{lt-ltb, le-ltb, ltb-true, ltb-false}
use lib.Dec.{ltb}
use lib.IntN.{ℤ, pos, negsuc}
use lib.ListN.{get_or}
use lib.Signed.{mag}
use mir.Syntax.{w16}
use mir.Val.{to_z, of_z}
use mir.Facts.{to_z_pos, to_z-neg, of_z-to_z}
use Rattle.numbers.proofs.Tests.{lt_or_le}
use Rattle.house.specs.Samples.{number_of, pattern_of, sample_of, bytes_of, I16OfBytesSays, BytesOfI16Says}

-- ---- the two halves of the patterns
pub number_above : (p : ℕ) → p < 0x8000 → number_of p ≡ pos p
unfolding number_of
number_above p l = rw (lt-ltb p 0x8000 l)

pub number_below : (p : ℕ) → 0x8000 ≤ p → number_of p ≡ negsuc (0xffff - p)
unfolding number_of
number_below p l = rw (le-ltb p 0x8000 l)

pub pattern_below : (x : ℤ) → mag x < 0x8000 → pattern_of x < 0x1_0000
unfolding pattern_of
pattern_below (pos n) l = omega arith
pattern_below (negsuc n) l = omega arith

-- ---- there and back. `mag x` is the size of an x from 0 on, and one less than its size below
pub number_back : (x : ℤ) → mag x < 0x8000 → number_of (pattern_of x) ≡ x
unfolding pattern_of
number_back (pos n) l = number_above n l
number_back (negsuc n) l =
    let same : 0xffff - (0xffff - n) ≡ n = omega arith in
    number_below (0xffff - n) (omega arith) ∙ ap negsuc same

pub pattern_back : (p : ℕ) → p < 0x1_0000 → pattern_of (number_of p) ≡ p
unfolding number_of pattern_of
pattern_back p l = by_test (ltb p 0x8000)
  where
    by_test : (t : Bool) → pattern_of (cond t (pos p) (negsuc (0xffff - p))) ≡ p
    by_test true = refl
    by_test false = omega arith

pub sample_back : (x : ℤ) → mag x < 0x8000 → sample_of (get_or (bytes_of x) 0 0) (get_or (bytes_of x) 1 0) ≡ x
unfolding sample_of bytes_of
sample_back x l =
    let whole : pattern_of x % 256 + 256 * (pattern_of x / 256) ≡ pattern_of x = omega arith in
    ap number_of whole ∙ number_back x l

pub bytes_back : (low high : ℕ) → low < 256 → high < 256 → bytes_of (sample_of low high) ≡ low ∷ high ∷ []
unfolding sample_of bytes_of
bytes_back low high l h =
    let first : (low + 256 * high) % 256 ≡ low = omega arith in
    let second : (low + 256 * high) / 256 ≡ high = omega arith in
    rw (pattern_back (low + 256 * high) (omega arith), first, second)

-- ---- so each answer is one that the other function takes
pub sample_fits : (low high : ℕ) → low < 256 → high < 256 → mag (sample_of low high) < 0x8000
unfolding sample_of number_of
sample_fits low high l h = by_test (ltb (low + 256 * high) 0x8000) refl
  where
    by_test : (t : Bool) → ltb (low + 256 * high) 0x8000 ≡ t → mag (cond t (pos (low + 256 * high)) (negsuc (0xffff - (low + 256 * high)))) < 0x8000
    by_test true e = ltb-true (low + 256 * high) 0x8000 e
    by_test false e = omega (arith, ltb-false (low + 256 * high) 0x8000 e)

pub bytes_below : (x : ℤ) → mag x < 0x8000 → (get_or (bytes_of x) 0 0 < 256) × (get_or (bytes_of x) 1 0 < 256)
unfolding bytes_of
bytes_below x l = (omega arith, omega (arith, pattern_below x l))

-- ---- the two functions
pub bytes_there_and_back : (low high : ℕ) → low < 256 → high < 256 → (x : ℤ) (r : List ℕ) → I16OfBytesSays low high x → BytesOfI16Says x r → r ≡ low ∷ high ∷ []
bytes_there_and_back low high l h x r there back = back ∙ ap bytes_of there ∙ bytes_back low high l h

pub sample_there_and_back : (x : ℤ) → mag x < 0x8000 → (r : List ℕ) (y : ℤ) → BytesOfI16Says x r → I16OfBytesSays (get_or r 0 0) (get_or r 1 0) y → y ≡ x
sample_there_and_back x l r y there back = back ∙ ap (λ (b : List ℕ). sample_of (get_or b 0 0) (get_or b 1 0)) there ∙ sample_back x l

-- ---- the machine's own readings of a pattern and of a number
pub signed_is : (p : ℕ) → p < 0x1_0000 → to_z w16 p ≡ number_of p
signed_is p l =
    ⊎_elim
    (λ (h : p < 0x8000). to_z_pos w16 h ∙ sym (number_above p h))
    (λ (h : 0x8000 ≤ p).
    let back : 2 ^ 16 - suc (0xffff - p) ≡ p = omega arith in
    ap (to_z w16) (sym back) ∙ to_z-neg w16 (0xffff - p) (omega arith) ∙ sym (number_below p h))
    (lt_or_le p 0x8000)

pub unsigned_is : (x : ℤ) → mag x < 0x8000 → of_z w16 x ≡ pattern_of x
unsigned_is x l =
    let fits = pattern_below x l in
    ap (of_z w16) (sym (number_back x l) ∙ sym (signed_is (pattern_of x) fits)) ∙ of_z-to_z {w = w16} (record { fits = fits })
