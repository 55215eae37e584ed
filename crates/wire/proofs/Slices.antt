-- What is laid in a slice that ends early. Assumes nothing.
use mathlib.Core.Path.{◌≡◌, refl, sym, ap, ◌∙◌}
use mathlib.Core.List.{List, [], ◌∷◌, ◌++◌, append-nil, append_assoc}
use mathlib.Core.Logic.{⊎_elim}
use Prim.Native.Nat.{ℕ, zero, suc, ◌+◌, ◌-◌, ◌≤◌, ◌<◌, min}
use native.Mathlib.Nat.{zero-min, min-zero, suc-min-suc}
use native.Mathlib.Omega.{arith}
use lib.ListN.{length, take, drop, set, length-set, length-take, drop_of_length-le}
use lib.Seq.{sets, set_out, sets-eq, drop-drop, take_all}
use Rattle.numbers.proofs.Tests.{lt_or_le}
use Rattle.numbers.specs.Firsts.{firsts, written}

-- ---- no more than there is
taken : (count : ℕ) (l : List ℕ) → take (min count (length l)) l ≡ take count l
taken zero l = rw zero-min
taken (suc count) [] = rw min-zero
taken (suc count) (b ∷ l) = rw suc-min-suc (ap (λ (r : List ℕ). b ∷ r) (taken count l))

-- ---- bytes past the end
pub sets_outside : (bytes l : List ℕ) (at : ℕ) → length l ≤ at → sets l at bytes ≡ l
sets_outside [] l at past = refl
sets_outside (b ∷ bytes) l at past = rw (set_out l at b past) (sets_outside bytes l (suc at) (omega arith))

at_the_end : (bytes l : List ℕ) (at : ℕ) → sets l (min at (length l)) bytes ≡ sets l at bytes
at_the_end bytes l at =
    ⊎_elim
    (λ (h : at < length l). let same : min at (length l) ≡ at = omega arith in rw same)
    (λ (h : length l ≤ at).
    let end : min at (length l) ≡ length l = omega arith in
    rw end (sets_outside bytes l (length l) (omega arith) ∙ sym (sets_outside bytes l at h)))
    (lt_or_le at (length l))

within : (bytes l : List ℕ) (at : ℕ) → sets l at (take (length l - at) bytes) ≡ sets l at bytes
within [] l at = ap (sets l at) (take_all (length l - at) [] (omega arith))
within (b ∷ bytes) l at =
    ⊎_elim
    (λ (h : at < length l).
    let more : length l - at ≡ suc (length l - suc at) = omega arith in
    rw more (rw length-set at (within bytes (set l at b) (suc at))))
    (λ (h : length l ≤ at).
    let none : length l - at ≡ 0 = omega arith in
    rw none (sym (sets_outside (b ∷ bytes) l at h)))
    (lt_or_le at (length l))

-- a copy of as many bytes as there is room for, from a place that is there, lays them all
pub laid_as_far : (bytes l : List ℕ) (at s k : ℕ) → s ≡ min at (length l) → k ≡ min (length bytes) (length l - s) → take s l ++ (take k bytes ++ drop k (drop s l)) ≡ sets l at bytes
laid_as_far bytes l at s k start count =
    let many : length (take k bytes) ≡ k = rw length-take (omega arith) in
    let turned : k ≡ min (length l - s) (length bytes) = omega arith in
    let all : take k bytes ≡ take (length l - s) bytes = ap (λ (n : ℕ). take n bytes) turned ∙ taken (length l - s) bytes in
    let placed = rw many at (sets-eq (take k bytes) l s (omega arith)) in
    rw (drop-drop k s l, ← append_assoc (take s l) (take k bytes) (drop (s + k) l))
    (sym placed ∙ ap (sets l s) all ∙ within bytes l s ∙ ap (λ (n : ℕ). sets l n bytes) start ∙ at_the_end bytes l at)

-- ---- a room that is written to its end
pub filled : {A : Type 0} (f : ℕ → A) (n : ℕ) (room r : List A) → length room ≤ n → r ≡ written f n room → n ≤ length room → r ≡ firsts f (length room)
filled f n room r past e within =
    let all : n ≡ length room = omega arith in
    e ∙ rw (drop_of_length-le room past, append-nil (firsts f n), all)
