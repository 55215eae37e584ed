-- What two rooms, one after the other, hold of zeros and of the samples after them: as much as one room of both sizes. Assumes nothing.
use mathlib.Core.Path.{◌≡◌, refl, sym, ap, ◌∙◌}
use mathlib.Core.Logic.{◌⊎◌, inl, inr}
use mathlib.Core.Bool.{Bool, true, false}
use mathlib.Core.List.{List, [], ◌++◌, append_assoc, append-nil}
use Prim.Native.Nat.{ℕ, ◌+◌, ◌-◌, ◌≤◌, min}
use native.Mathlib.Nat.{add-zero, add_assoc}
use native.Mathlib.Omega.{arith}
use borrow.Author.Tests.{leb-true, leb-false}
use lib.Dec.{leb}
use lib.ListN.{length, drop, replicate, length-append, length-replicate, replicate-append-replicate}
use lib.Seq.{drop-append-add, drop-append-le, drop-length}
use Rattle.numbers.specs.Firsts.{firsts}
use Rattle.numbers.proofs.Firsts.{length_firsts, firsts_same, firsts_cut}

-- ---- lists
-- zeros, and after them the samples of a rule from a place on
module _ {A : Type 0} (x : A) (f : ℕ → A) where
  abbrev pub out : ℕ → ℕ → ℕ → List A
  out zeros from n = replicate zeros x ++ firsts (λ (i : ℕ). f (from + i)) n

  pub length_out : (z r s : ℕ) → length (out z r s) ≡ z + s
  length_out z r s = length-append (replicate z x) _ ∙ omega (arith, length-replicate z x, length_firsts (λ (i : ℕ). f (r + i)) s)

  pub nothing_out : (z r s : ℕ) → z + s ≡ 0 → out z r s ≡ []
  unfolding firsts
  nothing_out z r s e =
      let no-zeros : z ≡ 0 = omega arith in
      let no_samples : s ≡ 0 = omega arith in
      rw (no-zeros, no_samples)

  -- the second piece has no zeros, or the first has nothing else
  pub out_in_pieces : (z z' r s s' : ℕ) → (z' ≡ 0) ⊎ (s ≡ 0) → out (z + z') r (s + s') ≡ out z r s ++ out z' (r + s) s'
  unfolding firsts
  out_in_pieces z z' r s s' one =
      let along : firsts (λ (i : ℕ). f (r + (s + i))) s' ≡ firsts (λ (i : ℕ). f (r + s + i)) s' = firsts_same _ _ s' (λ i l. ap f (sym (add_assoc r s i))) in
      rw (firsts_cut (λ (i : ℕ). f (r + i)) s s', along) (elim one [
        | inl e ↦ rw e (simp (add-zero, append_assoc))
        | inr e ↦ rw (e, ← replicate-append-replicate) (simp (append-nil, append_assoc))
      ])

-- h and then h' handed out: at the front of one room, and at the fronts of its two parts. The first part is full then, or the second gets nothing.
pub rooms_joined : {A : Type 0} (h h' a b : List A) (k k' : ℕ) → k ≤ length a → (k ≡ length a) ⊎ ((k' ≡ 0) × (h' ≡ [])) → (h ++ h') ++ drop (k + k') (a ++ b) ≡ (h ++ drop k a) ++ (h' ++ drop k' b)
rooms_joined h h' a b k k' l (inl e) = rw (e, drop-append-add a b k', drop-length a) (simp (append-nil, append_assoc))
rooms_joined h h' a b k k' l (inr e) = rw (e.0, e.1, add-zero k, drop-append-le k a b l) (simp (append-nil, append_assoc))

-- ---- counts
-- as much of p as a and b hold together is what a holds, and then what b holds of the rest
pub in_turn : (p a b : ℕ) → min (a + b) p ≡ min a p + min b (p - min a p)
in_turn p a b = omega arith

left_over : (a b z z' : ℕ) → z ≤ a → z' ≤ b → a + b - (z + z') ≡ (a - z) + (b - z')
left_over a b z z' h k = omega arith

-- first p and then n are what p and n together are
pub together : (p n a : ℕ) → min a p + min (a - min a p) n ≡ min a (p + n)
together p n a = omega arith

-- p zeros are due and n samples unread, for a room of a, and then of b
module _ (p n a b : ℕ) where
  abbrev pub zeros : ℕ
  zeros = min a p

  abbrev pub samples : ℕ
  samples = min (a - zeros) n

  abbrev pub zeros' : ℕ
  zeros' = min b (p - zeros)

  abbrev pub samples' : ℕ
  samples' = min (b - zeros') (n - samples)

  pub samples_add : min (a + b - min (a + b) p) n ≡ samples + samples'
  samples_add = rw (in_turn p a b, left_over a b zeros zeros' (omega arith) (omega arith)) (in_turn n (a - zeros) (b - zeros'))

  pub one_first : (zeros' ≡ 0) ⊎ (samples ≡ 0)
  one_first = by_test (leb p a) refl
    where
      by_test : (t : Bool) → leb p a ≡ t → (zeros' ≡ 0) ⊎ (samples ≡ 0)
      by_test true t = let h = leb-true p a t in inl (omega arith)
      by_test false t = let h = leb-false p a t in inr (omega arith)

  -- the first room is filled, or nothing is left for the second
  pub filled_or_done : (zeros + samples ≡ a) ⊎ (zeros' + samples' ≡ 0)
  filled_or_done = by_test (leb a (p + n)) refl
    where
      by_test : (t : Bool) → leb a (p + n) ≡ t → (zeros + samples ≡ a) ⊎ (zeros' + samples' ≡ 0)
      by_test true t = let h = leb-true a (p + n) t in inl (together p n a ∙ omega arith)
      by_test false t =
          let h = leb-false a (p + n) t in
          let all-zeros : zeros ≡ p = omega arith in
          let all-samples : samples ≡ n = omega arith in
          inr (together (p - zeros) (n - samples) b ∙ rw (all-samples, all-zeros) (omega arith))
