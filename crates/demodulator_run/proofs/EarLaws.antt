-- What can be heard where every filtered value is within ±1,000,000: at most one kind at a sample, and none a symbol after one. Assumes nothing.
use mathlib.Core.Path.{◌≡◌, refl, ap, ◌∙◌, subst}
use mathlib.Core.List.{List}
use Prim.Native.Nat.{ℕ, zero, suc, ◌+◌, ◌-◌, ◌*◌, ◌≤◌, ◌<◌}
use native.Mathlib.Omega.{arith}
use lib.Dec.{T}
use lib.IntN.{ℤ, pos}
use lib.ListN.{length, take}
use lib.Seq.{get_or-take}
use lib.Ieee.{Float, binary32, of_int}
use Rattle.shaping.proofs.Dot.{dot_same}
use Rattle.protocol.specs.declared.Kind.{Kind}
use Rattle.protocol.specs.declared.SyncBurst.TheVariants.{Frame}
use Rattle.decode.specs.Correlator.{matches, in_range}
use Rattle.decode.proofs.Same.{matches_same}
use Rattle.decode.proofs.OneMatch.{one_match}
use Rattle.decode.proofs.Apart.{not_again, never_apart}
use Rattle.demodulator_run.specs.Filter.{sample_no_lem, filtered}
use Rattle.demodulator_run.specs.Demands.{ear_of, Matches, Alone, NotAgain, Apart}

-- ---- F(k) depends on no sample after k
sample_taken : (k : ℕ) (xs : List ℤ) (j : ℕ) → j ≤ k → sample_no_lem (take k xs) j ≡ sample_no_lem xs j
unfolding sample_no_lem
sample_taken k xs zero o = refl
sample_taken k xs (suc j) o = get_or-take k xs j (pos 0) o

module _ (table : List Float) (p : ℕ) (size : length table ≤ 8 * p + 1) where
  pub filtered_taken : (k : ℕ) (xs : List ℤ) (m : ℕ) → m ≤ k → filtered table p (take k xs) m ≡ filtered table p xs m
  unfolding filtered
  filtered_taken k xs zero o = refl
  filtered_taken k xs (suc m) o = dot_same table _ _ (λ i l. ap (of_int binary32) (sample_taken k xs ((suc m + i) - 8 * p) (omega arith)))

  module _ (xs : List ℤ) (range : (k : ℕ) → T (in_range (filtered table p xs k))) where
    -- the eight values at sample n, of all the samples
    place : (n i : ℕ) → ear_of table p xs n i ≡ filtered table p xs (n - p * (7 - i))
    place n i = filtered_taken n xs (n - p * (7 - i)) (omega arith)

    ear_range : (n i : ℕ) → T (in_range (ear_of table p xs n i))
    ear_range n i = rw (place n i) (range (n - p * (7 - i)))

    pub alone_of : Alone (ear_of table p xs)
    alone_of j k n a b = let e = one_match (ear_of table p xs n) (λ i l. ear_range n i) (Frame j) (Frame k) a b in cc

    -- nine values a symbol apart, the last at n + p
    nine : ℕ → ℕ → Float
    nine n i = filtered table p xs ((n + p) - p * (8 - i))

    first_eight : (n i : ℕ) → i < 8 → ear_of table p xs n i ≡ nine n i
    unfolding nine
    first_eight n i l =
        let e : p * (8 - i) ≡ p * (7 - i) + p = ap (λ (m : ℕ). p * m) {x = 8 - i} {y = (7 - i) + 1} (omega arith) ∙ omega arith in
        place n i ∙ ap (filtered table p xs) (omega arith)

    last_eight : (n i : ℕ) → i < 8 → ear_of table p xs (n + p) i ≡ nine n (suc i)
    unfolding nine
    last_eight n i l = place (n + p) i ∙ ap (λ (m : ℕ). filtered table p xs ((n + p) - p * m)) {x = 7 - i} {y = 8 - suc i} (omega arith)

    nine_range : (n i : ℕ) → i < 9 → T (in_range (nine n i))
    unfolding nine
    nine_range n i l = range ((n + p) - p * (8 - i))

    first_match : (k : Kind) (n : ℕ) → Matches (ear_of table p xs) k n → T (matches (Frame k) (nine n))
    first_match k n m = subst T (matches_same (Frame k) (ear_of table p xs n) (nine n) (first_eight n)) m

    last_match : (k : Kind) (n : ℕ) → Matches (ear_of table p xs) k (n + p) → T (matches (Frame k) (λ i. nine n (suc i)))
    last_match k n m = subst T (matches_same (Frame k) (ear_of table p xs (n + p)) (λ i. nine n (suc i)) (last_eight n)) m

    pub again_of : NotAgain (ear_of table p xs) p
    again_of k n a b = not_again (nine n) (nine_range n) k (first_match k n a) (last_match k n b)

    pub apart_of : Apart (ear_of table p xs) p
    apart_of j k n a b = never_apart (nine n) (nine_range n) j k (first_match j n a) (last_match k n b)
