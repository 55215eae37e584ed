-- Readers that agree at the eight places give the same correlation, and six bursts can be compared from one spread. Assumes nothing.
use mathlib.Core.Path.{◌≡◌, refl, ap, ◌∙◌, fun_ext}
use mathlib.Core.List.{List, map}
use Prim.Native.Nat.{ℕ, zero, suc, ◌<◌}
use native.Mathlib.Nat.{le_refl}
use native.Mathlib.Omega.{arith}
use lib.IntN.{ℤ, pos}
use lib.ListN.{get_or, get_or-map}
use lib.Ieee.{Float, nan, binary32, add, lt}
use Rattle.numbers.proofs.Below.{any_same}
use Rattle.numbers.proofs.Sums.{sum_same}
use Rattle.protocol.specs.declared.SyncBurst.{SyncBurst}
use Rattle.protocol.specs.Bursts.{signs_of}
use Rattle.decode.specs.declared.Correlation.{Correlation}
use Rattle.decode.specs.declared.Spread.{Spread}
use Rattle.decode.specs.Correlator.{farthest, threshold, zero_unsigned, highest, lowest, gain_of, shift_of, distance_of, summed, diff_of, distances, compared, correlation, matches}
use Rattle.decode.specs.Parts.{values_of, spread_of, answer_from}

module _ (v w : ℕ → Float) where
  -- the two agree up to place n
  abbrev Agree : ℕ → Type 0
  Agree n = (i : ℕ) → i < n → v i ≡ w i

  highest_same : (n : ℕ) → Agree (suc n) → highest v n ≡ highest w n
  unfolding highest
  highest_same zero h = h 0 (le_refl 1)
  highest_same (suc n) h = rw (highest_same n (λ i l. h i (omega arith)), h (suc n) (le_refl _))

  lowest_same : (n : ℕ) → Agree (suc n) → lowest v n ≡ lowest w n
  unfolding lowest
  lowest_same zero h = h 0 (le_refl 1)
  lowest_same (suc n) h = rw (lowest_same n (λ i l. h i (omega arith)), h (suc n) (le_refl _))

  compared_same : (signs : List ℤ) (gain shift : Float) → Agree 8 → compared signs v gain shift ≡ compared signs w gain shift
  unfolding diff_of summed
  compared_same signs gain shift h =
      let same : (i : ℕ) → i < 8 → distances signs gain shift v i ≡ distances signs gain shift w i = λ i l. ap (distance_of gain shift (get_or signs i (pos 0))) (h i l) in
      rw (any_same 8 _ _ (λ i l. ap (lt farthest) (same i l)), sum_same binary32 _ _ 8 same)

pub correlation_same : (burst : SyncBurst) (v w : ℕ → Float) → ((i : ℕ) → i < 8 → v i ≡ w i) → correlation burst v ≡ correlation burst w
unfolding correlation
correlation_same burst v w h =
    let u : ℕ → Float = λ i. zero_unsigned (v i) in
    let u' : ℕ → Float = λ i. zero_unsigned (w i) in
    let e : (i : ℕ) → i < 8 → u i ≡ u' i = λ i l. ap zero_unsigned (h i l) in
    rw (highest_same u u' 7 e, lowest_same u u' 7 e) (compared_same u u' (signs_of burst) (gain_of (highest u' 7) (lowest u' 7)) (shift_of (highest u' 7) (lowest u' 7)) e)

pub matches_same : (burst : SyncBurst) (v w : ℕ → Float) → ((i : ℕ) → i < 8 → v i ≡ w i) → matches burst v ≡ matches burst w
unfolding matches
matches_same burst v w h = ap (λ (c : Correlation). lt c.diff threshold) (correlation_same burst v w h)

-- ---- a list's values with their zeros unsigned, by their places
nan_unsigned : zero_unsigned nan ≡ nan
unfolding zero_unsigned add
nan_unsigned = refl

pub unsigned_values : (vs : List Float) → values_of (map zero_unsigned vs) ≡ (λ (i : ℕ). zero_unsigned (values_of vs i))
unsigned_values vs = fun_ext (λ (i : ℕ). rw nan_unsigned at (get_or-map zero_unsigned vs i nan))

-- compared from the spread that the six bursts share, each is its own correlation
pub six_alike : (burst : SyncBurst) (vs us : List Float) (s : Spread) (r : Correlation) → us ≡ map zero_unsigned vs → s ≡ spread_of (values_of us) → r ≡ answer_from burst (values_of us) s → r ≡ correlation burst (values_of vs)
unfolding correlation
six_alike burst vs us s r p q e =
    e ∙ ap (answer_from burst (values_of us)) q ∙ ap (λ (v : ℕ → Float). answer_from burst v (spread_of v)) (ap values_of p ∙ unsigned_values vs)
