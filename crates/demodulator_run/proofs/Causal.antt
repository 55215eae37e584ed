-- One more sample: F of those before it stays, and its own F is the tap sum of the window. Over p and a table of 8p + 1 taps at most. Assumes nothing.
use mathlib.Core.Path.{◌≡◌, refl, sym, ap, ◌∙◌}
use mathlib.Core.List.{List, [], ◌∷◌, ◌++◌}
use Prim.Native.Nat.{ℕ, zero, suc, ◌+◌, ◌-◌, ◌*◌, ◌<◌, ◌≤◌}
use native.Mathlib.Nat.{lt_of_lt_of_le}
use lib.IntN.{ℤ, pos}
use lib.ListN.{length, get_or-append}
use lib.Seq.{get_or-append_seam, take_at}
use lib.Ieee.{Float, binary32, of_int}
use Rattle.shaping.specs.Rate.{tap_count}
use Rattle.shaping.specs.Sum.{dot}
use Rattle.shaping.proofs.Dot.{dot_same}
use Rattle.demodulator_run.specs.Filter.{sample_no_lem, filtered}
use Rattle.demodulator_run.proofs.EarLaws.{filtered_taken}

-- ---- the samples once one more is admitted
module _ (xs : List ℤ) (x : ℤ) where
  pub sample_old : (k : ℕ) → k ≤ length xs → sample_no_lem (xs ++ (x ∷ [])) k ≡ sample_no_lem xs k
  unfolding sample_no_lem
  sample_old zero h = refl
  sample_old (suc k) h = get_or-append xs (x ∷ []) (pos 0) k h

  pub sample_new : sample_no_lem (xs ++ (x ∷ [])) (suc (length xs)) ≡ x
  unfolding sample_no_lem
  sample_new = get_or-append_seam xs x [] (pos 0)

-- ---- F
module _ (table : List Float) (p : ℕ) (size : length table ≤ tap_count p) where
  pub filtered_old : (xs : List ℤ) (x : ℤ) (k : ℕ) → k ≤ length xs → filtered table p (xs ++ (x ∷ [])) k ≡ filtered table p xs k
  filtered_old xs x k h =
      sym (filtered_taken table p size (length xs) (xs ++ (x ∷ [])) k h) ∙ ap (λ (zs : List ℤ). filtered table p zs k) (take_at xs (x ∷ []) (length xs) refl)

  -- F at the next sample, from a window of the last 8p + 1 samples, the oldest 0
  pub filtered_window : (xs : List ℤ) (n : ℕ) (w : ℕ → ℤ) → ((i : ℕ) → i < tap_count p → w i ≡ sample_no_lem xs ((suc n + i) - 8 * p))
      → filtered table p xs (suc n) ≡ dot table (λ (i : ℕ). of_int binary32 (w i))
  unfolding filtered
  filtered_window xs n w h = dot_same table _ _ (λ i l. ap (of_int binary32) (sym (h i (lt_of_lt_of_le l size))))
