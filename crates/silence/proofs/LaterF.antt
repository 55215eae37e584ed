-- F of samples that follow silence is F of these samples alone, and before them it is 0.0: the last 192p values are those of a fresh start.
-- Over p and a finite table of 8p + 1 taps at most. Assumes nothing.
use mathlib.Core.Path.{◌≡◌, refl, sym, ap, ◌∙◌, subst}
use mathlib.Core.Logic.{inl, inr}
use mathlib.Core.List.{List, ◌++◌}
use Prim.Native.Nat.{ℕ, zero, suc, ◌+◌, ◌-◌, ◌*◌, ◌≤◌, ◌<◌}
use native.Mathlib.Nat.{lt_of_lt_of_le}
use native.Mathlib.Omega.{arith}
use lib.IntN.{ℤ, pos}
use lib.ListN.{length, length-append, get_or-append}
use lib.Seq.{get_or-append-add}
use lib.Ieee.{Float, binary32, of_int}
use Rattle.numbers.specs.Sum.{nought}
use Rattle.numbers.proofs.Tests.{lt_or_le}
use Rattle.shaping.specs.Rate.{tap_count}
use Rattle.shaping.specs.Reach.{Finite}
use Rattle.shaping.proofs.Dot.{dot_same}
use Rattle.demodulator_run.specs.Filter.{sample_no_lem, filtered, ago}
use Rattle.silence.proofs.ZeroF.{ZeroFrom, filtered_zero}

module _ (pre zs : List ℤ) where
  sample_front : (k : ℕ) → k ≤ length pre → sample_no_lem (pre ++ zs) k ≡ sample_no_lem pre k
  unfolding sample_no_lem
  sample_front zero l = refl
  sample_front (suc k) l = get_or-append pre zs (pos 0) k l

  sample_back : (k : ℕ) → 0 < k → sample_no_lem (pre ++ zs) (length pre + k) ≡ sample_no_lem zs k
  unfolding sample_no_lem
  sample_back zero l = absurd (omega arith)
  sample_back (suc k) l =
      let e : length pre + suc k ≡ suc (length pre + k) = omega arith in
      ap (sample_no_lem (pre ++ zs)) e ∙ get_or-append-add pre zs k (pos 0)

module _ (table : List Float) (p : ℕ) (size : length table ≤ tap_count p) (fine : Finite table)
    (pre : List ℤ) (since : ℕ) (long : since + 200 * p ≤ length pre) (z : ZeroFrom since (length pre) pre) (zs : List ℤ) where
  both : ZeroFrom since (length pre) (pre ++ zs)
  both k l u = sample_front pre zs k u ∙ z k l u

  summed_later : (k i : ℕ) → 0 < k → sample_no_lem (pre ++ zs) ((length pre + k + i) - 8 * p) ≡ sample_no_lem zs ((k + i) - 8 * p)
  summed_later k i some = elim (lt_or_le (8 * p) (k + i)) [
    | inl l ↦
        let e : (length pre + k + i) - 8 * p ≡ length pre + ((k + i) - 8 * p) = omega arith in
        ap (sample_no_lem (pre ++ zs)) e ∙ sample_back pre zs ((k + i) - 8 * p) (omega arith)
    | inr l ↦
        let none : (k + i) - 8 * p ≡ 0 = omega arith in
        both ((length pre + k + i) - 8 * p) (omega arith) (omega arith) ∙ sym (ap (sample_no_lem zs) none ∙ first)
  ]
    where
      first : sample_no_lem zs 0 ≡ pos 0
      first = unfold sample_no_lem in refl

  filtered_later : (k : ℕ) → 0 < k → filtered table p (pre ++ zs) (length pre + k) ≡ filtered table p zs k
  unfolding filtered
  filtered_later zero l = absurd (omega arith)
  filtered_later (suc k) l =
      let e : length pre + suc k ≡ suc (length pre + k) = omega arith in
      ap (filtered table p (pre ++ zs)) e
      ∙ dot_same table _ _ (λ i m. ap (of_int binary32) (ap (λ (n : ℕ). sample_no_lem (pre ++ zs) ((n + i) - 8 * p)) (sym e) ∙ summed_later (suc k) i l))

  pub ago_later : (j : ℕ) → j < 192 * p → ago table p (pre ++ zs) j ≡ ago table p zs j
  ago_later j l =
      let all = length-append pre zs in
      elim (lt_or_le j (length zs)) [
        | inl u ↦
            let e : length (pre ++ zs) - j ≡ length pre + (length zs - j) = omega arith in
            ap (filtered table p (pre ++ zs)) e ∙ filtered_later (length zs - j) (omega arith)
        | inr u ↦
            let none : length zs - j ≡ 0 = omega arith in
            filtered_zero table p size fine (pre ++ zs) since (length pre) (length (pre ++ zs) - j) both (omega arith) (omega arith) ∙ sym (ap (filtered table p zs) none ∙ begins)
      ]
    where
      begins : filtered table p zs 0 ≡ nought
      begins = unfold filtered in refl
