-- The samples of a stream of symbols, one stretch after the other. Assumes nothing.
use mathlib.Core.Path.{◌≡◌, sym, ap, ◌∙◌}
use mathlib.Core.List.{List, [], ◌++◌, append_assoc}
use Prim.Native.Nat.{ℕ, ◌+◌, ◌*◌, ◌<◌}
use native.Mathlib.Omega.{arith}
use lib.IntN.{ℤ}
use lib.ListN.{length, length-append}
use lib.Ieee.{Float}
use Rattle.numbers.specs.Firsts.{firsts}
use Rattle.numbers.proofs.Firsts.{length_firsts, firsts_same, firsts_cut}
use Rattle.shaping.specs.Rate.{at48}
use Rattle.shaping.proofs.RateFacts.{facts48}
use Rattle.modulator_run.specs.Stream.{sent_at}
use Rattle.modulator_run.proofs.Longer.{sent_old}
use Rattle.sending.specs.Text.{stream_samples}

-- the samples of the symbols `ys` that are sent after `xs`
unfoldable pub samples_behind : List Float → List Float → List ℤ
samples_behind xs ys = firsts (λ (i : ℕ). sent_at at48 (xs ++ ys) (10 * length xs + i + 1)) (10 * length ys)

pub samples_number : (xs ys : List Float) → length (samples_behind xs ys) ≡ 10 * length ys
unfolding samples_behind
samples_number xs ys = length_firsts _ (10 * length ys)

-- a stream from its start
pub samples_from_start : (ys : List Float) → samples_behind [] ys ≡ stream_samples ys
unfolding samples_behind stream_samples
samples_from_start ys =
    firsts_same _ _ (10 * length ys) λ i l.
    let same : 10 * length {A = Float} [] + i + 1 ≡ i + 1 = omega arith in
    ap (sent_at at48 ys) same

module _ (xs ys zs : List Float) where
  abbrev at : ℕ → ℤ
  at i = sent_at at48 (xs ++ (ys ++ zs)) (10 * length xs + i + 1)

  -- what is sent does not depend on what follows
  first : (i : ℕ) → i < 10 * length ys → at i ≡ sent_at at48 (xs ++ ys) (10 * length xs + i + 1)
  first i l =
      ap (λ (s : List Float). sent_at at48 s (10 * length xs + i + 1)) (sym (append_assoc xs ys zs))
      ∙ sent_old at48 facts48 (xs ++ ys) zs (10 * length xs + i + 1) (omega (arith, length-append xs ys))

  second : (i : ℕ) → i < 10 * length zs → at (10 * length ys + i) ≡ sent_at at48 ((xs ++ ys) ++ zs) (10 * length (xs ++ ys) + i + 1)
  second i l =
      let same : 10 * length xs + (10 * length ys + i) + 1 ≡ 10 * length (xs ++ ys) + i + 1 = omega (arith, length-append xs ys) in
      ap (sent_at at48 (xs ++ (ys ++ zs))) same ∙ ap (λ (s : List Float). sent_at at48 s (10 * length (xs ++ ys) + i + 1)) (sym (append_assoc xs ys zs))

  pub samples_two : samples_behind xs (ys ++ zs) ≡ samples_behind xs ys ++ samples_behind (xs ++ ys) zs
  unfolding samples_behind
  samples_two =
      let size : 10 * length (ys ++ zs) ≡ 10 * length ys + 10 * length zs = omega (arith, length-append ys zs) in
      ap (firsts at) size
      ∙ firsts_cut at (10 * length ys) (10 * length zs)
      ∙ ap (λ (l : List ℤ). l ++ firsts (λ (j : ℕ). at (10 * length ys + j)) (10 * length zs)) (firsts_same _ _ (10 * length ys) first)
      ∙ ap (λ (l : List ℤ). samples_behind xs ys ++ l) (firsts_same _ _ (10 * length zs) second)
