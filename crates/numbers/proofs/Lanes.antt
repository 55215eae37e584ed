-- Sums that are under way side by side: term i has been added to the first j of them, and not yet to the others.
-- Assumes nothing.
use mathlib.Core.Path.{◌≡◌, refl, ◌∙◌}
use mathlib.Core.Logic.{⊎_elim}
use mathlib.Core.List.{List}
use Prim.Native.Nat.{ℕ, ◌+◌, ◌≤◌, ◌<◌}
use native.Mathlib.Nat.{eq-or-lt_of_le}
use native.Mathlib.Numerals.{add-one}
use native.Mathlib.Omega.{arith}
use lib.Dec.{lit≤, lit<}
use lib.ListN.{get_or, length, set, replicate, length-set, length-replicate, get_or-replicate}
use lib.Seq.{get_or-set_same, get_or-set_other, ext_get_or}
use lib.Ieee.{Float, Format, nan, binary32, of_bits, add}
use Rattle.numbers.specs.Firsts.{firsts}
use Rattle.numbers.specs.Sum.{sum_to}
use Rattle.numbers.proofs.Firsts.{length_firsts, firsts_at}

-- n sums of the terms t k 0, t k 1, ..
pub record Lanes (f : Format) (n : ℕ) (t : ℕ → ℕ → Float) (i j : ℕ) (sums : List Float) : Type 0 where
  pub long : length sums ≡ n
  pub done : (k : ℕ) → k < j → get_or sums k nan ≡ sum_to f (t k) (i + 1)
  pub todo : (k : ℕ) → j ≤ k → k < n → get_or sums k nan ≡ sum_to f (t k) i

module _ (n : ℕ) (t : ℕ → ℕ → Float) where
  pub lanes_start : Lanes binary32 n t 0 0 (replicate n (of_bits binary32 0))
  unfolding sum_to of_bits
  lanes_start = record { long = length-replicate n (of_bits binary32 0); done = λ k h. absurd (omega arith); todo = λ k h1 h2. get_or-replicate n k (of_bits binary32 0) nan h2 }

module _ {f : Format} {n : ℕ} {t : ℕ → ℕ → Float} {i j : ℕ} {sums : List Float} (lanes : Lanes f n t i j sums) where
  -- term i is added to sum j
  pub lanes_step : {y : Float} → j < n → y ≡ add f (get_or sums j nan) (t j i) → Lanes f n t i (j + 1) (set sums j y)
  unfolding sum_to
  lanes_step {y} h e =
      let new : get_or (set sums j y) j nan ≡ sum_to f (t j) (i + 1) = get_or-set_same sums j y nan (omega (arith, lanes.long)) ∙ e ∙ rw (add-one i, lanes.todo j (omega arith) h) in
      record {
        long = length-set sums j y ∙ lanes.long;
        done = λ k h2.
            ⊎_elim
            (λ (q : k ≡ j). rw q new)
            (λ (q : k < j). get_or-set_other sums j k y nan (λ (z : k ≡ j). omega arith) ∙ lanes.done k q)
            (eq-or-lt_of_le {n = k} {m = j} (omega arith));
        todo = λ k h1 h2. get_or-set_other sums j k y nan (λ (z : k ≡ j). omega arith) ∙ lanes.todo k (omega arith) h2;
      }

  -- all have term i: the next term's turn
  pub lanes_turn : n ≤ j → Lanes f n t (i + 1) 0 sums
  lanes_turn h = record { long = lanes.long; done = λ k l. absurd (omega arith); todo = λ k h1 h2. lanes.done k (omega arith) }

  -- between two terms
  pub lanes_sums : j ≡ 0 → sums ≡ firsts (λ (k : ℕ). sum_to f (t k) i) n
  lanes_sums z =
      let all = length_firsts (λ (k : ℕ). sum_to f (t k) i) n in
      ext_get_or nan sums _ (omega (arith, lanes.long, all)) (λ k h. let l : k < n = omega (arith, lanes.long) in lanes.todo k (omega arith) l ∙ rw (firsts_at (λ (k : ℕ). sum_to f (t k) i) n k nan l))

-- ---- an instance: one sum, and its first term
module _ (x : Float) where
  begun : List Float
  begun = replicate 1 (of_bits binary32 0)

  first_term : Lanes binary32 1 (λ _ _. x) 0 1 (set begun 0 (add binary32 (get_or begun 0 nan) x))
  unfolding begun
  first_term = lanes_step (lanes_start 1 (λ _ _. x)) (lit< tt) refl

  first_sum : set begun 0 (add binary32 (get_or begun 0 nan) x) ≡ firsts (λ (k : ℕ). sum_to binary32 (λ _. x) 1) 1
  first_sum = lanes_sums (lanes_turn first_term (lit≤ tt)) refl
