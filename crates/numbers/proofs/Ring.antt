-- A ring into which a value is stored at the cursor, which then moves on: one law for every length, and for a list that is longer than the ring. Assumes nothing.
use mathlib.Core.Path.{◌≡◌, sym, ap, ◌∙◌}
use mathlib.Core.Logic.{◌≢◌, inl, inr}
use mathlib.Core.List.{List}
use Prim.Native.Nat.{ℕ, suc, ◌+◌, ◌-◌, ◌%◌, ◌<◌, ◌≤◌}
use native.Mathlib.Nat.{mod-add-mod, mod-eq_of_lt, mod-eq-sub-mod, add-mod_right, mod-lt, eq-or-lt_of_le}
use native.Mathlib.Omega.{arith}
use lib.ListN.{get_or, length, set, length-set}
use lib.Seq.{get_or-set_same, get_or-set_other}
use Rattle.numbers.proofs.Tests.{lt_or_le}

module _ {A : Type 0} where
  -- place i of the ring w, counted from the cursor c
  abbrev pub read : ℕ → A → List A → ℕ → ℕ → A
  read N d w c i = get_or w ((c + i) % N) d

  -- the ring holds the last N of f 1, .. f n, the oldest at the cursor; f 0 stands for what lies before the first
  pub record Recent (N : ℕ) (d : A) (f : ℕ → A) (n : ℕ) (w : List A) (c : ℕ) : Type 0 where
    pub long : N ≤ length w
    pub inside : c < N
    pub holds : (i : ℕ) → i < N → read N d w c i ≡ f ((n + i + 1) - N)

-- ---- places
-- a place that is j further round, below a whole turn, is another place
elsewhere : (N c j : ℕ) → c < N → 0 < j → j < N → (c + j) % N ≢ c
elsewhere N c j hc h0 hj e = elim (lt_or_le (c + j) N) [
  | inl l ↦ let m = mod-eq_of_lt l in omega arith
  | inr g ↦ let m = mod-eq-sub-mod g in let k = mod-eq_of_lt {n = c + j - N} {m = N} (omega arith) in omega arith
]

-- ---- values
module _ {A : Type 0} (N : ℕ) (d : A) (w : List A) (c : ℕ) (x : A) (inside : c < N) where
  shift : (i : ℕ) → ((c + 1) % N + i) % N ≡ (c + (i + 1)) % N
  shift i = mod-add-mod (c + 1) N i ∙ ap (λ (k : ℕ). k % N) (omega arith)

  pub older : (i : ℕ) → i + 1 < N → read N d (set w c x) ((c + 1) % N) i ≡ read N d w c (i + 1)
  older i h = rw (shift i) (get_or-set_other w c ((c + (i + 1)) % N) x d (elsewhere N c (i + 1) inside (omega arith) h))

  pub newest : N ≤ length w → (i : ℕ) → i + 1 ≡ N → read N d (set w c x) ((c + 1) % N) i ≡ x
  newest long i h =
      let back : (c + (i + 1)) % N ≡ c = rw h (add-mod_right c N ∙ mod-eq_of_lt inside) in
      rw (shift i, back) (get_or-set_same w c x d (omega arith))

-- ---- the law: where g goes on from f and its next is x, storing x makes of a ring that holds the last of f one that holds the last of g
module _ {A : Type 0} (N : ℕ) (d : A) (f g : ℕ → A) (n : ℕ) (w : List A) (c : ℕ) (x : A) (r : Recent N d f n w c) where
  pub push : ((k : ℕ) → k ≤ n → g k ≡ f k) → g (suc n) ≡ x → Recent N d g (suc n) (set w c x) ((c + 1) % N)
  push old new = record {
    long = rw (length-set w c x) r.long;
    inside = mod-lt (c + 1) (let l = r.inside in omega arith);
    holds = λ i h. elim (eq-or-lt_of_le h) [
      | inl e ↦ newest N d w c x r.inside r.long i (omega arith) ∙ sym (ap g {x = (suc n + i + 1) - N} {y = suc n} (omega arith) ∙ new)
      | inr l ↦
          older N d w c x r.inside i (omega arith)
          ∙ r.holds (i + 1) (omega arith)
          ∙ sym (ap g {x = (suc n + i + 1) - N} {y = (n + (i + 1) + 1) - N} (omega arith) ∙ old ((n + (i + 1) + 1) - N) (omega arith))
    ];
  }

-- ---- the same by age, the newest 0
module _ {A : Type 0} (N : ℕ) (d : A) (w : List A) (c : ℕ) (x : A) (inside : c < N) where
  pub newest_back : N ≤ length w → read N d (set w c x) ((c + 1) % N) ((N - 1) - 0) ≡ x
  newest_back long = newest N d w c x inside long ((N - 1) - 0) (omega arith)

  pub older_back : (j : ℕ) → j + 1 < N → read N d (set w c x) ((c + 1) % N) ((N - 1) - (j + 1)) ≡ read N d w c ((N - 1) - j)
  older_back j l = older N d w c x inside ((N - 1) - (j + 1)) (omega arith) ∙ ap (read N d w c) {x = ((N - 1) - (j + 1)) + 1} {y = (N - 1) - j} (omega arith)

module _ {A : Type 0} (N : ℕ) (d : A) (f : ℕ → A) (n : ℕ) (w : List A) (c : ℕ) where
  pub by_age : Recent N d f n w c → (j : ℕ) → j < N → read N d w c ((N - 1) - j) ≡ f (n - j)
  by_age r j l = r.holds ((N - 1) - j) (omega arith) ∙ ap f {x = (n + ((N - 1) - j) + 1) - N} {y = n - j} (omega arith)

  pub from_ages : N ≤ length w → c < N → ((j : ℕ) → j < N → read N d w c ((N - 1) - j) ≡ f (n - j)) → Recent N d f n w c
  from_ages long inside h = record {
    long = long;
    inside = inside;
    holds = λ i l.
        ap (read N d w c) {x = i} {y = (N - 1) - ((N - 1) - i)} (omega arith)
        ∙ h ((N - 1) - i) (omega arith)
        ∙ ap f {x = n - ((N - 1) - i)} {y = (n + i + 1) - N} (omega arith);
  }
