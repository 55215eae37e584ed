-- The window that keeps each sample twice: what its halves' test says, that a store keeps it, and how the samples by their age move on. At every rate. Assumes nothing.
use mathlib.Core.Path.{◌≡◌, refl, sym, ap, ◌∙◌}
use mathlib.Core.Logic.{inl, inr}
use mathlib.Core.Bool.{Bool, true, false}
use mathlib.Core.List.{List}
use Prim.Native.Nat.{ℕ, ◌+◌, ◌%◌, ◌≤◌, ◌<◌}
use native.Mathlib.Nat.{mod-eq_of_lt, mod_self, eq-or-lt_of_le}
use native.Mathlib.Omega.{arith}
use lib.Dec.{T, eqb, eqb→eq, eqb_refl}
use lib.IntN.{ℤ, pos, negsuc}
use lib.ListN.{length, get_or, set, length-set}
use lib.Seq.{get_or-set_same, get_or-set_other}
use lib.Ieee.Bits.{is_true}
use mir.Syntax.{w16}
use mir.Val.{SFits, of_z, to_z}
use mir.Facts.{to_z-of_z}
use Rattle.numbers.proofs.Tests.{holds, lt_or_le}
use Rattle.numbers.proofs.Below.{all_below_lem, below_all}
use Rattle.shaping.specs.Rate.{Rate, tap_count, window_places}
use Rattle.demodulator.specs.declared.SoftDemodulator.{SoftDemodulator}
use Rattle.demodulator.specs.Record.{view, window_after, filtered_after, stored}
use Rattle.demodulator.specs.Fit.{same_sample, halves_agree_lem}

-- ---- the test
same_equal : (a b : ℤ) → T (same_sample a b) → a ≡ b
same_equal (pos a) (pos b) t = ap pos (eqb→eq a b t)
same_equal (pos a) (negsuc b) t = absurd t
same_equal (negsuc a) (pos b) t = absurd t
same_equal (negsuc a) (negsuc b) t = ap negsuc (eqb→eq a b t)

pub same_self : (a : ℤ) → T (same_sample a a)
same_self (pos a) = eqb_refl a
same_self (negsuc a) = eqb_refl a

-- as the code compares two numbers of 16 bits
pub same_pattern : (a b : ℤ) → SFits w16 a → SFits w16 b → eqb (of_z w16 a) (of_z w16 b) ≡ same_sample a b
same_pattern a b f g = go (eqb (of_z w16 a) (of_z w16 b)) (same_sample a b) (λ t. same t) (λ t. rw (same_equal a b t) (eqb_refl (of_z w16 b)))
  where
    same : T (eqb (of_z w16 a) (of_z w16 b)) → T (same_sample a b)
    same t = let e : a ≡ b = sym (to_z-of_z f) ∙ ap (to_z w16) (eqb→eq (of_z w16 a) (of_z w16 b) t) ∙ to_z-of_z g in rw e (same_self b)

    go : (s t : Bool) → (T s → T t) → (T t → T s) → s ≡ t
    go true true h k = refl
    go false false h k = refl
    go true false h k = absurd (h tt)
    go false true h k = absurd (k tt)

-- each sample of the first half is that of the second, n places on
abbrev pub Doubled : ℕ → List ℤ → Type 0
Doubled n w = (i : ℕ) → i < n → get_or w i (pos 0) ≡ get_or w (i + n) (pos 0)

module _ (p : ℕ) (w : List ℤ) where
  pub agree_doubled : halves_agree_lem p w ≡ true → Doubled (tap_count p) w
  unfolding halves_agree_lem
  agree_doubled e i l = same_equal _ _ (all_below_lem (tap_count p) (λ (j : ℕ). same_sample (get_or w j (pos 0)) (get_or w (j + tap_count p) (pos 0))) (holds e) i l)

  pub doubled_agree : Doubled (tap_count p) w → halves_agree_lem p w ≡ true
  unfolding halves_agree_lem
  doubled_agree twice =
      is_true _ (below_all (tap_count p) (λ (j : ℕ). same_sample (get_or w j (pos 0)) (get_or w (j + tap_count p) (pos 0)))
      (λ i l. rw (sym (twice i l)) (same_self (get_or w i (pos 0)))))

-- ---- a store
module _ (n : ℕ) (w : List ℤ) (c : ℕ) (x : ℤ) (inside : c < n) where
  abbrev after : List ℤ
  after = set (set w c x) (c + n) x

  elsewhere : (i : ℕ) → (i ≡ c → ⊥) → (i ≡ c + n → ⊥) → get_or after i (pos 0) ≡ get_or w i (pos 0)
  elsewhere i a b = get_or-set_other (set w c x) (c + n) i x (pos 0) (λ e. b e) ∙ get_or-set_other w c i x (pos 0) (λ e. a e)

  first : n + n ≤ length w → get_or after c (pos 0) ≡ x
  first long = get_or-set_other (set w c x) (c + n) c x (pos 0) (λ e. omega arith) ∙ get_or-set_same w c x (pos 0) (omega arith)

  second : n + n ≤ length w → get_or after (c + n) (pos 0) ≡ x
  second long = get_or-set_same (set w c x) (c + n) x (pos 0) (omega (arith, length-set w c x))

  apart : Doubled n w → (i : ℕ) → i < n → (i ≡ c → ⊥) → get_or after i (pos 0) ≡ get_or after (i + n) (pos 0)
  apart twice i l other = elsewhere i other (λ e. omega arith) ∙ twice i l ∙ sym (elsewhere (i + n) (λ e. omega arith) (λ e. other (omega arith)))

  twice_kept : n + n ≤ length w → Doubled n w → Doubled n after
  twice_kept long twice i l = elim (lt_or_le i c) [
    | inl k ↦ apart twice i l (λ e. omega arith)
    | inr k ↦ elim (lt_or_le c i) [
      | inl k' ↦ apart twice i l (λ e. omega arith)
      | inr k' ↦ let same : i ≡ c = omega arith in rw same (first long ∙ sym (second long))
    ]
  ]

  -- from the place after the cursor on: all but the oldest, and the new one
  next_older : (i : ℕ) → i + 1 < n → get_or after (c + 1 + i) (pos 0) ≡ get_or w (c + (i + 1)) (pos 0)
  next_older i l =
      elsewhere (c + 1 + i) (λ e. omega arith) (λ e. omega arith)
      ∙ ap (λ (k : ℕ). get_or w k (pos 0)) {x = c + 1 + i} {y = c + (i + 1)} (omega arith)

  next_newest : n + n ≤ length w → (i : ℕ) → i + 1 ≡ n → get_or after (c + 1 + i) (pos 0) ≡ x
  next_newest long i e = ap (λ (k : ℕ). get_or after k (pos 0)) {x = c + 1 + i} {y = c + n} (omega arith) ∙ second long

  -- and so from the next cursor on, which is that place or the one n before it
  turned : n + n ≤ length w → Doubled n w → (i : ℕ) → i < n → get_or after ((c + 1) % n + i) (pos 0) ≡ get_or after (c + 1 + i) (pos 0)
  turned long twice i l = elim (eq-or-lt_of_le inside) [
    | inl e ↦
        let start : (c + 1) % n ≡ 0 = ap (λ (k : ℕ). k % n) {x = c + 1} {y = n} (omega arith) ∙ mod_self n in
        ap (λ (k : ℕ). get_or after (k + i) (pos 0)) start
        ∙ ap (λ (k : ℕ). get_or after k (pos 0)) {x = 0 + i} {y = i} (omega arith)
        ∙ twice_kept long twice i l
        ∙ ap (λ (k : ℕ). get_or after k (pos 0)) {x = i + n} {y = c + 1 + i} (omega arith)
    | inr k ↦ ap (λ (k : ℕ). get_or after (k + i) (pos 0)) (mod-eq_of_lt {n = c + 1} {m = n} (omega arith))
  ]

-- ---- a record
pub stored_ring : (R : Rate) (m : SoftDemodulator) (x : ℤ) → length (stored R m x).rx_win ≡ length m.rx_win
unfolding stored
stored_ring R m x = length-set m.rx_win m.rx_cursor (filtered_after R m x)

module _ (R : Rate) (m : SoftDemodulator) (x : ℤ) (inside : m.filter_cursor < tap_count R.p) where
  abbrev n : ℕ
  n = tap_count R.p

  -- what the new filtered value is the sum of
  pub summed_older : (i : ℕ) → i + 1 < tap_count R.p → get_or (window_after R.p m x) (m.filter_cursor + 1 + i) (pos 0) ≡ view m (i + 1)
  summed_older = next_older n m.filter_win m.filter_cursor x inside

  module _ (long : window_places R.p ≤ length m.filter_win) where
    twice_long : n + n ≤ length m.filter_win
    twice_long = omega arith

    pub summed_newest : (i : ℕ) → i + 1 ≡ tap_count R.p → get_or (window_after R.p m x) (m.filter_cursor + 1 + i) (pos 0) ≡ x
    summed_newest = next_newest n m.filter_win m.filter_cursor x inside twice_long

    pub stored_long : window_places R.p ≤ length (stored R m x).filter_win
    unfolding stored
    stored_long = omega (arith, length-set (set m.filter_win m.filter_cursor x) (m.filter_cursor + n) x, length-set m.filter_win m.filter_cursor x)

    module _ (halves : halves_agree_lem R.p m.filter_win ≡ true) where
      pub stored_halves : halves_agree_lem R.p (stored R m x).filter_win ≡ true
      unfolding stored
      stored_halves = doubled_agree R.p _ (twice_kept n m.filter_win m.filter_cursor x inside twice_long (agree_doubled R.p _ halves))

      -- the samples by their age after a store are those that its sum is made of
      pub stored_view : (i : ℕ) → i < tap_count R.p → view (stored R m x) i ≡ get_or (window_after R.p m x) (m.filter_cursor + 1 + i) (pos 0)
      unfolding stored
      stored_view = turned n m.filter_win m.filter_cursor x inside twice_long (agree_doubled R.p _ halves)
