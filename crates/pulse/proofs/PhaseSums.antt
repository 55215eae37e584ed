-- A window that holds pulses only, at a rate: what the filter sees of it at each sample, and that the sample is the sum
-- over the taps that meet a pulse. Assumes nothing.
use mathlib.Core.Path.{◌≡◌, sym, ap, ◌∙◌}
use mathlib.Core.Logic.{◌⊎◌, ◌≢◌, inl, inr}
use mathlib.Core.Bool.{true, cond, ◌||◌}
use mathlib.Core.List.{List}
use Prim.Native.Nat.{ℕ, zero, suc, ◌+◌, ◌-◌, ◌*◌, ◌/◌, ◌%◌, ◌≤◌, ◌<◌}
use native.Mathlib.Nat.{div-add-mod, mod-lt, mod_self, mod-eq_of_lt, mul-add-mod_self_left, mul-le-mul_left, eq-or-lt_of_le}
use native.Mathlib.Omega.{arith}
use borrow.Author.Tests.{lt-ltb, le-ltb, ne_eqb}
use lib.Dec.{T, eqb, ltb, eqb→eq}
use lib.ListN.{length, get_or}
use lib.Ieee.{Float, nan, binary32, of_bits, eq, mul, to_signed}
use Rattle.numbers.specs.Firsts.{firsts}
use Rattle.numbers.specs.Sum.{nought, sum_to}
use Rattle.numbers.specs.Zero.{is_zero}
use Rattle.numbers.proofs.Tests.{holds, lt_or_le}
use Rattle.numbers.proofs.Below.{or_split, all_below_lem}
use Rattle.numbers.proofs.Firsts.{firsts_at}
use Rattle.numbers.proofs.Sums.{sum_same}
use Rattle.numbers.proofs.Unique.{equal_zero}
use Rattle.numbers.proofs.LeftOut.{products_leave_out}
use Rattle.shaping.specs.Rate.{Rate, tap_count}
use Rattle.shaping.specs.Sum.{dot}
use Rattle.shaping.proofs.RateFacts.{Facts}
use Rattle.shaping.proofs.Dot.{dot_same}
use Rattle.pulse.specs.Pulse.{pulses, listed, Line, after, sample_of, sample_at}
use Rattle.pulse.specs.Phases.{pulses_only, pulse_no, first_tap, first_pulse_lem, product, phase_sum, row_sample}
use Rattle.pulse.proofs.Pulses.{pulse_at, gap_at, symbol_inside}
use Rattle.pulse.proofs.View.{view, view_kept, view_entered}

-- ---- which taps meet a pulse at sample j of a symbol: from tap `first` on every p-th, 9 - lead in all
pub record Meets (p j lead first : ℕ) : Type 0 where
  pub even : first + j ≡ p * lead
  pub few : lead ≤ 1
  pub last : first + p * (8 - lead) < tap_count p
  pub past : tap_count p ≤ first + p * suc (8 - lead)
  pub before : (i : ℕ) → i < first → (0 < j + i) × (j + i < p)

pub meets : (p j : ℕ) → j < p → Meets p j (first_pulse_lem j) (first_tap p j)
meets p zero h = record { even = omega arith; few = omega arith; last = omega arith; past = omega arith; before = λ i l. absurd (omega arith) }
meets p (suc j) h = rw (ne_eqb (suc j) 0 λ e. omega arith) (record { even = omega arith; few = omega arith; last = omega arith; past = omega arith; before = λ i l. (omega arith, omega arith) })

-- a place between two pulses
between : (p u t : ℕ) → 0 < t → t < p → (p * u + (1 + t)) % p ≢ 1
between p u t some h e = elim (eq-or-lt_of_le {n = 1 + t} {m = p} (omega arith)) [
  | inl all ↦ let r = mul-add-mod_self_left p u (1 + t) in let z = ap (λ (n : ℕ). n % p) all in let y = mod_self p in omega arith
  | inr l ↦ let r = mul-add-mod_self_left p u (1 + t) in let z = mod-eq_of_lt l in omega arith
]

module _ (R : Rate) (F : Facts R) (line : Line) (symbols : List Float)
    (long : tap_count R.p ≤ length line.window) (inside : line.cursor < tap_count R.p) (only : pulses_only R.p line ≡ true)
  where
    abbrev p : ℕ
    p = R.p

    some : 0 < p
    some = let u = F.some in omega arith

    abbrev e : ℕ → Float
    e = pulses p (listed symbols)

    -- value k of what the line holds and of what enters after it
    stream : ℕ → Float
    stream k = cond (ltb k (tap_count p)) (view p line k) (e (k - tap_count p))

    view_stream : (n i : ℕ) → i < tap_count p → view p (after p e n line) i ≡ stream (n + i)
    unfolding stream
    view_stream n i l = elim (lt_or_le (n + i) (tap_count p)) [
      | inl h ↦ view_kept p e line long inside n i h ∙ rw (lt-ltb (n + i) (tap_count p) h)
      | inr h ↦ view_entered p e line long inside n i l h ∙ rw (le-ltb (n + i) (tap_count p) h)
    ]

    -- symbol u of those that enter, counted from the window's first pulse
    entered : (u t : ℕ) → t < p → tap_count p ≤ p * u + (1 + t) → (8 ≤ u) × (p * u + (1 + t) - tap_count p ≡ p * (u - 8) + t)
    entered u t h l = elim (lt_or_le u 8) [
      | inl k ↦ absurd (omega (arith, mul-le-mul_left p k))
      | inr k ↦
          let whole : p * u ≡ p * (8 + (u - 8)) = ap (λ (n : ℕ). p * n) (omega arith) in
          (k, omega arith)
    ]

    zero_there : (u t : ℕ) → 0 < t → t < p → T (is_zero (stream (p * u + (1 + t))))
    unfolding stream pulses_only
    zero_there u t more h = elim (lt_or_le (p * u + (1 + t)) (tap_count p)) [
      | inl l ↦ let k = p * u + (1 + t) in rw (lt-ltb k (tap_count p) l) (held (or_split (eqb (k % p) 1) (eq (view p line k) (of_bits binary32 0)) (all_below_lem (tap_count p) (λ (i : ℕ). eqb (i % p) 1 || eq (view p line i) (of_bits binary32 0)) (holds only) k l)))
      | inr l ↦ rw (le-ltb (p * u + (1 + t)) (tap_count p) l, (entered u t h l).1, gap_at p (listed symbols) (u - 8) t more h) (unfold is_zero of_bits in tt)
    ]
      where
        held : T (eqb ((p * u + (1 + t)) % p) 1) ⊎ T (eq (view p line (p * u + (1 + t))) (of_bits binary32 0)) → T (is_zero (view p line (p * u + (1 + t))))
        held (inl one) = absurd (between p u t more h (eqb→eq ((p * u + (1 + t)) % p) 1 one))
        held (inr none) = equal_zero (view p line (p * u + (1 + t))) (unfold of_bits in none)

    pulse_there : (u : ℕ) → u < 8 + length symbols → stream (p * u + 1) ≡ pulse_no p line symbols u
    unfolding stream pulse_no
    pulse_there u l = elim (lt_or_le u 8) [
      | inl h ↦ rw (lt-ltb u 8 h, lt-ltb (p * u + 1) (tap_count p) (omega (arith, mul-le-mul_left p h, some)))
      | inr h ↦
          let far : tap_count p ≤ p * u + 1 = omega (arith, mul-le-mul_left p h) in
          let at : p * u + 1 - tap_count p ≡ p * (u - 8) = let n = (entered u 0 some (omega arith)).1 in omega arith in
          rw (le-ltb u 8 h, le-ltb (p * u + 1) (tap_count p) far, lt-ltb (u - 8) (length symbols) (omega arith), at) (pulse_at p (listed symbols) (u - 8) some)
    ]

    -- ---- sample j of symbol s
    module _ (s j : ℕ) (below : j < p) (sent : s < length symbols) where
      M : Meets p j (first_pulse_lem j) (first_tap p j)
      M = meets p j below

      abbrev place : ℕ → ℕ
      place q = first_tap p j + p * q

      seen : ℕ → Float
      seen i = stream (suc (p * s + j) + i)

      zero_before : (i : ℕ) → i < place 0 → T (is_zero (seen i))
      unfolding seen
      zero_before i l =
          let b = M.before i (omega arith) in
          let at : suc (p * s + j) + i ≡ p * s + (1 + (j + i)) = omega arith in
          rw at (zero_there s (j + i) b.0 b.1)

      zero_between : (q i : ℕ) → place q < i → i < place (suc q) → i < tap_count p → T (is_zero (seen i))
      unfolding seen
      zero_between q i l r w =
          let lead = first_pulse_lem j in
          let at : suc (p * s + j) + i ≡ p * (s + lead + q) + (1 + (i - place q)) = let m = M.even in omega arith in
          rw at (zero_there (s + lead + q) (i - place q) (omega arith) (omega arith))

      met : (q : ℕ) → q < 9 - first_pulse_lem j → seen (place q) ≡ pulse_no p line symbols (s + (first_pulse_lem j + q))
      unfolding seen
      met q l =
          let at : suc (p * s + j) + place q ≡ p * (s + (first_pulse_lem j + q)) + 1 = let m = M.even in omega arith in
          rw at (pulse_there (s + (first_pulse_lem j + q)) (let f = M.few in omega arith))

      pub sample_sum : sample_at R e line (p * s + j)
          ≡ to_signed 15 (sum_to binary32 (λ (q : ℕ). mul binary32 (get_or R.taps (place q) nought) (pulse_no p line symbols (s + (first_pulse_lem j + q)))) (9 - first_pulse_lem j))
      unfolding sample_of dot seen
      sample_sum =
          let taps = R.taps in
          let last : ℕ = 8 - first_pulse_lem j in
          let all : suc last ≡ 9 - first_pulse_lem j = let f = M.few in omega arith in
          let whole : dot taps (view p (after p e (suc (p * s + j)) line)) ≡ dot taps seen = dot_same taps _ seen (λ i l. view_stream (suc (p * s + j)) i (rw F.number at l)) in
          let few = products_leave_out binary32 place (λ q. omega (arith, some)) (tap_count p) (λ (i : ℕ). get_or taps i nought) seen (λ i l. F.finite i (rw F.number l)) zero_before zero_between last M.last M.past in
          ap (to_signed 15)
          (whole
          ∙ ap (sum_to binary32 (λ (i : ℕ). mul binary32 (get_or taps i nought) (seen i))) F.number
          ∙ few
          ∙ ap (sum_to binary32 (λ (q : ℕ). mul binary32 (get_or taps (place q) nought) (seen (place q)))) all
          ∙ sum_same binary32 _ _ (9 - first_pulse_lem j) (λ q l. ap (mul binary32 (get_or taps (place q) nought)) (met q l)))

    -- ---- by a row of 48 symbols' pulses
    module _ (first : ℕ) (row : List Float) (row_is : row ≡ firsts (λ (i : ℕ). pulse_no p line symbols (first + i)) 56) where
      row_at : (i : ℕ) → i < 56 → get_or row i nan ≡ pulse_no p line symbols (first + i)
      row_at i l = rw row_is (firsts_at (λ (i : ℕ). pulse_no p line symbols (first + i)) 56 i nan l)

      pub row_sample_lem : (i : ℕ) → i < p * 48 → first + i / p < length symbols → row_sample R row i ≡ sample_at R e line (p * first + i)
      unfolding phase_sum
      row_sample_lem i l sent =
          let j = i % p in
          let k = i / p in
          let lead = first_pulse_lem j in
          let below : j < p = mod-lt i some in
          let inrow : k < 48 = symbol_inside p 48 i l in
          let few = (meets p j below).few in
          let cut : p * (first + k) + j ≡ p * first + i = omega (arith, div-add-mod i p) in
          let same : sum_to binary32 (product R row j k) (9 - lead) ≡ sum_to binary32 (λ (q : ℕ). mul binary32 (get_or R.taps (first_tap p j + p * q) nought) (pulse_no p line symbols (first + k + (lead + q)))) (9 - lead) =
          sum_same binary32 _ _ (9 - lead) λ q h.
          let at : first + (lead + q + k) ≡ first + k + (lead + q) = omega arith in
          ap (mul binary32 (get_or R.taps (first_tap p j + p * q) nought)) (row_at (lead + q + k) (omega arith) ∙ ap (pulse_no p line symbols) at)
          in
          ap (to_signed 15) same ∙ sym (sample_sum (first + k) j below sent) ∙ ap (sample_at R e line) cut
