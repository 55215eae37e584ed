-- What the laws need of a rate, and that both have it: one computation over a table for each fact. Assumes nothing.
use mathlib.Core.Path.{◌≡◌, refl, sym, subst, ap, ◌∙◌}
use mathlib.Core.Logic.{◌⊎◌, inl, inr, ⊎_elim}
use mathlib.Core.Bool.{Bool, true, false, cond}
use Rattle.std.specs.Prelude.{Option, Some, None}
use mathlib.Core.List.{reverse}
use Prim.Native.Nat.{ℕ, suc, ◌-◌, ◌*◌, ◌≤◌, ◌<◌}
use native.Mathlib.Nat.{eq-or-lt_of_le}
use native.Mathlib.Omega.{arith}
use borrow.Author.Tests.{ne_eqb}
use lib.Dec.{T, eqb, eqb→eq, lit≤, lit<}
use lib.ListN.{length, get_or}
use lib.Ieee.{of_bits}
use Rattle.numbers.specs.Below.{all_below}
use Rattle.numbers.specs.Firsts.{firsts}
use Rattle.numbers.specs.Sum.{nought, total_to}
use Rattle.numbers.specs.Within.{reach}
use Rattle.numbers.proofs.Below.{or_split}
use Rattle.numbers.proofs.Tests.{holds}
use Rattle.shaping.specs.Taps.{taps, even_taps}
use Rattle.shaping.specs.Rate.{Rate, Known, rate_at, at48, at24, rate_fit, samples_in_lem, rate_of, per_second, tap_count, PerSymbolOfSays}
use Rattle.shaping.specs.Reach.{Finite, sum_reach}
use Rattle.shaping.specs.Phase.{full_symbol, sample_limit, phases_fit}
use Rattle.shaping.proofs.Mirror.{mirrored_at}
use Rattle.shaping.proofs.Table.{taps_number, taps_finite, taps_symmetric, even_taps_number, even_taps_finite, even_taps_symmetric}

pub record Facts (R : Rate) : Type 0 where
  pub known : Known R.p
  pub own : rate_at R.p ≡ R
  -- a symbol has more than one sample, and no more than at 48 kHz, for which the records' arrays are made
  pub some : 2 ≤ R.p
  pub few : R.p ≤ at48.p
  pub number : length R.taps ≡ tap_count R.p
  pub finite : Finite R.taps
  pub symmetric : reverse R.taps ≡ R.taps
  -- samples of 16 bits come to a million at most
  pub reach : sum_reach R.taps (λ _. 32768) ≤ 1000000
  -- whole symbols come to 16,383 at most, at each phase
  pub phases : T (phases_fit R.taps R.p full_symbol sample_limit)

pub facts48 : Facts at48
facts48 = record {
  known = (lit≤ tt, lit≤ tt, refl);
  own = refl;
  some = lit≤ tt;
  few = lit≤ tt;
  number = taps_number;
  finite = taps_finite;
  symmetric = taps_symmetric;
  reach = unfold taps sum_reach total_to reach of_bits in lit≤ tt;
  phases = unfold taps phases_fit all_below sum_reach total_to reach of_bits in tt;
}

pub facts24 : Facts at24
facts24 = record {
  known = (lit≤ tt, lit≤ tt, refl);
  own = refl;
  some = lit≤ tt;
  few = lit≤ tt;
  number = even_taps_number;
  finite = even_taps_finite;
  symmetric = even_taps_symmetric;
  reach = unfold even_taps firsts taps sum_reach total_to reach of_bits in lit≤ tt;
  phases = unfold even_taps firsts taps phases_fit all_below sum_reach total_to reach of_bits in tt;
}

-- ---- either of the two
pub two : (p : ℕ) → Known p → (p ≡ 10) ⊎ (p ≡ 5)
two p k = ⊎_elim (λ (e : p ≡ 10). inl e) (λ (l : p < 10). inr (omega arith)) (eq-or-lt_of_le k.1)

pub facts : (p : ℕ) → Known p → Facts (rate_at p)
facts p k = ⊎_elim (λ (e : p ≡ 10). subst (λ (n : ℕ). Facts (rate_at n)) (sym e) facts48) (λ (e : p ≡ 5). subst (λ (n : ℕ). Facts (rate_at n)) (sym e) facts24) (two p k)

-- which table a function picks
pub table_48 : (p : ℕ) → p ≡ 10 → taps ≡ (rate_at p).taps
table_48 p e = rw e

pub table_other : (p : ℕ) → (p ≡ 10 → ⊥) → even_taps ≡ (rate_at p).taps
table_other p other = rw (ne_eqb p 10 other)

pub table_24 : (p : ℕ) → Known p → (p ≡ 10 → ⊥) → even_taps ≡ (rate_at p).taps
table_24 p k other = table_other p other

-- ---- by the samples a second
pub two_rates : (rate : ℕ) → rate_fit rate ≡ true → (rate ≡ 48000) ⊎ (rate ≡ 24000)
two_rates rate fit = ⊎_elim (λ t. inl (eqb→eq rate 48000 t)) (λ t. inr (eqb→eq rate 24000 t)) (or_split (eqb rate 48000) (eqb rate 24000) (holds fit))

pub rate_known : (rate : ℕ) → rate_fit rate ≡ true → Known (samples_in_lem rate)
rate_known rate fit = ⊎_elim (λ (e : rate ≡ 48000). rw e facts48.known) (λ (e : rate ≡ 24000). rw e facts24.known) (two_rates rate fit)

pub rate_facts : (rate : ℕ) → rate_fit rate ≡ true → Facts (rate_of rate)
rate_facts rate fit = facts (samples_in_lem rate) (rate_known rate fit)

-- what is known of a rate once its samples a symbol are asked for
pub per_symbol_some : (rate p : ℕ) (r : Option ℕ) → PerSymbolOfSays rate r → r ≡ Some p → (rate_fit rate ≡ true) × (p ≡ samples_in_lem rate)
per_symbol_some rate p r says e = by_test (rate_fit rate) (sym says ∙ e)
  where
    by_test : (b : Bool) → cond b (Some (samples_in_lem rate)) None ≡ Some p → (b ≡ true) × (p ≡ samples_in_lem rate)
    by_test true e = (refl, cc)
    by_test false e = cc

pub per_symbol_none : (rate : ℕ) (r : Option ℕ) → PerSymbolOfSays rate r → r ≡ None → rate_fit rate ≡ false
per_symbol_none rate r says e = by_test (rate_fit rate) (sym says ∙ e)
  where
    by_test : (b : Bool) → cond b (Some (samples_in_lem rate)) None ≡ None → b ≡ false
    by_test true e = cc
    by_test false e = refl

module _ (R : Rate) (F : Facts R) where
  pub own_rate : rate_of (per_second R.p) ≡ R
  own_rate =
      let back : samples_in_lem (per_second R.p) ≡ R.p = omega arith in
      ap rate_at back ∙ F.own

  pub own_fit : rate_fit (per_second R.p) ≡ true
  own_fit = ⊎_elim (λ (e : R.p ≡ 10). rw e) (λ (e : R.p ≡ 5). rw e) (two R.p F.known)

  -- a tap and its mirror image
  pub mirrored : (i : ℕ) → i < tap_count R.p → get_or R.taps i nought ≡ get_or R.taps (8 * R.p - i) nought
  mirrored i h =
      mirrored_at nought R.taps F.symmetric i (rw F.number h)
      ∙ ap (λ (n : ℕ). get_or R.taps n nought) {x = length R.taps - suc i} {y = 8 * R.p - i} (omega (arith, F.number))

-- they can be met
mirrored_third : get_or taps 3 nought ≡ get_or taps 77 nought
mirrored_third = mirrored at48 facts48 3 (lit< tt)

mirrored_even : get_or even_taps 3 nought ≡ get_or even_taps 37 nought
mirrored_even = mirrored at24 facts24 3 (lit< tt)

facts_meet : Facts (rate_of 24000)
facts_meet = rate_facts 24000 refl
