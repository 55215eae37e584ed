-- The figures of a recording, by the record and by the rules; they are fit. Assumes nothing.
use Rattle.std.specs.Prelude.{None}
use mathlib.Core.Path.{◌≡◌, refl, ap, ◌∙◌}
use mathlib.Core.Logic.{inl, inr}
use mathlib.Core.Bool.{Bool, true, not, ◌&&◌}
use mathlib.Core.List.{List, [], ◌∷◌}
use Prim.Native.Nat.{ℕ, ◌+◌, ◌^◌, ◌≤◌}
use native.Mathlib.Omega.{arith}
use lib.IntN.{ℤ}
use lib.ListN.{length}
use mir.Syntax.{w16}
use mir.Val.{SFits}
use Rattle.machine.specs.Runs.{Each}
use Rattle.shaping.specs.Rate.{Rate, rate_fit, samples_in_lem, rate_of, per_second}
use Rattle.shaping.proofs.RateFacts.{Facts, two_rates, rate_facts}
use Rattle.search.specs.declared.Control.{Control}
use Rattle.demodulator.specs.declared.SoftDemodulator.{SoftDemodulator}
use Rattle.demodulator.specs.Calls.{is_refusal, timer_held}
use Rattle.demodulator.specs.Singles.{Said}
use Rattle.demodulator.specs.Record.{fresh}
use Rattle.demodulator_run.specs.Rules.{History, start}
use Rattle.demodulator_run.specs.Run.{fresh_at}
use Rattle.demodulator_run.proofs.Whole.{Stands, stands_start}
use Rattle.listening.specs.Listener.{Rule, Listed, listener, offers, own_record}
use Rattle.listening.specs.Verdict.{verdict}
use Rattle.listening.specs.Rules.{rules_at}
use Rattle.listening.proofs.Agreement.{listens, same_offers}
use Rattle.figures.specs.Totals.{no_figures_lem, totals_fit, gains_fit, figures_fit}
use Rattle.figures.specs.FullList.{bit, held_from, record_held, history_held, after, figures_of, record_figures}
use Rattle.figures.proofs.TotalLaws.{fits_all}
use Rattle.figures.proofs.OfferGains.{offers_within, gains_from}
use Rattle.figures.proofs.FigureParts.{figures_most}

module _ (R : Rate) (F : Facts R) (rule : Rule) where
  -- the carrier is held after the same samples
  pub held_agree : (xs : List ℤ) → Each (SFits w16) xs → (m : SoftDemodulator) (h : History) → Stands R F m h
      → held_from own_record record_held rule m xs ≡ held_from (rules_at R) history_held rule h xs
  unfolding held_from Each
  held_agree [] g m h s = refl
  held_agree (x ∷ xs) g m h s =
      let L = listener own_record rule in
      let K = listener (rules_at R) rule in
      let there : Stands R F (L.next m x) (K.next h x) = (listens R F rule).related m h s x g.0 in
      let said : L.says m x ≡ K.says h x = (listens R F rule).alike m h s x g.0 in
      let timer : record_held (L.next m x) ≡ history_held (K.next h x) = ap (λ (c : Control). timer_held c.dcd) there.represents.control in
      ap (λ (a : Said). bit (not (is_refusal a.answer) && record_held (L.next m x)) + held_from own_record record_held rule (L.next m x) xs) said
      ∙ ap (λ (t : Bool). bit (not (is_refusal (K.says h x).answer) && t) + held_from own_record record_held rule (L.next m x) xs) timer
      ∙ ap (λ (n : ℕ). bit (not (is_refusal (K.says h x).answer) && history_held (K.next h x)) + n) (held_agree xs g.1 (L.next m x) (K.next h x) there)

  pub held_same : (xs : List ℤ) → Each (SFits w16) xs
      → held_from own_record record_held rule (fresh_at R) xs ≡ held_from (rules_at R) history_held rule start xs
  held_same xs g = held_agree xs g (fresh_at R) start (stands_start R F)

own_rate : (rate : ℕ) → rate_fit rate ≡ true → rate ≡ per_second (samples_in_lem rate)
own_rate rate fit = elim (two_rates rate fit) [ inl e ↦ rw e | inr e ↦ rw e ]

pub figures_agree : (rate : ℕ) → rate_fit rate ≡ true → (xs : List ℤ) → Each (SFits w16) xs
    → record_figures no_figures_lem (fresh rate) xs ≡ figures_of (rate_of rate) xs
unfolding record_figures figures_of
figures_agree rate fit xs g =
    ap (λ (r : ℕ). after no_figures_lem (offers own_record verdict (fresh r) xs) (held_from own_record record_held verdict (fresh r) xs)) (own_rate rate fit)
    ∙ ap (λ (l : List Listed). after no_figures_lem l (held_from own_record record_held verdict (fresh_at (rate_of rate)) xs)) (same_offers (rate_of rate) (rate_facts rate fit) verdict xs g)
    ∙ ap (after no_figures_lem (offers (rules_at (rate_of rate)) verdict start xs)) (held_same (rate_of rate) (rate_facts rate fit) verdict xs g)

-- ---- they are fit
module _ (rate : ℕ) (fit : rate_fit rate ≡ true) (xs : List ℤ) (g : Each (SFits w16) xs) where
  abbrev R : Rate
  R = rate_of rate

  pub gains_within : gains_fit (figures_of (rate_of rate) xs).smallest (figures_of (rate_of rate) xs).largest ≡ true
  unfolding figures_of after
  gains_within =
      gains_from (offers (rules_at R) verdict start xs) (offers_within R (rate_facts rate fit) verdict xs g (fresh_at R) start (stands_start R (rate_facts rate fit))) None None refl

  pub totals_within : length xs ≤ 2 ^ 63 → totals_fit (figures_of (rate_of rate) xs).totals ≡ true
  unfolding figures_of
  totals_within few = fits_all _ (λ i l. omega (arith, figures_most (rules_at R) history_held verdict start xs i l))

  pub figures_fit_lem : length xs ≤ 2 ^ 63 → figures_fit (figures_of (rate_of rate) xs) ≡ true
  figures_fit_lem few = rw (totals_within few, gains_within)
