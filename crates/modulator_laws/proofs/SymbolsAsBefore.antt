-- Request c: "Nothing that was accepted is refused now, or the other way about." Assumes nothing.
use mathlib.Core.Path.{◌≡◌, refl, subst}
use mathlib.Core.Logic.{◌↔◌}
use mathlib.Core.Bool.{Bool, true, false, not, cond}
use mathlib.Core.List.{List, []}
use Prim.Native.Nat.{ℕ}
use native.Mathlib.Omega.{arith}
use lib.Dec.{T, eqb}
use lib.ListN.{length, get_or}
use lib.Ieee.{Float, nan}
use Rattle.numbers.proofs.Below.{all_below_lem, below_all}
use Rattle.numbers.proofs.Tests.{holds}
use Rattle.shaping.specs.Rate.{Rate, rate_fit}
use Rattle.protocol.specs.Refusals.{bare, placed}
use Rattle.given_symbols.specs.declared.Traffic.TheVariants.{Ordinary}
use Rattle.given_symbols.specs.Offender.{PaperVerdict, refused, fine, symbol_fit, all_fit, earlier, judged_below, headed, judged_as}
use Rattle.given_symbols.proofs.FirstOf.{FirstOf, none, first, first_of}
use Rattle.modulator.specs.declared.SoftModulator.{SoftModulator}
use Rattle.modulator.specs.declared.ModulatorFrame.TheVariants.{Symbols as GivenSymbols}
use Rattle.modulator.specs.Paper.{refusal}
use Rattle.modulator.specs.Frame.{given}
use Rattle.modulator.specs.Control.{Control}
use Rattle.modulator.specs.Record.{control_of}
use Rattle.modulator.specs.Fit.{record_fit_lem, unfit_number}
use Rattle.modulator.specs.Outcome.{Outcome, only, sends, judged_outcome, frame_outcome}
use Rattle.modulator.specs.Calls.{Left, left, unless_unfit, settled, provided}

-- what came of a frame of symbols before: 6 "symbols not exactly 192"; 7 "a symbol not a number or outside -1 to 1"
abbrev outcome_before : Bool → Bool → List Float → Control → Outcome
outcome_before counted fit symbols s = cond (not counted) (only (refusal (bare 6))) (cond (not fit) (only (refusal (bare 7))) (sends (given symbols) s.progress.tx_delay_padding.0 s.pending))

abbrev pub provided_before : Rate → SoftModulator → List Float → Left
provided_before R m symbols = unless_unfit R.p m [] (settled R m (outcome_before (eqb (length symbols) 192) (all_fit symbols) symbols (control_of m)))

-- refused for a symbol exactly where 7 was given, with record and room as then; and in all else as before
pub record AsBefore (after before : Left) : Type 0 where
  pub refused : ((number : ℕ) × (place : ℕ) × (after.answer ≡ refusal (placed number place))) ↔ (before.answer ≡ refusal (bare 7))
  pub keeps : (after.modulator ≡ before.modulator) × (after.room ≡ before.room)
  pub otherwise : (before.answer ≡ refusal (bare 7) → ⊥) → after ≡ before

-- where the answer was no refusal with 7, and is none with a place
unchanged : (l : Left) → ((number place : ℕ) → l.answer ≡ refusal (placed number place) → ⊥) → (l.answer ≡ refusal (bare 7) → ⊥) → AsBefore l l
unchanged l no_place no_seven = record {
  refused = (λ p. absurd (no_place p.0 p.1 p.2), λ e. absurd (no_seven e));
  keeps = (refl, refl);
  otherwise = λ _. refl;
}

not_seven : (fit : Bool) → ◌≡◌ {A = ℕ} (cond fit 1 15) 7 → ⊥
not_seven true e = omega arith
not_seven false e = omega arith

module _ (R : Rate) (m : SoftModulator) (symbols : List Float) where
  by_tests : (fit counted : Bool) (a : PaperVerdict) (within : Bool) → FirstOf symbols 192 a → all_fit symbols ≡ within
      → AsBefore (cond (not fit) (left (refusal (bare (unfit_number m))) m []) (settled R m (judged_outcome (cond (not counted) (refused (bare 6)) (earlier a fine)) symbols (control_of m))))
      (cond (not fit) (left (refusal (bare (unfit_number m))) m []) (settled R m (outcome_before counted within symbols (control_of m))))
  unfolding settled
  by_tests false counted a within o e = unchanged _ (λ n i r. let z : ◌≡◌ {A = ℕ} 0 1 = cc in omega arith) (λ r. let z : unfit_number m ≡ 7 = cc in not_seven (rate_fit m.rate) z)
  by_tests true false a within o e = unchanged _ (λ n i r. let z : ◌≡◌ {A = ℕ} 0 1 = cc in omega arith) (λ r. let z : ◌≡◌ {A = ℕ} 0 1 = cc in omega arith)
  by_tests true true fine true o e = unchanged _ (λ n i r. let z : ◌≡◌ {A = ℕ} 0 1 = cc in omega arith) (λ r. let z : ◌≡◌ {A = ℕ} 0 1 = cc in omega arith)
  by_tests true true fine false (none all) e = absurd (subst T e (below_all 192 (λ (i : ℕ). symbol_fit (get_or symbols i nan)) all))
  by_tests true true (refused why) true (first _ n i told l o) e = absurd (subst T o.outside (all_below_lem 192 (λ (i : ℕ). symbol_fit (get_or symbols i nan)) (holds e) i l))
  by_tests true true (refused why) false (first _ n i told l o) e = record {
    refused = (λ _. refl, λ _. (n, i, rw told));
    keeps = (refl, refl);
    otherwise = λ never. absurd (never refl);
  }

  pub symbols_as_before : AsBefore (provided R m (GivenSymbols Ordinary) symbols) (provided_before R m symbols)
  unfolding provided frame_outcome judged_as headed
  symbols_as_before = by_tests (record_fit_lem R.p m) (eqb (length symbols) 192) (judged_below 192 symbols) (all_fit symbols) (first_of symbols 192) refl
