-- Request c: a frame of symbols is refused for its first symbol that is not within -1 to 1, with that symbol's number and place. Assumes nothing.
use mathlib.Core.Path.{◌≡◌, refl, sym, subst}
use mathlib.Core.Logic.{◌↔◌}
use mathlib.Core.Bool.{Bool, true, false, not, cond}
use mathlib.Core.List.{List, []}
use Prim.Native.Nat.{ℕ, ◌<◌}
use native.Mathlib.Omega.{arith}
use borrow.Author.Tests.{eqb-true, eq-eqb}
use lib.Dec.{T, eqb}
use lib.ListN.{length}
use lib.Ieee.{Float}
use Rattle.shaping.specs.Rate.{Rate}
use Rattle.protocol.specs.Refusals.{bare, placed}
use Rattle.given_symbols.specs.declared.Traffic.{Traffic}
use Rattle.given_symbols.specs.Offender.{PaperVerdict, refused, fine, earlier, judged_below, headed, judged_as}
use Rattle.given_symbols.proofs.FirstOf.{Offends, FirstOf, none, first, first_of, one_offender}
use Rattle.modulator.specs.declared.SoftModulator.{SoftModulator}
use Rattle.modulator.specs.declared.ModulatorFrame.TheVariants.{Symbols as GivenSymbols}
use Rattle.modulator.specs.Paper.{Paper, refusal}
use Rattle.modulator.specs.Record.{control_of}
use Rattle.modulator.specs.Fit.{record_fit_lem, unfit_number}
use Rattle.modulator.specs.Outcome.{judged_outcome, frame_outcome}
use Rattle.modulator.specs.Calls.{left, settled, provided}

-- ---- a call: 15, 1 and 6 come before, then "the earliest place decides"
module _ (R : Rate) (m : SoftModulator) (traffic : Traffic) (symbols : List Float) where
  pub record FirstOffender (number place : ℕ) : Type 0 where
    pub fit : record_fit_lem R.p m ≡ true
    pub count : length symbols ≡ 192
    pub inside : place < 192
    pub offends : Offends symbols number place

  -- what comes of the call, by the tests and by what the symbols make of it
  abbrev pub answer_by : Bool → Bool → PaperVerdict → Bool → Paper
  answer_by fit counted a head =
      (cond (not fit) (left (refusal (bare (unfit_number m))) m [])
      (settled R m (judged_outcome (cond (not counted) (refused (bare 6)) (earlier a (cond head fine (refused (bare 11))))) symbols (control_of m)))).answer

  module _ (number place : ℕ) where
    found : (fit counted : Bool) (a : PaperVerdict) (head : Bool) → record_fit_lem R.p m ≡ fit → eqb (length symbols) 192 ≡ counted → FirstOf symbols 192 a
        → answer_by fit counted a head ≡ refusal (placed number place) → FirstOffender number place
    unfolding settled
    found false counted a head f c o e = let z : ◌≡◌ {A = ℕ} 0 1 = cc in absurd (omega arith)
    found true false a head f c o e = let z : ◌≡◌ {A = ℕ} 0 1 = cc in absurd (omega arith)
    found true true fine true f c (none all) e = let z : ◌≡◌ {A = ℕ} 0 1 = cc in absurd (omega arith)
    found true true fine false f c (none all) e = let z : ◌≡◌ {A = ℕ} 0 1 = cc in absurd (omega arith)
    found true true (refused why) head f c (first _ n i told l o) e =
        let numbers : n ≡ number = cc in
        let places : i ≡ place = cc in
        record { fit = f; count = eqb-true (length symbols) 192 c; inside = subst (λ (j : ℕ). j < 192) places l; offends = rw (sym numbers, sym places) o }

    told_by_lem : (a : PaperVerdict) → FirstOf symbols 192 a → FirstOffender number place → answer_by true true a (headed traffic symbols) ≡ refusal (placed number place)
    unfolding settled
    told_by_lem fine (none all) o = absurd (subst T o.offends.outside (all place o.inside))
    told_by_lem (refused why) (first _ n i told l o) given =
        let one = one_offender symbols n number i place o given.offends in
        rw (told, one.0, one.1)

    pub first_offender : ((provided R m (GivenSymbols traffic) symbols).answer ≡ refusal (placed number place)) ↔ FirstOffender number place
    unfolding provided frame_outcome judged_as
    first_offender = (
      found (record_fit_lem R.p m) (eqb (length symbols) 192) (judged_below 192 symbols) (headed traffic symbols) refl refl (first_of symbols 192),
      λ o. rw (o.fit, eq-eqb (length symbols) 192 o.count) (told_by_lem (judged_below 192 symbols) (first_of symbols 192) o),
    )
