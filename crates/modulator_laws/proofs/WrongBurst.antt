-- Request b: a call is answered with 11 exactly where a fit record is given a BERT frame of 192 symbols within -1 to 1 whose first eight are
-- not the signs of DF55. Assumes nothing.
use mathlib.Core.Path.{◌≡◌, refl, ap}
use mathlib.Core.Logic.{◌↔◌}
use mathlib.Core.Bool.{Bool, true, false, not, cond}
use mathlib.Core.List.{List, []}
use Prim.Native.Nat.{ℕ}
use native.Mathlib.Omega.{arith}
use lib.Ieee.{Float}
use Rattle.shaping.specs.Rate.{Rate, rate_fit}
use Rattle.protocol.specs.Refusals.{bare}
use Rattle.given_symbols.specs.declared.Traffic.TheVariants.{Ordinary, Bert}
use Rattle.given_symbols.specs.Offender.{PaperVerdict, refused, fine, headed, judged_as}
use Rattle.given_symbols.proofs.WrongBurst.{Unheaded, wrong_burst as judged-wrong}
use Rattle.modulator.specs.declared.SoftModulator.{SoftModulator}
use Rattle.modulator.specs.declared.ModulatorFrame.{ModulatorFrame}
use Rattle.modulator.specs.declared.ModulatorFrame.TheVariants.{Nothing as NoFrame, Preamble, Symbols as GivenSymbols, EndOfTransmission}
use Rattle.modulator.specs.Paper.{refusal}
use Rattle.modulator.specs.Record.{control_of}
use Rattle.modulator.specs.Fit.{record_fit_lem, unfit_number}
use Rattle.modulator.specs.Outcome.{judged_outcome, frame_outcome}
use Rattle.modulator.specs.Calls.{Left, left, settled, provided}
use Rattle.modulator.proofs.FrameCases.{frame_refused}

not_eleven : (fit : Bool) → ◌≡◌ {A = ℕ} (cond fit 1 15) 11 → ⊥
not_eleven true e = omega arith
not_eleven false e = omega arith

module _ (R : Rate) (m : SoftModulator) (frame : ModulatorFrame) (symbols : List Float) where
  pub record WrongBurst : Type 0 where
    pub fit : record_fit_lem R.p m ≡ true
    pub given : frame ≡ GivenSymbols Bert
    pub unheaded : Unheaded Bert symbols

  by_verdict : (v : PaperVerdict) → (settled R m (judged_outcome v symbols (control_of m))).answer ≡ refusal (bare 11) → v ≡ refused (bare 11)
  unfolding settled
  by_verdict (refused why) e = cc
  by_verdict fine e = cc

  by_frame : (f : ModulatorFrame) → (settled R m (frame_outcome R.p f symbols (control_of m))).answer ≡ refusal (bare 11) → (f ≡ GivenSymbols Bert) × Unheaded Bert symbols
  unfolding settled frame_outcome headed
  by_frame NoFrame e = let z : ◌≡◌ {A = ℕ} 0 1 = cc in absurd (omega arith)
  by_frame (Preamble traffic steps) e = let z : ◌≡◌ {A = ℕ} 0 1 = cc in absurd (omega arith)
  by_frame (GivenSymbols Ordinary) e =
      let never : ◌≡◌ {A = Bool} true false = ((judged-wrong Ordinary symbols).0 (by_verdict (judged_as Ordinary symbols) e)).head in
      let z : ◌≡◌ {A = ℕ} 0 1 = cc in absurd (omega arith)
  by_frame (GivenSymbols Bert) e = (refl, (judged-wrong Bert symbols).0 (by_verdict (judged_as Bert symbols) e))
  by_frame EndOfTransmission e = let z : ◌≡◌ {A = ℕ} 0 1 = cc in absurd (omega arith)

  found : (fit : Bool) → record_fit_lem R.p m ≡ fit
      → (cond (not fit) (left (refusal (bare (unfit_number m))) m []) (settled R m (frame_outcome R.p frame symbols (control_of m)))).answer ≡ refusal (bare 11) → WrongBurst
  found true f e = let w = by_frame frame e in record { fit = f; given = w.0; unheaded = w.1 }
  found false f e = let z : unfit_number m ≡ 11 = cc in absurd (not_eleven (rate_fit m.rate) z)

  pub wrong_burst : ((provided R m frame symbols).answer ≡ refusal (bare 11)) ↔ WrongBurst
  unfolding provided
  wrong_burst = (
    found (record_fit_lem R.p m) refl,
    λ w. ap (λ (l : Left). l.answer) (frame_refused R m frame symbols w.fit Bert w.given (bare 11) ((judged-wrong Bert symbols).1 w.unheaded)),
  )
