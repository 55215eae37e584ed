-- No call changes the rate that a record says. Assumes nothing.
use mathlib.Core.Path.{◌≡◌, refl}
use mathlib.Core.Bool.{not}
use mathlib.Core.List.{List}
use Prim.Native.Nat.{ℕ}
use lib.IntN.{ℤ}
use lib.Ieee.{Float}
use Rattle.shaping.specs.Rate.{Rate}
use Rattle.modulator.specs.declared.ModulatorFrame.{ModulatorFrame}
use Rattle.modulator.specs.declared.SoftModulator.{SoftModulator}
use Rattle.modulator.specs.Record.{control_of, framed}
use Rattle.modulator.specs.Fit.{record_fit_lem}
use Rattle.modulator.specs.Outcome.{Outcome, only, told, sends, frame_outcome, update_outcome, action_outcome}
use Rattle.modulator.specs.Calls.{Left, unless_unfit, settled, drained, provided, read, updated, ran}
use Rattle.modulator_laws.proofs.Picked.{picked}

module _ (R : Rate) (m : SoftModulator) where
  abbrev Says : Left → Type 0
  Says l = l.modulator.rate ≡ m.rate

  settled_rate : (o : Outcome) → Says (settled R m o)
  unfolding settled framed
  settled_rate (only answer) = refl
  settled_rate (told answer pending buffer) = refl
  settled_rate (sends frame padding pending) = refl

  unless_unfit_lem : (room : List ℤ) (l : Left) → Says l → Says (unless_unfit R.p m room l)
  unless_unfit_lem room l k = picked Says (not (record_fit_lem R.p m)) _ _ (λ _. refl) (λ _. k)

  pub provided_rate : (frame : ModulatorFrame) (symbols : List Float) → (provided R m frame symbols).modulator.rate ≡ m.rate
  unfolding provided
  provided_rate frame symbols = unless_unfit_lem _ _ (settled_rate (frame_outcome R.p frame symbols (control_of m)))

  pub read_rate : (room : List ℤ) → (read R m room).modulator.rate ≡ m.rate
  unfolding read drained
  read_rate room = unless_unfit_lem room _ refl

  pub updated_rate : (fill capacity latency : ℕ) → (updated R m fill capacity latency).modulator.rate ≡ m.rate
  unfolding updated
  updated_rate fill capacity latency = unless_unfit_lem _ _ (settled_rate (update_outcome R.p fill capacity latency (control_of m)))

  pub ran_rate : (ran R m).modulator.rate ≡ m.rate
  unfolding ran
  ran_rate = unless_unfit_lem _ _ (settled_rate (action_outcome (control_of m)))
