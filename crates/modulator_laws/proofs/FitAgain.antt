-- From every fit record, reached or not, each call leaves a fit record, refused or not. At every rate. Assumes nothing.
use mathlib.Core.Path.{◌≡◌}
use mathlib.Core.Bool.{true}
use mathlib.Core.List.{List}
use Prim.Native.Nat.{ℕ}
use lib.IntN.{ℤ}
use lib.Ieee.{Float}
use Rattle.shaping.specs.Rate.{Rate}
use Rattle.modulator.specs.declared.ModulatorFrame.{ModulatorFrame}
use Rattle.modulator.specs.declared.SoftModulator.{SoftModulator}
use Rattle.modulator.specs.Fit.{record_fit_lem}
use Rattle.modulator.specs.Calls.{provided, read, updated, ran}
use Rattle.modulator_laws.proofs.OutcomeLimits.{Byte}
use Rattle.modulator_laws.proofs.Kept.{frame_keeps, read_keeps, update_keeps, run_keeps}

pub record FitAgain (R : Rate) (m : SoftModulator) : Type 0 where
  -- a TxDelay is a byte's value
  pub frame : (frame : ModulatorFrame) (symbols : List Float) → Byte frame → record_fit_lem R.p (provided R m frame symbols).modulator ≡ true
  pub reading : (room : List ℤ) → record_fit_lem R.p (read R m room).modulator ≡ true
  pub update : (fill capacity latency : ℕ) → record_fit_lem R.p (updated R m fill capacity latency).modulator ≡ true
  pub action : record_fit_lem R.p (ran R m).modulator ≡ true

pub fit_again : (R : Rate) (m : SoftModulator) → record_fit_lem R.p m ≡ true → FitAgain R m
fit_again R m fit = record {
  frame = frame_keeps R m fit;
  reading = read_keeps R m fit;
  update = update_keeps R m fit;
  action = run_keeps R m fit;
}
