-- Where no padding is left and nothing is unread, the end that an update reports is document 01's: of every fit record, and
-- over every list of calls. At every rate. Assumes nothing.
use Rattle.std.specs.Prelude.{Some}
use mathlib.Core.Path.{◌≡◌, sym, ap, ◌∙◌}
use mathlib.Core.Bool.{Bool, true, not}
use mathlib.Core.List.{List}
use Prim.Native.Nat.{ℕ}
use native.Mathlib.Omega.{arith}
use borrow.Author.Tests.{not-true, ltb-false}
use lib.Dec.{T, ltb}
use lib.Ieee.Bits.{is_true}
use lib.Ieee.Fits.{and_l, and_r}
use Rattle.machine.specs.Runs.{Each}
use Rattle.shaping.specs.Rate.{Rate}
use Rattle.shaping.proofs.RateFacts.{Facts}
use Rattle.modulator.specs.declared.SoftModulator.{SoftModulator}
use Rattle.modulator.specs.Paper.{transmit_end}
use Rattle.modulator.specs.Control.{unread, end_after_lem}
use Rattle.modulator.specs.Fit.{record_fit_lem}
use Rattle.modulator.specs.Outcome.{too_large}
use Rattle.modulator.specs.Calls.{Left, updated, ran}
use Rattle.modulator.proofs.Cases.{update_done, run_end}
use Rattle.modulator_laws.proofs.Kept.{update_keeps}
use Rattle.modulator_run.specs.Rules.{Call, update, ask, Said}
use Rattle.modulator_run.specs.Run.{left, record_after, Given}
use Rattle.modulator_run.specs.Kinds.{stores, asks, none}
use Rattle.modulator_run.specs.Padding.{PaddingLeft}
use Rattle.modulator_run.specs.Unread.{UnreadLeft}
use Rattle.modulator_run.specs.Reports.{Reporting, end_before}
use Rattle.modulator_run.proofs.SenderRun.{next_call}
use Rattle.modulator_run.proofs.Padding.{padding_exactly}
use Rattle.modulator_run.proofs.Unread.{unread_exactly}
use Rattle.modulator_run.proofs.EndOnce.{told_number}

-- ---- every fit record that owes an end, reached or made up
module _ (R : Rate) (m : SoftModulator) (fit : record_fit_lem R.p m ≡ true) (owed : m.pending.calculate_tx_end ≡ true) where
  pub end_as_before : m.progress.tx_delay_padding.0 ≡ 0 → unread m.progress ≡ 0
      → (fill capacity latency : ℕ) → T (stores (update fill capacity latency))
      → (ran R (updated R m fill capacity latency).modulator).answer ≡ transmit_end (end_before fill latency)
  unfolding stores
  end_as_before no-padding all_read fill capacity latency t =
      let large : Bool = too_large fill capacity latency in
      let small = not-true large (is_true (not large) (and_l (not large) (not (ltb capacity fill)) t)) in
      let enough = ltb-false capacity fill (not-true (ltb capacity fill) (is_true (not (ltb capacity fill)) (and_r (not large) (not (ltb capacity fill)) t))) in
      let old : end_after_lem fill latency m.progress ≡ end_before fill latency = omega arith in
      let report : (updated R m fill capacity latency).modulator.pending.report_tx_end ≡ Some (record { 0 = end_before fill latency }) = rw (update_done R m fill capacity latency fit small enough, owed, old) in
      ap (λ (l : Left). l.answer) (run_end R (updated R m fill capacity latency).modulator _ (update_keeps R m fit fill capacity latency) report)

-- ---- over every list of calls
module _ (R : Rate) (F : Facts R) where
  pub told_as_before : (cs : List Call) → Each Given cs → (n : ℕ) → (left (record_after R cs) ask).answer ≡ transmit_end n
      → (r : Reporting cs) → T (none asks r.since) → (Reporting r.since → ⊥)
      → PaddingLeft R.p r.before 0 → UnreadLeft R.p r.before 0 → n ≡ end_before r.fill r.latency
  told_as_before cs g n e r quiet newest no-padding all_read =
      let same = ap (λ (a : Said). a.answer) (next_call R F cs g ask) in
      let number = told_number R cs n (sym same ∙ e) r quiet newest in
      let none_left = (padding_exactly R r.before 0).1 no-padding in
      let none-unread = (unread_exactly R r.before 0).1 all_read in
      omega arith
