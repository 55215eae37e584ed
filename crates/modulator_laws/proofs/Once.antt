-- Words of document 01 as laws: "Room 0 writes 0", "Less room does not lower it", and what is told once. Assumes nothing.
use Rattle.std.specs.Prelude.{None}
use mathlib.Core.Path.{◌≡◌, refl}
use mathlib.Core.Bool.{Bool, true, false, not, ◌||◌}
use mathlib.Core.List.{[]}
use Prim.Native.Nat.{ℕ, ◌-◌}
use native.Mathlib.Nat.{add-zero, sub-zero}
use native.Mathlib.Omega.{arith}
use lib.Dec.{leb}
use Rattle.numbers.specs.Firsts.{firsts}
use Rattle.shaping.specs.Rate.{Rate, wish_room_lem}
use Rattle.modulator.specs.declared.SoftModulator.{SoftModulator}
use Rattle.modulator.specs.Paper.{wrote, transmit_end, idle}
use Rattle.modulator.specs.Control.{zeros_read, samples_read, handed_out}
use Rattle.modulator.specs.Record.{control_of}
use Rattle.modulator.specs.Fit.{record_fit_lem}
use Rattle.modulator.specs.Outcome.{Outcome}
use Rattle.modulator.specs.Calls.{Left, left, settled, drained, read, updated, ran}
use Rattle.modulator.proofs.Cases.{read_fit}
use Rattle.modulator_laws.proofs.Picked.{picked}
use Rattle.modulator_laws.proofs.EachCase.{each_update, each_action}

module _ (R : Rate) (m : SoftModulator) where
  pub no_room : record_fit_lem R.p m ≡ true → read R m [] ≡ left (wrote 0) m []
  unfolding drained handed_out firsts
  no_room e =
      let no-zeros : zeros_read m.progress 0 ≡ 0 = omega arith in
      let no_samples : samples_read m.progress 0 ≡ 0 = omega arith in
      rw (read_fit R m [] e, no_samples, no-zeros) (simp (add-zero, sub-zero))

  pub wish_stays : (fill capacity latency : ℕ) → m.pending.try_get_frame ≡ true → (updated R m fill capacity latency).modulator.pending.try_get_frame ≡ true
  unfolding updated settled
  wish_stays fill capacity latency e =
      let Wishes : Left → Type 0 = λ o. o.modulator.pending.try_get_frame ≡ true in
      picked Wishes (not (record_fit_lem R.p m)) _ _ (λ _. e) λ _.
      each_update (control_of m) (λ (o : Outcome). Wishes (settled R m o)) R.p fill capacity latency (λ _. e) (λ _ _. e) λ _ _.
      raised (leb (wish_room_lem R.p) (capacity - fill)) m.pending.try_get_frame e
    where
      raised : (b w : Bool) → w ≡ true → b || w ≡ true
      raised true w e = refl
      raised false w e = e

  -- "transmit end (once)": the report is cleared once it is told
  pub end_once : (n : ℕ) → (ran R m).answer ≡ transmit_end n → (ran R m).modulator.pending.report_tx_end ≡ None
  unfolding ran settled
  end_once n =
      let Once : Left → Type 0 = λ o. o.answer ≡ transmit_end n → o.modulator.pending.report_tx_end ≡ None in
      picked Once (not (record_fit_lem R.p m)) _ _ (λ _ e. cc) λ _.
      each_action (control_of m) (λ (o : Outcome). Once (settled R m o)) (record { told_end = λ end r e. refl; unread = λ r l e. r; idles = λ r l i e. r; wishes = λ r l i e. r; rests = λ r l i e. r })

  -- "idle yes (once from a fresh start)": so is this
  pub idle_once : (ran R m).answer ≡ idle true → (ran R m).modulator.pending.update_idle ≡ false
  unfolding ran settled
  idle_once =
      let Once : Left → Type 0 = λ o. o.answer ≡ idle true → o.modulator.pending.update_idle ≡ false in
      picked Once (not (record_fit_lem R.p m)) _ _ (λ _ e. cc) λ _.
      each_action (control_of m) (λ (o : Outcome). Once (settled R m o)) (record { told_end = λ end r e. cc; unread = λ r l e. cc; idles = λ r l i e. refl; wishes = λ r l i e. i; rests = λ r l i e. i })
