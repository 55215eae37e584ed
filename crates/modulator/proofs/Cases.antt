-- What a call answers and leaves, by the tests that lead there. Assumes nothing.
use Rattle.std.specs.Prelude.{Some, None}
use mathlib.Core.Path.{◌≡◌, refl, subst}
use mathlib.Core.Bool.{Bool, true, false, not, ◌||◌}
use mathlib.Core.List.{List, []}
use Prim.Native.Nat.{ℕ, ◌≤◌, ◌<◌}
use lib.Dec.{T}
use lib.IntN.{ℤ}
use borrow.Author.Tests.{lt-ltb, le-ltb, leb-true}
use Rattle.shaping.specs.Rate.{Rate}
use Rattle.protocol.specs.Refusals.{bare}
use Rattle.modulator.specs.declared.SampleCount.{SampleCount}
use Rattle.modulator.specs.declared.SoftModulator.{SoftModulator}
use Rattle.modulator.specs.Paper.{refusal, done, transmit_end, read_output, idle, get_frame, nothing}
use Rattle.modulator.specs.Control.{buffer_of, end_after_lem, updated_pending_lem, reported, idled}
use Rattle.modulator.specs.Record.{with_pending}
use Rattle.modulator.specs.Fit.{count_fit_lem, record_fit_lem, unfit_number}
use Rattle.modulator.specs.Outcome.{too_large, update_outcome, action_by}
use Rattle.modulator.specs.Calls.{left, settled, drained, read, updated, ran}

pub counts_taken : (fill capacity latency : ℕ) → too_large fill capacity latency ≡ false → (fill ≤ 16777216) × (capacity ≤ 16777216) × (latency ≤ 16777216)
counts_taken fill capacity latency e = go (count_fit_lem fill) (count_fit_lem capacity) (count_fit_lem latency) refl refl refl e
  where
    go : (a b c : Bool) → count_fit_lem fill ≡ a → count_fit_lem capacity ≡ b → count_fit_lem latency ≡ c → not a || not b || not c ≡ false → (fill ≤ 16777216) × (capacity ≤ 16777216) × (latency ≤ 16777216)
    go true true true p q r h = (leb-true fill 16777216 p, leb-true capacity 16777216 q, leb-true latency 16777216 r)
    go false b c p q r h = absurd (subst T h tt)
    go true false c p q r h = absurd (subst T h tt)
    go true true false p q r h = absurd (subst T h tt)

module _ (R : Rate) (m : SoftModulator) where
  -- ---- a read
  pub read_unfit : (room : List ℤ) → record_fit_lem R.p m ≡ false → read R m room ≡ left (refusal (bare (unfit_number m))) m room
  unfolding read
  read_unfit room e = rw e

  pub read_fit : (room : List ℤ) → record_fit_lem R.p m ≡ true → read R m room ≡ drained m room
  unfolding read
  read_fit room e = rw e

  -- ---- an update
  module _ (fill capacity latency : ℕ) where
    pub update_unfit : record_fit_lem R.p m ≡ false → updated R m fill capacity latency ≡ left (refusal (bare (unfit_number m))) m []
    unfolding updated settled update_outcome
    update_unfit e = rw e

    pub update_large : record_fit_lem R.p m ≡ true → too_large fill capacity latency ≡ true → updated R m fill capacity latency ≡ left (refusal (bare 8)) m []
    unfolding updated settled update_outcome
    update_large e t = rw (e, t)

    pub update_below : record_fit_lem R.p m ≡ true → too_large fill capacity latency ≡ false → capacity < fill → updated R m fill capacity latency ≡ left (refusal (bare 9)) m []
    unfolding updated settled update_outcome
    update_below e t l = rw (e, t, lt-ltb capacity fill l)

    pub update_done : record_fit_lem R.p m ≡ true → too_large fill capacity latency ≡ false → fill ≤ capacity
        → updated R m fill capacity latency
        ≡ left done (with_pending (updated_pending_lem R.p fill capacity (end_after_lem fill latency m.progress) m.pending) (buffer_of fill capacity latency) m) []
    unfolding updated settled update_outcome
    update_done e t l = rw (e, t, le-ltb capacity fill l)

  -- ---- the next action
  pub run_unfit : record_fit_lem R.p m ≡ false → ran R m ≡ left (refusal (bare (unfit_number m))) m []
  unfolding ran
  run_unfit e = rw e

  pub run_end : (end : SampleCount) → record_fit_lem R.p m ≡ true → m.pending.report_tx_end ≡ Some end
      → ran R m ≡ left (transmit_end end.0) (with_pending (reported m.pending) m.buffer m) []
  unfolding ran settled action_by
  run_end end e r = rw (e, r)

  module _ (e : record_fit_lem R.p m ≡ true) (r : m.pending.report_tx_end ≡ None) where
    pub run_read : m.progress.next_read < m.progress.next_len → ran R m ≡ left read_output m []
    unfolding ran settled action_by
    run_read l = rw (e, r, lt-ltb m.progress.next_read m.progress.next_len l)

    module _ (l : m.progress.next_len ≤ m.progress.next_read) where
      pub run_idle : m.pending.update_idle ≡ true → ran R m ≡ left (idle true) (with_pending (idled m.pending) m.buffer m) []
      unfolding ran settled action_by
      run_idle i = rw (e, r, le-ltb m.progress.next_read m.progress.next_len l, i)

      pub run_frame : m.pending.update_idle ≡ false → m.pending.try_get_frame ≡ true → ran R m ≡ left get_frame m []
      unfolding ran settled action_by
      run_frame i t = rw (e, r, le-ltb m.progress.next_read m.progress.next_len l, i, t)

      pub run_nothing : m.pending.update_idle ≡ false → m.pending.try_get_frame ≡ false → ran R m ≡ left nothing m []
      unfolding ran settled action_by
      run_nothing i t = rw (e, r, le-ltb m.progress.next_read m.progress.next_len l, i, t)
