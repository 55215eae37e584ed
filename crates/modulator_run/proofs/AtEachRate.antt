-- The sender's theorems at each of the two rates: one statement over the rate, opened twice. Assumes nothing.
use mathlib.Core.Path.{◌≡◌, refl, sym, subst}
use mathlib.Core.Logic.{◌↔◌}
use mathlib.Core.Bool.{true}
use mathlib.Core.List.{List, Memᴰ}
use Prim.Native.Nat.{ℕ, ◌<◌}
use lib.Dec.{T}
use lib.IntN.{pos}
use lib.ListN.{get_or}
use lib.Ieee.{Float}
use Rattle.machine.specs.Runs.{Each}
use Rattle.shaping.specs.Rate.{at48, at24, samples_in_lem, rate_of}
use Rattle.shaping.proofs.RateFacts.{facts48, facts24}
use Rattle.protocol.specs.Refusals.{bare}
use Rattle.modulator.specs.declared.ModulatorFrame.TheVariants.{EndOfTransmission}
use Rattle.modulator.specs.declared.SoftModulator.{SoftModulator}
use Rattle.modulator.specs.Paper.{refusal, wrote, transmit_end}
use Rattle.modulator.specs.Fit.{record_fit_lem}
use Rattle.modulator.specs.Calls.{provided}
use Rattle.modulator_run.specs.Rules.{Call, ask, Said, sent_all, said_all}
use Rattle.modulator_run.specs.Run.{left, record_after, answers_to, Given}
use Rattle.modulator_run.specs.Represents.{Represents}
use Rattle.modulator_run.specs.Loudness.{Quiet}
use Rattle.modulator_run.specs.Kinds.{asks, none}
use Rattle.modulator_run.specs.Wish.{Wished}
use Rattle.modulator_run.specs.Padding.{PaddingLeft}
use Rattle.modulator_run.specs.Reports.{Reporting, up_to, Untold}
use Rattle.modulator_run.specs.EndFrame.{end_samples, silent_samples, EndFrame}
use Rattle.modulator_run.specs.EndCovers.{Covers}
use Rattle.modulator_run.proofs.SenderRun.{sender_run}
use Rattle.modulator_run.proofs.NeverUnfit.{never_unfit}
use Rattle.modulator_run.proofs.Within.{within_read}
use Rattle.modulator_run.proofs.EndFrame.{end_frame}
use Rattle.modulator_run.proofs.EndOnce.{told_by_record}
use Rattle.modulator_run.proofs.EndCovers.{end_covers}
use Rattle.modulator_run.proofs.Wish.{wish_by_record}
use Rattle.modulator_run.proofs.Padding.{padding_by_record}

module _ (cs : List Call) (g : Each Given cs) where
  -- ---- demand 2
  pub sender_run_48 : Represents at48 (record_after at48 cs) (sent_all at48 cs) × (answers_to at48 cs ≡ said_all at48 cs)
  sender_run_48 = sender_run at48 facts48 cs g

  pub sender_run_24 : Represents at24 (record_after at24 cs) (sent_all at24 cs) × (answers_to at24 cs ≡ said_all at24 cs)
  sender_run_24 = sender_run at24 facts24 cs g

  -- ---- neither 1 nor 15
  pub never_unfit_48 : (a : Said) → Memᴰ a (answers_to at48 cs) → (a.answer ≡ refusal (bare 1) → ⊥) × (a.answer ≡ refusal (bare 15) → ⊥)
  never_unfit_48 = never_unfit at48 facts48 cs g

  pub never_unfit_24 : (a : Said) → Memᴰ a (answers_to at24 cs) → (a.answer ≡ refusal (bare 1) → ⊥) × (a.answer ≡ refusal (bare 15) → ⊥)
  never_unfit_24 = never_unfit at24 facts24 cs g

  -- ---- within ±16,383
  pub within_48 : (a : Said) → Memᴰ a (answers_to at48 cs) → (n : ℕ) → a.answer ≡ wrote n → (i : ℕ) → i < n → Quiet (get_or a.room i (pos 0))
  within_48 = within_read at48 facts48 cs g

  pub within_24 : (a : Said) → Memᴰ a (answers_to at24 cs) → (n : ℕ) → a.answer ≡ wrote n → (i : ℕ) → i < n → Quiet (get_or a.room i (pos 0))
  within_24 = within_read at24 facts24 cs g

  -- ---- the end, told once, and what its number covers
  pub told_48 : (n : ℕ) → ((left (record_after at48 cs) ask).answer ≡ transmit_end n) ↔ Untold 10 cs n
  told_48 = told_by_record at48 facts48 cs g

  pub told_24 : (n : ℕ) → ((left (record_after at24 cs) ask).answer ≡ transmit_end n) ↔ Untold 5 cs n
  told_24 = told_by_record at24 facts24 cs g

  pub end_covers_48 : (n : ℕ) → (left (record_after at48 cs) ask).answer ≡ transmit_end n → (r : Reporting cs) → T (none asks r.since) → (Reporting r.since → ⊥)
      → Covers at48 (up_to cs r) r.fill r.latency n
  end_covers_48 = end_covers at48 facts48 cs g

  pub end_covers_24 : (n : ℕ) → (left (record_after at24 cs) ask).answer ≡ transmit_end n → (r : Reporting cs) → T (none asks r.since) → (Reporting r.since → ⊥)
      → Covers at24 (up_to cs r) r.fill r.latency n
  end_covers_24 = end_covers at24 facts24 cs g

  -- ---- the wish, by room of 2,000 or 1,000, and the padding, by steps of 480 or 240 samples
  pub wish_48 : ((record_after at48 cs).pending.try_get_frame ≡ true) ↔ Wished 10 cs
  wish_48 = wish_by_record at48 facts48 cs g

  pub wish_24 : ((record_after at24 cs).pending.try_get_frame ≡ true) ↔ Wished 5 cs
  wish_24 = wish_by_record at24 facts24 cs g

  pub padding_48 : (n : ℕ) → ((record_after at48 cs).progress.tx_delay_padding.0 ≡ n) ↔ PaddingLeft 10 cs n
  padding_48 = padding_by_record at48 facts48 cs g

  pub padding_24 : (n : ℕ) → ((record_after at24 cs).progress.tx_delay_padding.0 ≡ n) ↔ PaddingLeft 5 cs n
  padding_24 = padding_by_record at24 facts24 cs g

-- ---- the end of transmission: 2,720 samples, the last 729 zero; "the end frame is 1,360 samples", the last 364 zero
pub end_numbers : (end_samples 10 ≡ 2720) × (silent_samples 10 ≡ 729) × (end_samples 5 ≡ 1360) × (silent_samples 5 ≡ 364)
end_numbers = (refl, refl, refl, refl)

module _ (m : SoftModulator) (symbols : List Float) where
  end_at : (rate : ℕ) → m.rate ≡ rate → record_fit_lem (samples_in_lem rate) m ≡ true → EndFrame (rate_of rate) m (provided (rate_of rate) m EndOfTransmission symbols)
  end_at rate e fit =
      subst (λ (rate : ℕ). EndFrame (rate_of rate) m (provided (rate_of rate) m EndOfTransmission symbols)) e
      (end_frame m (subst (λ (rate : ℕ). record_fit_lem (samples_in_lem rate) m ≡ true) (sym e) fit) symbols)

  pub end_frame_48 : m.rate ≡ 48000 → record_fit_lem 10 m ≡ true → EndFrame at48 m (provided at48 m EndOfTransmission symbols)
  end_frame_48 = end_at 48000

  pub end_frame_24 : m.rate ≡ 24000 → record_fit_lem 5 m ≡ true → EndFrame at24 m (provided at24 m EndOfTransmission symbols)
  end_frame_24 = end_at 24000
