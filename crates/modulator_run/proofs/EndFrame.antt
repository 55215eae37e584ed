-- `end_frame`: what the end of transmission leaves, from every fit record, reached or made up, at the rate that it says. Assumes nothing.
use mathlib.Core.Path.{◌≡◌, refl, subst, ◌∙◌}
use mathlib.Core.Bool.{Bool, true, false}
use mathlib.Core.List.{List}
use Prim.Native.Nat.{ℕ, suc, ◌+◌, ◌-◌, ◌*◌, ◌≤◌, ◌<◌}
use native.Mathlib.Omega.{arith}
use borrow.Author.Tests.{leb-true, leb-false}
use lib.Dec.{leb}
use lib.IntN.{pos}
use lib.ListN.{length, get_or, get_or-eq_default}
use lib.Ieee.{Float, nan, binary32, of_bits}
use Rattle.numbers.specs.Within.{Within}
use Rattle.shaping.specs.Rate.{Rate, samples_in_lem, rate_of, tap_count}
use Rattle.shaping.proofs.RateFacts.{Facts, rate_facts}
use Rattle.pulse.specs.Pulse.{pulses, after, sample_of, sample_at}
use Rattle.pulse.proofs.Stream.{cursor_stays}
use Rattle.pulse.proofs.View.{view, view_entered, place_seen}
use Rattle.modulator.specs.declared.ModulatorFrame.TheVariants.{EndOfTransmission}
use Rattle.modulator.specs.declared.SoftModulator.{SoftModulator}
use Rattle.modulator.specs.Frame.{ending}
use Rattle.modulator.specs.Record.{line_of, framed}
use Rattle.modulator.specs.Fit.{record_fit_lem}
use Rattle.modulator.specs.Outcome.{frame_outcome}
use Rattle.modulator.specs.Calls.{settled, provided}
use Rattle.modulator.proofs.Fitness.{record_facts}
use Rattle.modulator_run.specs.EndFrame.{end_samples, silent_samples, EndFrame}
use Rattle.modulator_run.proofs.NextFrame.{written_at}
use Rattle.modulator_run.proofs.Flush.{silent_sum, flush_pulse}

-- a place past the window's end would not be fit
long_enough : (n : ℕ) (window : List Float) → ((i : ℕ) → i < n → Within (get_or window i nan) 35461) → n ≤ length window
long_enough n window w = by_test (leb n (length window)) refl
  where
    by_test : (b : Bool) → leb n (length window) ≡ b → n ≤ length window
    by_test true e = leb-true n (length window) e
    by_test false e =
        let short : length window < n = leb-false n (length window) e in
        absurd (subst (λ (x : Float). Within x 35461) (get_or-eq_default window nan (omega arith)) (w (length window) short)).0

module _ (R : Rate) (F : Facts R) (m : SoftModulator) (fit : record_fit_lem R.p m ≡ true) where
  abbrev e : ℕ → Float
  e = pulses R.p ending.symbol

  inside : m.filter_cursor < tap_count R.p
  inside = (record_facts R.p m fit).cursor

  some : 0 < R.p
  some = let u = F.some in omega arith

  -- once the last pulse has left, the filter sees zeros
  all_zero : (n i : ℕ) → 199 * R.p + 2 ≤ n → i < tap_count R.p → view R.p (after R.p e n (line_of m)) i ≡ of_bits binary32 0
  all_zero n i late l =
      view_entered R.p e (line_of m) (long_enough (tap_count R.p) m.filter_win (record_facts R.p m fit).window) inside n i l (omega arith)
      ∙ flush_pulse R.p some (n + i - tap_count R.p) (omega arith)

  silent_sample : (t : ℕ) → 199 * R.p + 1 ≤ t → sample_at R e (line_of m) t ≡ pos 0
  unfolding sample_of
  silent_sample t late = silent_sum R.taps F.finite _ (λ i l. all_zero (suc t) i (omega arith) (rw F.number at l))

  zero_place : (j : ℕ) → j < tap_count R.p → get_or (after R.p e (end_samples R.p) (line_of m)).window j nan ≡ of_bits binary32 0
  zero_place =
      let late : 199 * R.p + 2 ≤ end_samples R.p = let u = some in omega arith in
      place_seen R.p (after R.p e (end_samples R.p) (line_of m)) (of_bits binary32 0) (cursor_stays R.p e (end_samples R.p) (line_of m) inside) (λ i l. all_zero (end_samples R.p) i late l)

  frame_at : (symbols : List Float) → EndFrame R m (provided R m EndOfTransmission symbols)
  unfolding provided settled frame_outcome framed
  frame_at symbols =
      rw fit (record {
        answer = refl;
        number = refl;
        unread = refl;
        samples = λ i l. written_at (sample_at R e (line_of m)) (end_samples R.p) i m.next_transmission l;
        silence = λ i l.
            let t : ℕ = (end_samples R.p - silent_samples R.p) + i in
            written_at (sample_at R e (line_of m)) (end_samples R.p) t m.next_transmission (omega arith) ∙ silent_sample t (omega arith);
        window = zero_place;
        owed = refl;
      })

pub end_frame : (m : SoftModulator) → record_fit_lem (samples_in_lem m.rate) m ≡ true → (symbols : List Float) → EndFrame (rate_of m.rate) m (provided (rate_of m.rate) m EndOfTransmission symbols)
end_frame m fit = frame_at (rate_of m.rate) (rate_facts m.rate (record_facts (samples_in_lem m.rate) m fit).rate) m fit
