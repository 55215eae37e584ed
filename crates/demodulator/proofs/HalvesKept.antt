-- What a sample leaves of the window's halves: they agree after it exactly if they did before it, so that a stretch tests them once; and that window and ring keep their places. Assumes nothing.
use Rattle.std.specs.Prelude.{Option, Result}
use Rattle.demodulator.specs.declared.Offer.{Offer}
use Rattle.protocol.specs.declared.Refusal.{Refusal}
use mathlib.Core.Path.{◌≡◌, refl, sym, ◌∙◌}
use mathlib.Core.Bool.{true, not}
use mathlib.Core.List.{List}
use Prim.Native.Nat.{ℕ, ◌^◌, ◌≤◌}
use lib.Dec.{eqb, ltb}
use lib.IntN.{ℤ}
use lib.ListN.{length}
use lib.Ieee.{Float}
use borrow.Author.Tests.{not-false}
use Rattle.shaping.specs.Rate.{Rate, window_places}
use Rattle.search.specs.Turn.{Outcome, quiet, offer, sampled}
use Rattle.search.proofs.AgeInPass.{by_test}
use Rattle.demodulator.specs.declared.SoftDemodulator.{SoftDemodulator}
use Rattle.demodulator.specs.Spans.{eight}
use Rattle.demodulator.specs.Record.{back, stored}
use Rattle.demodulator.specs.Fit.{halves_agree_lem, unfit_number, fit_for_sample_lem}
use Rattle.demodulator.specs.Calls.{Left, refused, finished, admitted_by, demodulated, DemodAt}
use Rattle.demodulator.proofs.Halves.{stored_long, stored_halves, stored_ring}
use Rattle.demodulator.proofs.Fitness.{RecordFacts, record_facts, sample_record}

-- the window and the ring still have their places, and the window's halves agree or differ as before
pub record KeepsHalves (p : ℕ) (m after : SoftDemodulator) : Type 0 where
  pub places : window_places p ≤ length after.filter_win
  pub same : halves_agree_lem p m.filter_win ≡ halves_agree_lem p after.filter_win
  pub ring : length after.rx_win ≡ length m.rx_win

module _ (R : Rate) (m : SoftDemodulator) (long : window_places R.p ≤ length m.filter_win) (x : ℤ) (room : List Float) where
  abbrev Kept : Left → Type 0
  Kept l = KeepsHalves R.p m l.demodulator

  stays : (number : ℕ) → Kept (refused number m room)
  stays number = record { places = long; same = refl; ring = refl }

  finished_kept : fit_for_sample_lem R.p m ≡ true → (o : Outcome) → Kept (finished R.p (stored R m x) room o)
  finished_kept fit o =
      let facts : RecordFacts R.p m = record_facts R.p m (sample_record R.p m fit) in
      let places = stored_long R m x facts.window_cursor long in
      let same = facts.halves ∙ sym (stored_halves R m x facts.window_cursor long facts.halves) in
      go places same (stored_ring R m x) o
    where
      go : window_places R.p ≤ length (stored R m x).filter_win → halves_agree_lem R.p m.filter_win ≡ halves_agree_lem R.p (stored R m x).filter_win → length (stored R m x).rx_win ≡ length m.rx_win
          → (o : Outcome) → Kept (finished R.p (stored R m x) room o)
      go places same ring (quiet c) = record { places = places; same = same; ring = ring }
      go places same ring (offer shown c) = record { places = places; same = same; ring = ring }

  sample_kept : Kept (demodulated R m x room)
  unfolding demodulated admitted_by
  sample_kept =
      let c = m.control in
      by_test Kept (not (fit_for_sample_lem R.p m)) (refused (unfit_number m) m room) _ (λ e. stays (unfit_number m)) λ fit.
      by_test Kept c.owed (refused 2 m room) _ (λ e. stays 2) λ e.
      by_test Kept (ltb (length room) 192) (refused 4 m room) _ (λ e. stays 4) λ e.
      by_test Kept (eqb c.sample (2 ^ 63)) (refused 5 m room) _ (λ e. stays 5) λ e.
      finished_kept (not-false (fit_for_sample_lem R.p m) fit) (sampled R.p (eight R.p (back R.p (stored R m x))) c)

  -- of a step's promise
  pub step_kept : (answer : Result (Option Offer) Refusal) (m' : SoftDemodulator) (room' : List Float) → DemodAt R m x room (record { answer = answer; demodulator = m' }) room' → KeepsHalves R.p m m'
  step_kept answer m' room' says = rw says.leaves sample_kept
