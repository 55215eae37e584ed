-- The number told of an end is its update's fill and latency, and as many samples as reads bring after that update, as long
-- as no further frame is provided. At every rate. Assumes nothing.
use mathlib.Core.Path.{◌≡◌, sym, ap, subst, ◌∙◌}
use mathlib.Core.Bool.{not}
use mathlib.Core.List.{List, [], ◌∷◌}
use Prim.Native.Nat.{ℕ, ◌+◌, min}
use native.Mathlib.Omega.{arith}
use lib.Dec.{T}
use lib.Ieee.Fits.{and_l, and_r}
use Rattle.machine.specs.Runs.{Each}
use Rattle.machine.proofs.Parts.{run_last, each_front, each_joined}
use Rattle.shaping.specs.Rate.{Rate}
use Rattle.shaping.proofs.RateFacts.{Facts}
use Rattle.modulator.specs.declared.ModulatorFrame.TheVariants.{Nothing as NoFrame, Preamble, Symbols as GivenSymbols, EndOfTransmission}
use Rattle.modulator.specs.Paper.{transmit_end}
use Rattle.modulator_run.specs.Rules.{Call, provide, read, update, ask, Sent, Said, start, rules, sent_all}
use Rattle.modulator_run.specs.Run.{left, record_after, Delay, Given}
use Rattle.modulator_run.specs.Kinds.{asks, replaces, delays, none}
use Rattle.modulator_run.specs.Padding.{places_of, places_read_lem}
use Rattle.modulator_run.specs.Pieces.{total}
use Rattle.modulator_run.specs.Reports.{Reporting, up_to}
use Rattle.modulator_run.specs.EndCovers.{brought, Covers}
use Rattle.modulator_run.proofs.SenderRun.{answers_from, next_call}
use Rattle.modulator_run.proofs.Padding.{padding, padding_read}
use Rattle.modulator_run.proofs.Unread.{samples, samples_read_lem, all_brought}
use Rattle.modulator_run.proofs.EndOnce.{told_number}

-- without a frame nothing is asked of the calls: only a TxDelay has a limit
given_unframed : (c : Call) → T (not (replaces c)) → Given c
unfolding replaces Given Delay
given_unframed (provide NoFrame symbols) t = tt
given_unframed (provide (Preamble traffic steps) symbols) t = absurd t
given_unframed (provide (GivenSymbols traffic) symbols) t = tt
given_unframed (provide EndOfTransmission symbols) t = tt
given_unframed (read room) t = tt
given_unframed (update fill capacity latency) t = tt
given_unframed ask t = tt

all_given : (ds : List Call) → T (none replaces ds) → Each Given ds
unfolding Each none
all_given [] t = tt
all_given (c ∷ ds) t =
    (given_unframed c (and_l (not (replaces c)) (none replaces ds) t), all_given ds (and_r (not (replaces c)) (none replaces ds) t))

module _ (R : Rate) (F : Facts R) where
  module _ (cs : List Call) (g : Each Given cs) (r : Reporting cs) where
    abbrev there : Sent
    there = sent_all R r.before

    abbrev after : Sent
    after = sent_all R (up_to cs r)

    given_there : Each Given (up_to cs r)
    unfolding Each Given
    given_there =
        let front = each_front Given r.before (update r.fill r.capacity r.latency ∷ r.since) (subst (Each Given) r.parts g) in
        each_joined Given r.before (update r.fill r.capacity r.latency ∷ []) front (tt, tt)

    -- the update leaves padding and frame as they were
    same_padding : padding after ≡ padding there
    unfolding delays places_of
    same_padding = ap padding (run_last (rules R) r.before _ start) ∙ padding_read R there (update r.fill r.capacity r.latency) tt ∙ omega arith

    same_samples : samples after ≡ samples there
    unfolding replaces places_of
    same_samples = ap samples (run_last (rules R) r.before _ start) ∙ samples_read_lem R there (update r.fill r.capacity r.latency) tt ∙ omega arith

    brought_after : (ds : List Call) → T (none replaces ds) → brought R (up_to cs r) ds ≡ min (places_read_lem ds) (padding there + samples there)
    brought_after ds t =
        ap total (answers_from R F (up_to cs r) ds given_there (all_given ds t)) ∙ all_brought R ds after t ∙ rw (same_padding, same_samples)

  -- The request is answered with n, by the report that the update of r made.
  pub end_covers : (cs : List Call) → Each Given cs → (n : ℕ) → (left (record_after R cs) ask).answer ≡ transmit_end n
      → (r : Reporting cs) → T (none asks r.since) → (Reporting r.since → ⊥)
      → Covers R (up_to cs r) r.fill r.latency n
  end_covers cs g n e r quiet newest =
      let same = ap (λ (a : Said). a.answer) (next_call R F cs g ask) in
      let number = told_number R cs n (sym same ∙ e) r quiet newest in
      record {
        never_more = λ ds t. let b = brought_after cs g r ds t in omega arith;
        exactly = λ ds t enough. let b = brought_after cs g r ds t in omega arith;
      }
