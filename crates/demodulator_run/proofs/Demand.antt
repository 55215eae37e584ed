-- Demand 3 for every list of calls, over p and the table of taps: from at most one match at a sample, and no match again a symbol on. Assumes nothing.
use mathlib.Core.Path.{◌≡◌, subst}
use mathlib.Core.List.{List}
use Prim.Native.Nat.{ℕ, ◌+◌, ◌*◌, ◌<◌}
use lib.ListN.{length}
use lib.Ieee.{Float}
use Rattle.demodulator_run.specs.Rules.{Single, history_all}
use Rattle.demodulator_run.specs.Marks.{log_all}
use Rattle.demodulator_run.specs.Demands.{SymbolSize, Ear, ear_of, Alone, NotAgain, Apart, DueSpan, DueFrom, DueCause, DueOnce, AgeAtMost, DueRule}
use Rattle.demodulator_run.proofs.Phase.{Kept}
use Rattle.demodulator_run.proofs.Run.{kept_all, counted_all}
use Rattle.demodulator_run.proofs.Span.{once_of, span_again, cause_again, from_again, age_again, span_apart, cause_apart, from_apart, age_apart, span_wider, age_wider}
use Rattle.demodulator_run.proofs.Rule.{due_rule_of}

pub apart→again : (ear : Ear) (p : ℕ) → Apart ear p → NotAgain ear p
apart→again ear p apart k = apart k k

module _ (table : List Float) (p : ℕ) where
  -- what is heard in the run, what is logged in it, and how many samples were admitted
  abbrev pub ear_all : List Single → Ear
  ear_all cs = ear_of table p (history_all table p cs).samples

  abbrev pub fed_all : List Single → ℕ
  fed_all cs = length (history_all table p cs).samples

  module _ (big : SymbolSize p) (cs : List Single) (alone : Alone (ear_all cs)) where
    module _ (again : NotAgain (ear_all cs) p) where
      invariant : Kept (ear_all cs) p (log_all table p cs) (history_all table p cs).control
      invariant = kept_all table p cs big alone again

      counted : (history_all table p cs).control.sample ≡ fed_all cs
      counted = counted_all table p cs big alone again

      -- a candidate taken at n while none was held, n + (188p - 1) samples fed: a frame falls due at some d from n + (184p - 1) to n + (188p - 1)
      pub due_span : DueSpan p (188 * p) (fed_all cs) (log_all table p cs)
      due_span = subst (λ (n : ℕ). DueSpan p (188 * p) n (log_all table p cs)) counted (span_again (ear_all cs) p big (log_all table p cs) again (history_all table p cs).control invariant)

      -- which comes from that candidate
      pub due_cause : DueCause (ear_all cs) p (188 * p) (fed_all cs) (log_all table p cs)
      due_cause = subst (λ (n : ℕ). DueCause (ear_all cs) p (188 * p) n (log_all table p cs)) counted (cause_again (ear_all cs) p big (log_all table p cs) again (history_all table p cs).control invariant)

      -- and every due frame comes so from a candidate
      pub due_from : DueFrom p (188 * p) (log_all table p cs)
      due_from = from_again (ear_all cs) p big (log_all table p cs) again (history_all table p cs).control invariant

      -- at any time at most one sample of that span has a due frame
      pub due_once : DueOnce p (log_all table p cs)
      due_once = once_of (ear_all cs) p big (log_all table p cs) (history_all table p cs).control invariant

      pub age_limit : AgeAtMost (p + 1) (history_all table p cs).control.candidate
      age_limit = age_again (ear_all cs) p big (log_all table p cs) again (history_all table p cs).control invariant

      pub due_rule : DueRule (ear_all cs) p (fed_all cs) (log_all table p cs)
      due_rule = subst (λ (n : ℕ). DueRule (ear_all cs) p n (log_all table p cs)) counted (due_rule_of (ear_all cs) p alone big again (log_all table p cs) (history_all table p cs).control invariant)

    -- ---- no two kinds a symbol apart
    module _ (apart : Apart (ear_all cs) p) where
      pub due_span_sharp : DueSpan p (185 * p) (fed_all cs) (log_all table p cs)
      due_span_sharp =
          subst (λ (n : ℕ). DueSpan p (185 * p) n (log_all table p cs)) (counted (apart→again (ear_all cs) p apart))
          (span_apart (ear_all cs) p big (log_all table p cs) apart (history_all table p cs).control (invariant (apart→again (ear_all cs) p apart)))

      pub due_cause_sharp : DueCause (ear_all cs) p (185 * p) (fed_all cs) (log_all table p cs)
      due_cause_sharp =
          subst (λ (n : ℕ). DueCause (ear_all cs) p (185 * p) n (log_all table p cs)) (counted (apart→again (ear_all cs) p apart))
          (cause_apart (ear_all cs) p big (log_all table p cs) apart (history_all table p cs).control (invariant (apart→again (ear_all cs) p apart)))

      pub due_from_sharp : DueFrom p (185 * p) (log_all table p cs)
      due_from_sharp = from_apart (ear_all cs) p big (log_all table p cs) apart (history_all table p cs).control (invariant (apart→again (ear_all cs) p apart))

      pub age_limit_sharp : AgeAtMost p (history_all table p cs).control.candidate
      age_limit_sharp = age_apart (ear_all cs) p big (log_all table p cs) apart (history_all table p cs).control (invariant (apart→again (ear_all cs) p apart))

      -- the demanded ones follow from these too
      pub due_span_by_sharp : DueSpan p (188 * p) (fed_all cs) (log_all table p cs)
      due_span_by_sharp = span_wider p (fed_all cs) (log_all table p cs) big due_span_sharp

      pub age_limit_by_sharp : AgeAtMost (p + 1) (history_all table p cs).control.candidate
      age_limit_by_sharp = age_wider p (history_all table p cs).control.candidate age_limit_sharp
