-- A list of single calls as a caller's: what the rules' log says of it, as the caller sees it. At a rate. Assumes nothing.
use mathlib.Core.Path.{◌≡◌, refl, sym, ap, subst, ◌∙◌}
use mathlib.Core.List.{List, map, Memᴰ}
use Prim.Native.Nat.{ℕ}
use Rattle.machine.specs.Runs.{run, answers, Each}
use Rattle.shaping.specs.Rate.{Rate}
use Rattle.shaping.proofs.RateFacts.{Facts}
use Rattle.search.specs.declared.Shown.{Shown}
use Rattle.demodulator.specs.declared.SoftDemodulator.{SoftDemodulator}
use Rattle.demodulator.specs.Calls.{offer_of}
use Rattle.demodulator_run.specs.Rules.{Single}
use Rattle.demodulator_run.specs.Run.{fresh_at, record_after, Callable}
use Rattle.demodulator_run.specs.Marks.{FellDue}
use Rattle.demodulator_run.specs.Demands.{In, Started}
use Rattle.demodulator_run.specs.Calls.{one, receiver, Given, singles_from}
use Rattle.demodulator_run.specs.CallerSees.{TakenSeen, DueSeen, offers_in}
use Rattle.demodulator_run.proofs.DemandAt.{log_at, fed_at}
use Rattle.demodulator_run.proofs.SinglesRun.{singles_run}
use Rattle.demodulator_run.proofs.Singles.{singles_record, singles_one, one_given}
use Rattle.demodulator_run.proofs.CallerSees.{taken_exactly, due_exactly, demand_three}

module _ (R : Rate) (F : Facts R) (cs : List Single) (small : Each Callable cs) where
  pub as_given : Each Given (map one cs)
  as_given = one_given cs small

  same : singles_from (fresh_at R) (map one cs) ≡ cs
  same = singles_one cs (fresh_at R)

  -- the samples are counted
  pub as_counted : (run receiver (fresh_at R) (map one cs)).control.sample ≡ fed_at R cs
  as_counted =
      sym (ap (λ (m : SoftDemodulator). m.control.sample) (singles_record (map one cs) (fresh_at R)))
      ∙ ap (λ (l : List Single). (record_after R l).control.sample) same ∙ (singles_run R F cs small).0.count

  -- a take, and a due frame, which is among the answers
  pub as_taken : (n : ℕ) → Started (log_at R cs) n → TakenSeen R (singles_from (fresh_at R) (map one cs)) n
  as_taken n s = subst (λ (l : List Single). TakenSeen R l n) (sym same) ((taken_exactly R F cs small n).1 s)

  pub as_offered : (d : ℕ) (x : Shown) → In (FellDue d x) (log_at R cs) → Memᴰ (offer_of x d) (offers_in (answers receiver (fresh_at R) (map one cs)))
  as_offered d x i =
      ((demand_three R F (map one cs) as_given).offers (offer_of x d)).1
      (subst (λ (l : List Single). DueSeen R l (offer_of x d)) (sym same) ((due_exactly R F cs small (offer_of x d)).1 (x, refl, i)))
