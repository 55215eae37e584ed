-- The record and the rules over single calls, as two machines of which one simulates the other at either rate: listening lists
-- the same offers. Assumes nothing.
use mathlib.Core.Path.{◌≡◌}
use mathlib.Core.List.{List}
use lib.IntN.{ℤ}
use mir.Syntax.{w16}
use mir.Val.{SFits}
use Rattle.machine.specs.Runs.{Each, Simulates}
use Rattle.shaping.specs.Rate.{Rate}
use Rattle.shaping.proofs.RateFacts.{Facts}
use Rattle.search.specs.declared.Reply.{Reply}
use Rattle.demodulator.specs.declared.SoftDemodulator.{SoftDemodulator}
use Rattle.demodulator.specs.Singles.{reply, Said}
use Rattle.demodulator_run.specs.Rules.{History, start}
use Rattle.demodulator_run.specs.Run.{fresh_at, Callable}
use Rattle.demodulator_run.proofs.Whole.{Stands, stands_start}
use Rattle.demodulator_run.proofs.SinglesRun.{follows}
use Rattle.listening.specs.Listener.{Rule, listener, offers, own_record}
use Rattle.listening.specs.Rules.{rules_at}
use Rattle.listening.proofs.Listener.{listening_alike, offers_alike}

module _ (R : Rate) (F : Facts R) where
  free : (r : Reply) → Callable (reply r)
  unfolding Callable
  free r = tt

  -- by any rule of reply
  module _ (rule : Rule) where
    pub listens : Simulates SoftDemodulator History ℤ Said (listener own_record rule) (listener (rules_at R) rule) (Stands R F) (SFits w16)
    unfolding Callable
    listens = listening_alike (follows R F) free rule

    pub offers_agree : (xs : List ℤ) → Each (SFits w16) xs → (m : SoftDemodulator) (h : History) → Stands R F m h
        → offers own_record rule m xs ≡ offers (rules_at R) rule h xs
    unfolding Callable
    offers_agree = offers_alike (follows R F) free rule

    -- from a fresh start
    pub same_offers : (xs : List ℤ) → Each (SFits w16) xs → offers own_record rule (fresh_at R) xs ≡ offers (rules_at R) rule start xs
    same_offers xs g = offers_agree xs g (fresh_at R) start (stands_start R F)
