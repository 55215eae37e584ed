-- What every sample and every reply keeps, listening keeps. Assumes nothing.
use mathlib.Core.List.{List, [], ◌∷◌, map}
use lib.IntN.{ℤ}
use lib.Ieee.{Float}
use Rattle.machine.specs.Runs.{run, Each}
use Rattle.shaping.specs.Rate.{Rate}
use Rattle.search.specs.declared.Reply.{Reply}
use Rattle.demodulator.specs.Singles.{sample, reply, blank}
use Rattle.demodulator_run.specs.Rules.{History, single}
use Rattle.listening.specs.Listener.{Rule, Listed, listed_in, reply_to, listener}
use Rattle.listening.specs.Rules.{rules_at}

module _ (R : Rate) (rule : Rule) (P : History → Type 0) (Q : ℤ → Type 0)
    (samples : (h : History) (x : ℤ) (room : List Float) → Q x → P h → P (single R.taps R.p h (sample x room)).history)
    (replies : (h : History) (r : Reply) → P h → P (single R.taps R.p h (reply r)).history) where
  replies_keep : (os : List Listed) (h : History) → P h → P (run (rules_at R) h (map reply_to os))
  unfolding run
  replies_keep [] h k = k
  replies_keep (o ∷ os) h k = replies_keep os _ (replies h o.reply k)

  pub listening_keeps : (xs : List ℤ) → Each Q xs → (h : History) → P h → P (run (listener (rules_at R) rule) h xs)
  unfolding run Each
  listening_keeps [] q h k = k
  listening_keeps (x ∷ xs) q h k =
      listening_keeps xs q.1 _ (replies_keep (listed_in rule ((rules_at R).says h (sample x blank))) _ (samples h x blank q.0 k))
