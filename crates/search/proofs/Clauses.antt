-- The clauses of a fit control one by one, and joined again. Assumes nothing.
use mathlib.Core.Bool.{Bool, ◌&&◌}
use Prim.Native.Nat.{ℕ}
use lib.Dec.{T}
use lib.Ieee.Fits.{and_i, and_l, and_r}
use Rattle.search.specs.declared.Control.{Control}
use Rattle.search.specs.Fit.{count_fit_lem, timer_fit_lem, candidate_fit_lem, wait_fit_lem, reply_fit, taken_fit_lem, kept_fit_lem, control_fit_lem}

pub record Clauses (p : ℕ) (c : Control) : Type 0 where
  pub count : T (count_fit_lem c)
  pub timer : T (timer_fit_lem p c.dcd)
  pub candidate : T (candidate_fit_lem c.candidate)
  pub wait : T (wait_fit_lem p c.wait c.candidate c.owed)
  pub reply : T (reply_fit c.owed c.candidate)
  pub taken : T (taken_fit_lem c.sample c.candidate)
  pub kept : T (kept_fit_lem c.wait)

module _ (p : ℕ) (c : Control) where
  abbrev timers : Bool
  timers = timer_fit_lem p c.dcd

  abbrev candidates : Bool
  candidates = candidate_fit_lem c.candidate

  abbrev waits : Bool
  waits = wait_fit_lem p c.wait c.candidate c.owed

  abbrev replies : Bool
  replies = reply_fit c.owed c.candidate

  abbrev takes : Bool
  takes = taken_fit_lem c.sample c.candidate

  pub clauses : T (control_fit_lem p c) → Clauses p c
  unfolding control_fit_lem
  clauses t =
      let six = and_l (count_fit_lem c && timers && candidates && waits && replies && takes) (kept_fit_lem c.wait) t in
      let five = and_l (count_fit_lem c && timers && candidates && waits && replies) takes six in
      let four = and_l (count_fit_lem c && timers && candidates && waits) replies five in
      let three = and_l (count_fit_lem c && timers && candidates) waits four in
      let two = and_l (count_fit_lem c && timers) candidates three in
      record {
        count = and_l (count_fit_lem c) timers two;
        timer = and_r (count_fit_lem c) timers two;
        candidate = and_r (count_fit_lem c && timers) candidates three;
        wait = and_r (count_fit_lem c && timers && candidates) waits four;
        reply = and_r (count_fit_lem c && timers && candidates && waits) replies five;
        taken = and_r (count_fit_lem c && timers && candidates && waits && replies) takes six;
        kept = and_r (count_fit_lem c && timers && candidates && waits && replies && takes) (kept_fit_lem c.wait) t;
      }

  pub joined : Clauses p c → T (control_fit_lem p c)
  unfolding control_fit_lem
  joined s =
      and_i (count_fit_lem c && timers && candidates && waits && replies && takes) (kept_fit_lem c.wait)
      (and_i (count_fit_lem c && timers && candidates && waits && replies) takes
      (and_i (count_fit_lem c && timers && candidates && waits) replies
      (and_i (count_fit_lem c && timers && candidates) waits
      (and_i (count_fit_lem c && timers) candidates
      (and_i (count_fit_lem c) timers s.count s.timer) s.candidate) s.wait) s.reply) s.taken) s.kept
