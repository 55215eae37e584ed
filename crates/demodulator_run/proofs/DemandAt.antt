-- Demand 3 at a rate, over every list of single calls. Assumes nothing.
use mathlib.Core.Path.{◌≡◌}
use mathlib.Core.Logic.{◌↔◌}
use mathlib.Core.List.{List, ◌∷◌, ◌++◌}
use Prim.Native.Nat.{ℕ, ◌+◌, ◌-◌, ◌*◌, ◌≤◌}
use native.Mathlib.Omega.{arith}
use Rattle.machine.specs.Runs.{Each}
use Rattle.shaping.specs.Rate.{Rate}
use Rattle.shaping.proofs.RateFacts.{Facts}
use Rattle.search.specs.declared.Shown.{Shown}
use Rattle.demodulator_run.specs.Rules.{Single, History, start, single, history_all}
use Rattle.demodulator_run.specs.Marks.{Mark, log_all, FellDue}
use Rattle.demodulator_run.specs.Demands.{SymbolSize, Ear, Alone, NotAgain, Apart, DueWithin, FromWithin, AtMostOne, AgeAtMost, SwitchEarlier, SwitchHeld, DueCause, DueRule, In, SymbolLies}
use Rattle.demodulator_run.specs.Exact.{MarkedAt, OfferedAt}
use Rattle.demodulator_run.specs.Run.{Callable}
use Rattle.demodulator_run.proofs.EarLaws.{alone_of, again_of, apart_of}
use Rattle.demodulator_run.proofs.Sixteen.{filtered_range, taps_size}
use Rattle.demodulator_run.proofs.Demand.{ear_all, fed_all, due_span, due_once, age_limit, due_rule, due_span_sharp, due_cause_sharp, due_from_sharp, age_limit_sharp}
use Rattle.demodulator_run.proofs.LogExact.{log_exact}
use Rattle.demodulator_run.proofs.Switch.{switch_earlier, switch_held}
use Rattle.demodulator_run.proofs.Window.{due_offered, symbol_zero, symbol_place}

pub size_at : (R : Rate) → Facts R → SymbolSize R.p
size_at R F = let u = F.some in let v = F.few in (omega arith, omega arith)

module _ (R : Rate) where
  -- what the calls come to, what is heard and logged in them, and how many samples were admitted
  abbrev pub history_at : List Single → History
  history_at cs = history_all R.taps R.p cs

  abbrev pub ear_at : List Single → Ear
  ear_at cs = ear_all R.taps R.p cs

  abbrev pub log_at : List Single → List Mark
  log_at cs = log_all R.taps R.p cs

  abbrev pub fed_at : List Single → ℕ
  fed_at cs = fed_all R.taps R.p cs

  -- of the control before and after each of the calls
  abbrev pub SwitchesHeld : List Single → Type 0
  SwitchesHeld cs =
      (before : List Single) (call : Single) (after : List Single) → cs ≡ before ++ (call ∷ after)
      → SwitchHeld (history_at before).control (single R.taps R.p (history_at before) call).history.control

  -- each mark in the log is there by the rules
  abbrev pub LogExact : List Single → Type 0
  LogExact cs = (y : Mark) → In y (log_at cs) ↔ MarkedAt R.taps R.p (ear_at cs) y start cs

  -- each due frame is an offer
  abbrev pub DueOffered : List Single → Type 0
  DueOffered cs = (d : ℕ) (x : Shown) → In (FellDue d x) (log_at cs) → OfferedAt R.taps R.p d x cs

module _ (R : Rate) (F : Facts R) (cs : List Single) (small : Each Callable cs) where
  pub alone_at : Alone (ear_at R cs)
  alone_at = alone_of R.taps R.p (taps_size R F) (history_at R cs).samples (filtered_range R F cs small)

  pub again_at : NotAgain (ear_at R cs) R.p
  again_at = again_of R.taps R.p (taps_size R F) (history_at R cs).samples (filtered_range R F cs small)

  pub apart_at : Apart (ear_at R cs) R.p
  apart_at = apart_of R.taps R.p (taps_size R F) (history_at R cs).samples (filtered_range R F cs small)

  pub switch_earlier_at : SwitchEarlier (log_at R cs)
  switch_earlier_at = switch_earlier R.taps R.p (size_at R F) cs alone_at again_at

  pub switch_held_at : SwitchesHeld R cs
  switch_held_at = switch_held R.taps R.p (size_at R F) cs alone_at again_at

  pub due_span_at : DueWithin (184 * R.p - 1) (188 * R.p - 1) (fed_at R cs) (log_at R cs)
  due_span_at = due_span R.taps R.p (size_at R F) cs alone_at again_at

  pub due_cause_at : DueCause (ear_at R cs) R.p (185 * R.p) (fed_at R cs) (log_at R cs)
  due_cause_at = due_cause_sharp R.taps R.p (size_at R F) cs alone_at apart_at

  pub due_from_at : FromWithin (184 * R.p - 1) (185 * R.p - 1) (log_at R cs)
  due_from_at = due_from_sharp R.taps R.p (size_at R F) cs alone_at apart_at

  pub due_once_at : (n : ℕ) → AtMostOne (log_at R cs) (n + (184 * R.p - 1)) (n + (188 * R.p - 1))
  due_once_at = due_once R.taps R.p (size_at R F) cs alone_at again_at

  pub age_limit_at : AgeAtMost (R.p + 1) (history_at R cs).control.candidate
  age_limit_at = age_limit R.taps R.p (size_at R F) cs alone_at again_at

  pub due_rule_at : DueRule (ear_at R cs) R.p (fed_at R cs) (log_at R cs)
  due_rule_at = due_rule R.taps R.p (size_at R F) cs alone_at again_at

  pub due_span_sharp_at : DueWithin (184 * R.p - 1) (185 * R.p - 1) (fed_at R cs) (log_at R cs)
  due_span_sharp_at = due_span_sharp R.taps R.p (size_at R F) cs alone_at apart_at

  pub age_limit_sharp_at : AgeAtMost R.p (history_at R cs).control.candidate
  age_limit_sharp_at = age_limit_sharp R.taps R.p (size_at R F) cs alone_at apart_at

  -- ---- the log and the window
  pub log_exact_at : LogExact R cs
  log_exact_at = log_exact R.taps R.p (size_at R F) cs alone_at again_at

  pub due_offered_at : DueOffered R cs
  due_offered_at = due_offered R.taps R.p (size_at R F) cs alone_at again_at

  pub symbol_zero_at : SymbolLies (ear_at R cs) R.taps R.p 0 (λ b. b - (7 * R.p + 1)) (λ b. b - 7 * R.p)
  symbol_zero_at = symbol_zero R.taps (ear_at R cs) R.p

  pub symbol_place_at : (i : ℕ) → i ≤ 191 → SymbolLies (ear_at R cs) R.taps R.p i (λ b. (b + R.p * i) - (7 * R.p + 1)) (λ b. (b + R.p * i) - 7 * R.p)
  symbol_place_at i l b k s d x D xs n = symbol_place R.taps (ear_at R cs) R.p b k s d x D xs n i l
