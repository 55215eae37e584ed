-- Demand 3 over the log at each of the two rates, for every list of calls whose samples are i16s: one statement over the rate, opened twice. Assumes nothing.
use mathlib.Core.List.{List}
use Prim.Native.Nat.{ℕ, ◌+◌, ◌-◌, ◌*◌, ◌≤◌}
use Rattle.machine.specs.Runs.{Each}
use Rattle.shaping.specs.Taps.{taps, even_taps}
use Rattle.shaping.specs.Rate.{at48, at24}
use Rattle.shaping.proofs.RateFacts.{facts48, facts24}
use Rattle.demodulator_run.specs.Rules.{Single}
use Rattle.demodulator_run.specs.Demands.{DueWithin, FromWithin, AtMostOne, AgeAtMost, SwitchEarlier, DueCause, DueRule, SymbolLies}
use Rattle.demodulator_run.specs.Run.{Callable}
use Rattle.demodulator_run.proofs.DemandAt.{history_at, ear_at, log_at, fed_at, SwitchesHeld, LogExact, DueOffered, switch_earlier_at, switch_held_at, due_span_at, due_cause_at, due_from_at, due_once_at, age_limit_at, due_rule_at, due_span_sharp_at, age_limit_sharp_at, log_exact_at, due_offered_at, symbol_zero_at, symbol_place_at}

module _ (cs : List Single) (small : Each Callable cs) where
  pub switch_earlier_48 : SwitchEarlier (log_at at48 cs)
  switch_earlier_48 = switch_earlier_at at48 facts48 cs small

  pub switch_earlier_24 : SwitchEarlier (log_at at24 cs)
  switch_earlier_24 = switch_earlier_at at24 facts24 cs small

  pub switch_held_48 : SwitchesHeld at48 cs
  switch_held_48 = switch_held_at at48 facts48 cs small

  pub switch_held_24 : SwitchesHeld at24 cs
  switch_held_24 = switch_held_at at24 facts24 cs small

  -- ---- the span: "n+1,839 to n+1,879"; document 02 k): "n+919 to n+939"
  pub due_span_48 : DueWithin 1839 1879 (fed_at at48 cs) (log_at at48 cs)
  due_span_48 = due_span_at at48 facts48 cs small

  pub due_span_24 : DueWithin 919 939 (fed_at at24 cs) (log_at at24 cs)
  due_span_24 = due_span_at at24 facts24 cs small

  pub due_span_sharp_48 : DueWithin 1839 1849 (fed_at at48 cs) (log_at at48 cs)
  due_span_sharp_48 = due_span_sharp_at at48 facts48 cs small

  pub due_span_sharp_24 : DueWithin 919 924 (fed_at at24 cs) (log_at at24 cs)
  due_span_sharp_24 = due_span_sharp_at at24 facts24 cs small

  pub due_once_48 : (n : ℕ) → AtMostOne (log_at at48 cs) (n + 1839) (n + 1879)
  due_once_48 = due_once_at at48 facts48 cs small

  pub due_once_24 : (n : ℕ) → AtMostOne (log_at at24 cs) (n + 919) (n + 939)
  due_once_24 = due_once_at at24 facts24 cs small

  pub due_cause_48 : DueCause (ear_at at48 cs) 10 1850 (fed_at at48 cs) (log_at at48 cs)
  due_cause_48 = due_cause_at at48 facts48 cs small

  pub due_cause_24 : DueCause (ear_at at24 cs) 5 925 (fed_at at24 cs) (log_at at24 cs)
  due_cause_24 = due_cause_at at24 facts24 cs small

  pub due_from_48 : FromWithin 1839 1849 (log_at at48 cs)
  due_from_48 = due_from_at at48 facts48 cs small

  pub due_from_24 : FromWithin 919 924 (log_at at24 cs)
  due_from_24 = due_from_at at24 facts24 cs small

  -- ---- the age: "never passes 11"; "age at most 6"
  pub age_limit_48 : AgeAtMost 11 (history_at at48 cs).control.candidate
  age_limit_48 = age_limit_at at48 facts48 cs small

  pub age_limit_24 : AgeAtMost 6 (history_at at24 cs).control.candidate
  age_limit_24 = age_limit_at at24 facts24 cs small

  pub age_limit_sharp_48 : AgeAtMost 10 (history_at at48 cs).control.candidate
  age_limit_sharp_48 = age_limit_sharp_at at48 facts48 cs small

  pub age_limit_sharp_24 : AgeAtMost 5 (history_at at24 cs).control.candidate
  age_limit_sharp_24 = age_limit_sharp_at at24 facts24 cs small

  -- ---- the due sample: 1,840 = 184p or 1,839 after b; 920 or 919
  pub due_rule_48 : DueRule (ear_at at48 cs) 10 (fed_at at48 cs) (log_at at48 cs)
  due_rule_48 = due_rule_at at48 facts48 cs small

  pub due_rule_24 : DueRule (ear_at at24 cs) 5 (fed_at at24 cs) (log_at at24 cs)
  due_rule_24 = due_rule_at at24 facts24 cs small

  -- ---- the log and the window
  pub log_exact_48 : LogExact at48 cs
  log_exact_48 = log_exact_at at48 facts48 cs small

  pub log_exact_24 : LogExact at24 cs
  log_exact_24 = log_exact_at at24 facts24 cs small

  pub due_offered_48 : DueOffered at48 cs
  due_offered_48 = due_offered_at at48 facts48 cs small

  pub due_offered_24 : DueOffered at24 cs
  due_offered_24 = due_offered_at at24 facts24 cs small

  pub symbol_zero_48 : SymbolLies (ear_at at48 cs) taps 10 0 (λ b. b - 71) (λ b. b - 70)
  symbol_zero_48 = symbol_zero_at at48 facts48 cs small

  pub symbol_zero_24 : SymbolLies (ear_at at24 cs) even_taps 5 0 (λ b. b - 36) (λ b. b - 35)
  symbol_zero_24 = symbol_zero_at at24 facts24 cs small

  pub symbol_place_48 : (i : ℕ) → i ≤ 191 → SymbolLies (ear_at at48 cs) taps 10 i (λ b. (b + 10 * i) - 71) (λ b. (b + 10 * i) - 70)
  symbol_place_48 = symbol_place_at at48 facts48 cs small

  pub symbol_place_24 : (i : ℕ) → i ≤ 191 → SymbolLies (ear_at at24 cs) even_taps 5 i (λ b. (b + 5 * i) - 36) (λ b. (b + 5 * i) - 35)
  symbol_place_24 = symbol_place_at at24 facts24 cs small
