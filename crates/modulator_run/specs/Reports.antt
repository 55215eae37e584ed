-- When an end is owed, with which number it is reported, and when idle is told: the end by the calls alone, idle by the
-- calls and what the rules then hold. Over p, the samples in a symbol. Assumes nothing.
use Rattle.std.specs.Prelude.{◌≡◌, List, [], ◌∷◌, ◌++◌, ℕ, ◌+◌, ◌≤◌, T, None}
use Rattle.shaping.specs.Rate.{Rate}
use Rattle.modulator.specs.Control.{end_report}
use Rattle.modulator_run.specs.Rules.{Call, update, ask, Sent, sent_all}
use Rattle.modulator_run.specs.Kinds.{stores, asks, ends, none, Lasting}
use Rattle.modulator_run.specs.Padding.{PaddingLeft}
use Rattle.modulator_run.specs.Unread.{UnreadLeft}

-- ---- the end
-- an end of transmission was provided, and no update was taken since
abbrev pub Owed : List Call → Type 0
Owed cs = Lasting ends stores cs

-- "If a transmit end is owed, it is reported": among these calls is an update that finds an end owed by one of them.
pub record Reporting (cs : List Call) : Type 0 where
  pub before : List Call
  pub fill : ℕ
  pub capacity : ℕ
  pub latency : ℕ
  pub since : List Call
  pub parts : cs ≡ before ++ update fill capacity latency ∷ since
  pub taken : T (stores (update fill capacity latency))
  pub owed : Owed before

-- the calls up to that update
abbrev pub up_to : (cs : List Call) → Reporting cs → List Call
up_to cs r = r.before ++ update r.fill r.capacity r.latency ∷ []

-- what an update after the calls `cs` reports: "fill + latency + padding left + frame samples unread"
pub record ReportedEnd (p : ℕ) (cs : List Call) (fill latency n : ℕ) : Type 0 where
  pub padding : ℕ
  pub unread : ℕ
  pub padding_left : PaddingLeft p cs padding
  pub unread_left : UnreadLeft p cs unread
  pub samples : n ≡ end_report fill latency padding unread

-- what document 01 has in its place: "it is reported as fill + latency"
abbrev pub end_before : ℕ → ℕ → ℕ
end_before fill latency = fill + latency

-- Samples n from an update to the end, not told yet: the last update that found an end owed made the report, and no action was asked for since.
pub record Untold (p : ℕ) (cs : List Call) (n : ℕ) : Type 0 where
  pub report : Reporting cs
  pub number : ReportedEnd p report.before report.fill report.latency n
  pub unasked : T (none asks report.since)
  pub newest : Reporting report.since → ⊥

-- "transmit end (once)": after the calls `cs` an action was asked for; of the calls `ds` since then one is an update that
-- found an end owed, and n samples are what it reported.
pub record NewReport (p : ℕ) (cs ds : List Call) (n : ℕ) : Type 0 where
  pub between : List Call
  pub fill : ℕ
  pub capacity : ℕ
  pub latency : ℕ
  pub since : List Call
  pub parts : ds ≡ between ++ update fill capacity latency ∷ since
  pub taken : T (stores (update fill capacity latency))
  pub owed : Owed (cs ++ ask ∷ between)
  pub number : ReportedEnd p (cs ++ ask ∷ between) fill latency n

-- ---- idle
-- no report and no unread frame sample
pub record Free (s : Sent) : Type 0 where
  pub no_report_lem : s.pending.report_tx_end ≡ None
  pub all_read : s.progress.next_len ≤ s.progress.next_read

-- "idle yes (once from a fresh start)": some earlier action request found neither
pub record FreeBefore (R : Rate) (cs : List Call) : Type 0 where
  pub before : List Call
  pub since : List Call
  pub parts : cs ≡ before ++ ask ∷ since
  pub free : Free (sent_all R before)
