-- What holds in each case of a call holds of what comes of it, for record and rules alike. Assumes nothing.
use Rattle.std.specs.Prelude.{Option, Some, None}
use mathlib.Core.Path.{◌≡◌, refl}
use mathlib.Core.Bool.{true, false, not}
use mathlib.Core.List.{List}
use Prim.Native.Nat.{ℕ, ◌≤◌, ◌<◌}
use borrow.Author.Tests.{ltb-true, ltb-false, not-true, not-false}
use lib.Dec.{eqb, ltb}
use lib.ListN.{length, get_or}
use lib.Ieee.{Float, nan}
use lib.Ieee.Bits.{is_true}
use Rattle.numbers.proofs.Below.{below_all, all_failed}
use Rattle.protocol.specs.Refusals.{bare, placed}
use Rattle.given_symbols.specs.declared.Traffic.{Traffic}
use Rattle.given_symbols.specs.Offender.{PaperVerdict, refused, fine, symbol_fit, all_fit, earlier, judged_below, headed, head_judged, judged_as}
use Rattle.given_symbols.proofs.FirstOf.{FirstOf, none, first, first_of}
use Rattle.modulator.specs.declared.SampleCount.{SampleCount}
use Rattle.modulator.specs.Paper.{refusal, done, transmit_end, read_output, idle, get_frame, nothing}
use Rattle.modulator.specs.Frame.{given}
use Rattle.modulator.specs.Control.{Control, buffer_of, end_after_lem, updated_pending_lem, reported, idled}
use Rattle.modulator.specs.Outcome.{Outcome, only, told, sends, judged_outcome, too_large, update_outcome, action_by, action_outcome}
use Rattle.modulator_laws.proofs.Picked.{picked}

module _ (s : Control) (P : Outcome → Type 0) where
  abbrev Of : List Float → PaperVerdict → Type 0
  Of symbols a = P (judged_outcome a symbols s)

  pub each_given : (traffic : Traffic) (symbols : List Float) → (eqb (length symbols) 192 ≡ false → P (only (refusal (bare 6))))
      → ((number place : ℕ) → all_fit symbols ≡ false → P (only (refusal (placed number place))))
      → (eqb (length symbols) 192 ≡ true → all_fit symbols ≡ true → headed traffic symbols ≡ false → P (only (refusal (bare 11))))
      → (eqb (length symbols) 192 ≡ true → all_fit symbols ≡ true → headed traffic symbols ≡ true → P (sends (given symbols) s.progress.tx_delay_padding.0 s.pending))
      → P (judged_outcome (judged_as traffic symbols) symbols s)
  unfolding judged_as
  each_given traffic symbols miscounted outside unheaded taken =
      picked (Of symbols) (not (eqb (length symbols) 192)) (refused (bare 6)) (earlier (judged_below 192 symbols) (head_judged traffic symbols)) (λ e. miscounted (not-true _ e)) λ e.
      by_first (not-false _ e) (judged_below 192 symbols) (first_of symbols 192)
    where
      by_first : eqb (length symbols) 192 ≡ true → (a : PaperVerdict) → FirstOf symbols 192 a → Of symbols (earlier a (head_judged traffic symbols))
      by_first counted fine (none all) =
          let fits = is_true _ (below_all 192 (λ (i : ℕ). symbol_fit (get_or symbols i nan)) all) in
          picked (Of symbols) (headed traffic symbols) fine (refused (bare 11)) (taken counted fits) (unheaded counted fits)
      by_first counted (refused why) (first _ number place e l o) = rw e (outside number place (all_failed 192 (λ (i : ℕ). symbol_fit (get_or symbols i nan)) place l o.outside))

  pub each_update : (p fill capacity latency : ℕ) → (too_large fill capacity latency ≡ true → P (only (refusal (bare 8)))) → (too_large fill capacity latency ≡ false → capacity < fill → P (only (refusal (bare 9))))
      → (too_large fill capacity latency ≡ false → fill ≤ capacity → P (told done (updated_pending_lem p fill capacity (end_after_lem fill latency s.progress) s.pending) (buffer_of fill capacity latency)))
      → P (update_outcome p fill capacity latency s)
  unfolding update_outcome
  each_update p fill capacity latency large below taken =
      picked P (too_large fill capacity latency) _ _ large λ small.
      picked P (ltb capacity fill) _ _ (λ l. below small (ltb-true capacity fill l)) λ l.
      taken small (ltb-false capacity fill l)

  -- the cases of an action request, with what is known in each
  pub record ActionCases : Type 0 where
    pub told_end : (end : SampleCount) → s.pending.report_tx_end ≡ Some end → P (told (transmit_end end.0) (reported s.pending) s.buffer)
    pub unread : s.pending.report_tx_end ≡ None → s.progress.next_read < s.progress.next_len → P (only read_output)
    pub idles : s.pending.report_tx_end ≡ None → s.progress.next_len ≤ s.progress.next_read → s.pending.update_idle ≡ true → P (told (idle true) (idled s.pending) s.buffer)
    pub wishes : s.pending.report_tx_end ≡ None → s.progress.next_len ≤ s.progress.next_read → s.pending.update_idle ≡ false → P (only get_frame)
    pub rests : s.pending.report_tx_end ≡ None → s.progress.next_len ≤ s.progress.next_read → s.pending.update_idle ≡ false → P (only nothing)

  pub each_action : ActionCases → P (action_outcome s)
  unfolding action_by
  each_action k = by_report s.pending.report_tx_end refl
    where
      by_report : (report : Option SampleCount) → s.pending.report_tx_end ≡ report → P (action_by report s)
      by_report (Some end) r = k.told_end end r
      by_report None r =
          picked P (ltb s.progress.next_read s.progress.next_len) _ _ (λ l. k.unread r (ltb-true _ _ l)) λ l.
          let all = ltb-false _ _ l in
          picked P s.pending.update_idle _ _ (λ i. k.idles r all i) λ i.
          picked P s.pending.try_get_frame _ _ (λ _. k.wishes r all i) (λ _. k.rests r all i)
