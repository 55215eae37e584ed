-- What holds of a call in each case of the rules holds of every call. Assumes nothing.
use Rattle.std.specs.Prelude.{Some, None}
use mathlib.Core.Path.{◌≡◌, refl}
use mathlib.Core.Bool.{Bool, true, false, ◌&&◌}
use mathlib.Core.List.{List, []}
use Prim.Native.Nat.{ℕ, ◌≤◌, ◌<◌}
use borrow.Author.Tests.{lt-ltb, le-ltb}
use lib.Dec.{eqb}
use lib.IntN.{ℤ}
use lib.ListN.{length}
use lib.Ieee.{Float}
use Rattle.shaping.specs.Rate.{Rate}
use Rattle.protocol.specs.Refusals.{PaperRefusal, bare, placed}
use Rattle.given_symbols.specs.declared.Traffic.{Traffic}
use Rattle.modulator.specs.declared.DelaySteps.{DelaySteps}
use Rattle.modulator.specs.declared.SampleCount.{SampleCount}
use Rattle.modulator.specs.declared.ModulatorFrame.{ModulatorFrame}
use Rattle.modulator.specs.declared.ModulatorFrame.TheVariants.{Nothing as NoFrame, Preamble, Symbols as GivenSymbols, EndOfTransmission}
use Rattle.modulator.specs.Paper.{refusal, done, transmit_end, read_output, idle, get_frame, nothing}
use Rattle.modulator.specs.Frame.{preamble, given, ending, padding_of}
use Rattle.modulator.specs.Control.{buffer_of, dropped, ended, end_after_lem, updated_pending_lem, reported, idled}
use Rattle.modulator.specs.Outcome.{Outcome, frame_outcome, update_outcome, action_outcome}
use Rattle.modulator_laws.proofs.EachCase.{each_given, each_update, each_action}
use Rattle.modulator_run.specs.Rules.{Call, provide, read, update, ask, Sent, After, control_in, after, with_pending, framed, settled, drained, called}
use Rattle.modulator_run.specs.Kinds.{stores, replaces}

-- a call that is refused, by a number other than 1
pub data Refusing : Call → PaperRefusal → Type 0 where
  miscounted : {traffic : Traffic} {symbols : List Float} → replaces (provide (GivenSymbols traffic) symbols) ≡ false → Refusing (provide (GivenSymbols traffic) symbols) (bare 6)
  outside : {traffic : Traffic} {symbols : List Float} {number place : ℕ} → replaces (provide (GivenSymbols traffic) symbols) ≡ false → Refusing (provide (GivenSymbols traffic) symbols) (placed number place)
  unheaded : {traffic : Traffic} {symbols : List Float} → replaces (provide (GivenSymbols traffic) symbols) ≡ false → Refusing (provide (GivenSymbols traffic) symbols) (bare 11)
  large : {fill capacity latency : ℕ} → stores (update fill capacity latency) ≡ false → Refusing (update fill capacity latency) (bare 8)
  below : {fill capacity latency : ℕ} → stores (update fill capacity latency) ≡ false → Refusing (update fill capacity latency) (bare 9)

none_too : (b : Bool) → b && false ≡ false
none_too true = refl
none_too false = refl

module _ (R : Rate) (s : Sent) (P : Call → After → Type 0) where
  -- the cases of the rules, with what is known in each
  pub record Cases : Type 0 where
    pub refused : (c : Call) (number : PaperRefusal) → Refusing c number → P c (after (refusal number) [] s)
    pub no_frame : (symbols : List Float) → P (provide NoFrame symbols) (after done [] (with_pending (dropped s.pending) s.buffer s))
    pub delayed : (traffic : Traffic) (steps : DelaySteps) (symbols : List Float)
        → P (provide (Preamble traffic steps) symbols) (after done [] (framed R (preamble traffic) (padding_of R.p steps.0 s.buffer.output_latency.0) s.pending s))
    pub symbols_given : (traffic : Traffic) (symbols : List Float) → replaces (provide (GivenSymbols traffic) symbols) ≡ true
        → P (provide (GivenSymbols traffic) symbols) (after done [] (framed R (given symbols) s.progress.tx_delay_padding.0 s.pending s))
    pub last_frame : (symbols : List Float) → P (provide EndOfTransmission symbols) (after done [] (framed R ending s.progress.tx_delay_padding.0 (ended s.pending) s))
    pub reads : (room : List ℤ) → P (read room) (drained R room s)
    pub stored : (fill capacity latency : ℕ) → stores (update fill capacity latency) ≡ true
        → P (update fill capacity latency)
        (after done [] (with_pending (updated_pending_lem R.p fill capacity (end_after_lem fill latency s.progress) s.pending) (buffer_of fill capacity latency) s))
    pub told : (end : SampleCount) → s.pending.report_tx_end ≡ Some end → P ask (after (transmit_end end.0) [] (with_pending (reported s.pending) s.buffer s))
    pub unread : s.pending.report_tx_end ≡ None → s.progress.next_read < s.progress.next_len → P ask (after read_output [] s)
    pub idles : s.pending.report_tx_end ≡ None → s.progress.next_len ≤ s.progress.next_read → s.pending.update_idle ≡ true
        → P ask (after (idle true) [] (with_pending (idled s.pending) s.buffer s))
    pub wishes : s.pending.report_tx_end ≡ None → s.progress.next_len ≤ s.progress.next_read → s.pending.update_idle ≡ false → P ask (after get_frame [] s)
    pub rests : s.pending.report_tx_end ≡ None → s.progress.next_len ≤ s.progress.next_read → s.pending.update_idle ≡ false → P ask (after nothing [] s)

  module _ (k : Cases) where
    each_provided : (frame : ModulatorFrame) (symbols : List Float) → P (provide frame symbols) (settled R s (frame_outcome R.p frame symbols (control_in s)))
    unfolding settled frame_outcome replaces
    each_provided NoFrame symbols = k.no_frame symbols
    each_provided (Preamble traffic steps) symbols = k.delayed traffic steps symbols
    each_provided (GivenSymbols traffic) symbols =
        each_given (control_in s) (λ (o : Outcome). P (provide (GivenSymbols traffic) symbols) (settled R s o)) traffic symbols
        (λ e. k.refused _ (bare 6) (miscounted (rw e)))
        (λ number place e. k.refused _ (placed number place) (outside (rw e (none_too (eqb (length symbols) 192)))))
        (λ n e h. k.refused _ (bare 11) (unheaded (rw (n, e, h))))
        (λ n e h. k.symbols_given traffic symbols (rw (n, e, h)))
    each_provided EndOfTransmission symbols = k.last_frame symbols

    each_updated : (fill capacity latency : ℕ) → P (update fill capacity latency) (settled R s (update_outcome R.p fill capacity latency (control_in s)))
    unfolding settled stores
    each_updated fill capacity latency =
        each_update (control_in s) (λ (o : Outcome). P (update fill capacity latency) (settled R s o)) R.p fill capacity latency
        (λ e. k.refused _ (bare 8) (large (rw e)))
        (λ e l. k.refused _ (bare 9) (below (rw (e, lt-ltb capacity fill l))))
        (λ e l. k.stored fill capacity latency (rw (e, le-ltb capacity fill l)))

    each_asked : P ask (settled R s (action_outcome (control_in s)))
    unfolding settled
    each_asked =
        each_action (control_in s) (λ (o : Outcome). P ask (settled R s o)) (record { told_end = k.told; unread = k.unread; idles = k.idles; wishes = k.wishes; rests = k.rests })

    pub each_call : (c : Call) → P c (called R s c)
    unfolding called
    each_call (provide frame symbols) = each_provided frame symbols
    each_call (read room) = k.reads room
    each_call (update fill capacity latency) = each_updated fill capacity latency
    each_call ask = each_asked
