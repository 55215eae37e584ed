-- Demand 3 on three lists of samples: the span, the rule, its corner, and a replacement. Assumes nothing.
use Rattle.std.specs.Prelude.{Some}
use mathlib.Core.Path.{◌≡◌, sym, ap, ◌∙◌, subst}
use mathlib.Core.Bool.{true, false}
use mathlib.Core.Logic.{◌⊎◌, inl, inr}
use mathlib.Core.List.{List}
use Prim.Native.Nat.{ℕ, ◌+◌, ◌-◌, ◌*◌, ◌≤◌}
use native.Mathlib.Omega.{arith}
use lib.Dec.{lit≤, lit<}
use lib.IntN.{ℤ}
use lib.ListN.{length}
use lib.Ieee.{lt}
use Rattle.numbers.proofs.Tests.{holds}
use Rattle.shaping.specs.Taps.{taps}
use Rattle.protocol.specs.declared.Kind.TheVariants.{Lsf, Stream}
use Rattle.protocol.specs.declared.SyncBurst.TheVariants.{Frame}
use Rattle.decode.specs.declared.Correlation.{Correlation}
use Rattle.decode.specs.Correlator.{correlation}
use Rattle.search.specs.declared.Shown.{Shown}
use Rattle.search.specs.TakenBurst.{aged}
use Rattle.demodulator_run.specs.Marks.{log_all, FellDue}
use Rattle.demodulator_run.specs.Demands.{at, In, Started, DueAt, shown_at, Cause, Corner, Replaces, Ear, DueBy, LiesAt, taken_at_lem}
use Rattle.demodulator_run.proofs.KindOrder.{no→⊥}
use Rattle.demodulator_run.proofs.DemandEachRate.{due_once_48, due_from_48, symbol_zero_48}
use Rattle.demodulator_run.proofs.Pass.{Step, pass_lost, pass_hit}
use Rattle.demodulator_examples.proofs.Table.{listed}
use Rattle.demodulator_examples.proofs.Sketch.{Sketch, calls, shaped, sampled, ear_same, correlates, at_72, started, spans, spans_sharp, due_mark, cause, taken_at_71, of_kind, failed_at_72}
use Rattle.demodulator_examples.proofs.OneBurst.{one_burst}
use Rattle.demodulator_examples.proofs.EarlierLarger.{earlier_larger, diffs as larger-diff}
use Rattle.demodulator_examples.proofs.LaterSmaller.{later_smaller, diffs as smaller-diff}

-- ---- one burst: a candidate is taken at 71, and a frame falls due from 71 + 1,839 to 71 + 1,879
pub one_burst_started : Started (log_all taps 10 (calls one_burst)) 71
one_burst_started = started one_burst

pub one_burst_span : (d : ℕ) × DueAt (log_all taps 10 (calls one_burst)) d × (71 + 1839 ≤ d) × (d ≤ 71 + 1879)
one_burst_span = spans one_burst

pub one_burst_span_sharp : (d : ℕ) × DueAt (log_all taps 10 (calls one_burst)) d × (71 + 1839 ≤ d) × (d ≤ 71 + 1849)
one_burst_span_sharp = spans_sharp one_burst

pub one_burst_due : In (FellDue 1911 (shown_at (shaped one_burst) Stream 71 1 false)) (log_all taps 10 (calls one_burst))
one_burst_due =
    due_mark one_burst (taken_at_lem (shaped one_burst) Stream 71) 1 false 1839 (lit≤ tt) (lit≤ tt)
    (λ t. (Some (72 + 384 * 10), ap (λ (s : Step). s.control) (pass_lost 10 (λ i. at (shaped one_burst) i 72) t false 72 (taken_at_lem (shaped one_burst) Stream 71))))

-- it is the only one of the span, and comes from that candidate
pub one_burst_once : (d : ℕ) → DueAt (log_all taps 10 (calls one_burst)) d → 71 + 1839 ≤ d → d ≤ 71 + 1879 → d ≡ 1911
one_burst_once d i a b = due_once_48 (calls one_burst) (sampled one_burst) 71 d 1911 i (_, one_burst_due) a b (lit≤ tt) (lit≤ tt)

pub one_burst_from : (n : ℕ) × Started (log_all taps 10 (calls one_burst)) n × (n + 1839 ≤ 1911) × (1911 ≤ n + 1849)
one_burst_from = due_from_48 (calls one_burst) (sampled one_burst) 1911 (_, one_burst_due)

module _ (S : Sketch) (d : ℕ) (w : Shown) where
  -- the candidate of the frame, as the rule gives it
  pub record Known : Type 0 where
    pub from : Cause (shaped S) 10 (log_all taps 10 (calls S)) d w
    pub b : from.b ≡ 71
    pub kind : from.kind ≡ S.kind
    pub s : from.s ≡ 72

  pub known : d ≤ 1911 → In (FellDue d w) (log_all taps 10 (calls S)) → Known
  known l i =
      let C = cause S d w i in
      record { from = C; b = taken_at_71 S d w l C; kind = sym (of_kind S d w l C); s = failed_at_72 S d w l C }

  -- where symbol 0 of its window lies
  pub symbol_lies : (C : Cause (shaped S) 10 (log_all taps 10 (calls S)) d w) (xs : List ℤ) → length xs ≡ d
      → (Corner (shaped S) C.b C.kind C.s × LiesAt taps 10 xs w 0 (C.b - 71)) ⊎ ((Corner (shaped S) C.b C.kind C.s → ⊥) × LiesAt taps 10 xs w 0 (C.b - 70))
  symbol_lies C xs n =
      subst (λ (e : Ear). DueBy e 10 C.b C.kind C.s d w
      → (Corner e C.b C.kind C.s × LiesAt taps 10 xs w 0 (C.b - 71)) ⊎ ((Corner e C.b C.kind C.s → ⊥) × LiesAt taps 10 xs w 0 (C.b - 70))) (sym (ear_same S))
      (λ D. symbol_zero_48 (calls S) (sampled S) C.b C.kind C.s d w D xs n) C.due

pub one_burst_rule : (K : Known one_burst 1911 (shown_at (shaped one_burst) Stream 71 1 false)) × (Corner (shaped one_burst) K.from.b K.from.kind K.from.s → ⊥)
one_burst_rule =
    let K = known one_burst 1911 (shown_at (shaped one_burst) Stream 71 1 false) (lit≤ tt) one_burst_due in
    (K, elim K.from.due.sample [ inl c ↦ absurd (let e = K.b in let f = c.1 in omega arith) | inr c ↦ c.0 ])

pub one_burst_symbol_zero : (xs : List ℤ) → length xs ≡ 1911 → LiesAt taps 10 xs (shown_at (shaped one_burst) Stream 71 1 false) 0 1
one_burst_symbol_zero xs n =
    let (K, plain) = one_burst_rule in
    elim (symbol_lies one_burst 1911 (shown_at (shaped one_burst) Stream 71 1 false) K.from xs n) [
      | inl r ↦ absurd (plain r.0)
      | inr r ↦ subst (λ (b : ℕ). LiesAt taps 10 xs (shown_at (shaped one_burst) Stream 71 1 false) 0 (b - 70)) K.b r.1
    ]

-- ---- the corner: the earlier-listed LSF matches at 72 with a larger diff, and the Stream frame is due at 71 + 1,839
earlier_above : lt (at (shaped earlier_larger) Stream 71).diff (at (shaped earlier_larger) Lsf 72).diff ≡ true
earlier_above =
    ap (λ (c : Correlation). lt c.diff (at (shaped earlier_larger) Lsf 72).diff) (correlates earlier_larger 71 (lit≤ tt) Stream)
    ∙ ap (λ (c : Correlation). lt (correlation (Frame Stream) (listed 10 earlier_larger.table 71)).diff c.diff) (correlates earlier_larger 72 (lit≤ tt) Lsf)
    ∙ larger-diff

pub corner_due : In (FellDue 1910 (shown_at (shaped earlier_larger) Stream 71 2 false)) (log_all taps 10 (calls earlier_larger))
corner_due =
    due_mark earlier_larger (aged (taken_at_lem (shaped earlier_larger) Stream 71)) 2 false 1838 (lit≤ tt) (lit≤ tt)
    (λ t. (Some (72 + 384 * 10), ap (λ (s : Step). s.control) (pass_hit 10 (λ i. at (shaped earlier_larger) i 72) t false 72 (taken_at_lem (shaped earlier_larger) Stream 71) Lsf true earlier_above)))

pub corner_rule : (K : Known earlier_larger 1910 (shown_at (shaped earlier_larger) Stream 71 2 false)) × Corner (shaped earlier_larger) K.from.b K.from.kind K.from.s
corner_rule =
    let K = known earlier_larger 1910 (shown_at (shaped earlier_larger) Stream 71 2 false) (lit≤ tt) corner_due in
    (K, elim K.from.due.sample [ inl c ↦ c.0 | inr c ↦ absurd (let e = K.b in let f = c.1 in omega arith) ])

pub corner_symbol_zero : (xs : List ℤ) → length xs ≡ 1910 → LiesAt taps 10 xs (shown_at (shaped earlier_larger) Stream 71 2 false) 0 0
corner_symbol_zero xs n =
    let (K, corner) = corner_rule in
    elim (symbol_lies earlier_larger 1910 (shown_at (shaped earlier_larger) Stream 71 2 false) K.from xs n) [
      | inl r ↦ subst (λ (b : ℕ). LiesAt taps 10 xs (shown_at (shaped earlier_larger) Stream 71 2 false) 0 (b - 71)) K.b r.1
      | inr r ↦ absurd (r.0 corner)
    ]

-- ---- a replacement: the later-listed Stream matches at 72 with a smaller diff, and the frame due at 71 + 1,840 is its
later_not_above : lt (at (shaped later_smaller) Lsf 71).diff (at (shaped later_smaller) Stream 72).diff ≡ false
later_not_above =
    ap (λ (c : Correlation). lt c.diff (at (shaped later_smaller) Stream 72).diff) (correlates later_smaller 71 (lit≤ tt) Lsf)
    ∙ ap (λ (c : Correlation). lt (correlation (Frame Lsf) (listed 10 later_smaller.table 71)).diff c.diff) (correlates later_smaller 72 (lit≤ tt) Stream)
    ∙ smaller-diff

pub replaced_due : In (FellDue 1911 (shown_at (shaped later_smaller) Stream 72 1 true)) (log_all taps 10 (calls later_smaller))
replaced_due =
    due_mark later_smaller (taken_at_lem (shaped later_smaller) Stream 72) 1 true 1839 (lit≤ tt) (lit≤ tt)
    (λ t. (Some (72 + 384 * 10), ap (λ (s : Step). s.control) (pass_hit 10 (λ i. at (shaped later_smaller) i 72) t false 72 (taken_at_lem (shaped later_smaller) Lsf 71) Stream false later_not_above)))

pub replaced_rule : (K : Known later_smaller 1911 (shown_at (shaped later_smaller) Stream 72 1 true)) × Replaces (shaped later_smaller) 71 Lsf 72 Stream
replaced_rule =
    (known later_smaller 1911 (shown_at (shaped later_smaller) Stream 72 1 true) (lit≤ tt) replaced_due, (lit< tt, holds (at_72 later_smaller Stream), λ t. no→⊥ later_not_above t))
