-- 72 samples at whose 71st a kind matches for the first time, given with a table of their filtered values, and then zeros: what the theorems of demand 3 say of them. Assumes nothing.
use Rattle.std.specs.Prelude.{Option, None}
use mathlib.Core.Path.{◌≡◌, refl, sym, ap, ◌∙◌, subst}
use mathlib.Core.Bool.{Bool, false}
use mathlib.Core.Logic.{inl, inr}
use mathlib.Core.List.{List, [], ◌∷◌, ◌++◌, append_assoc}
use Prim.Native.Nat.{ℕ, ◌+◌, ◌^◌, ◌≤◌}
use native.Mathlib.Nat.{le_refl}
use native.Mathlib.Omega.{arith}
use lib.Dec.{T, lit≤}
use lib.IntN.{ℤ, pos}
use lib.ListN.{length, length-append}
use lib.Ieee.{Float}
use Rattle.numbers.specs.Firsts.{firsts}
use Rattle.numbers.proofs.Tests.{lt_or_le}
use Rattle.machine.specs.Runs.{Each}
use Rattle.shaping.specs.Taps.{taps}
use Rattle.shaping.specs.Rate.{at48}
use Rattle.shaping.proofs.RateFacts.{facts48}
use Rattle.protocol.specs.declared.Kind.{Kind}
use Rattle.protocol.specs.declared.SyncBurst.TheVariants.{Frame}
use Rattle.decode.specs.Correlator.{correlation}
use Rattle.search.specs.declared.Shown.{Shown}
use Rattle.search.specs.TakenBurst.{TakenBurst, held_as, shown_of}
use Rattle.search.specs.Search.{same_kind}
use Rattle.demodulator_run.specs.Filter.{filtered}
use Rattle.demodulator_run.specs.Rules.{Single, history_all}
use Rattle.demodulator_run.specs.Marks.{FellDue, log_all}
use Rattle.demodulator_run.specs.Demands.{Ear, ear_of, at, In, Started, DueAt, Cause, Matches, taken_at_lem}
use Rattle.demodulator_run.specs.Stretch.{Sixteen}
use Rattle.demodulator_run.specs.Run.{Callable}
use Rattle.demodulator_run.proofs.KindOrder.{same→≡, no→⊥}
use Rattle.demodulator_run.proofs.Demand.{ear_all, fed_all}
use Rattle.demodulator_run.proofs.DemandEachRate.{due_span_48, due_span_sharp_48, due_rule_48}
use Rattle.demodulator_run.proofs.Pass.{controlled, pass_by}
use Rattle.demodulator_run.proofs.Sixteen.{sixteen_append}
use Rattle.demodulator_examples.proofs.Fed.{fed, fed_sampled}
use Rattle.demodulator_examples.proofs.Steps.{Hits, none, waiting}
use Rattle.demodulator_examples.proofs.Table.{pause, pause_length, sixteen_test, sixteen_pause, listed, silent, hits_matched, listens, hits_listed, at_listed, silent_listed}
use Rattle.demodulator_examples.proofs.Fits.{Fits}
use Rattle.demodulator_examples.proofs.Take.{heard_all, ear_all_lem, fed_all_lem, takes}
use Rattle.demodulator_examples.proofs.Burst.{falls_due_in}

pub record Sketch : Type 0 where
  pub front : List ℤ
  pub x : ℤ
  pub y : ℤ
  pub table : List Float
  pub kind : Kind
  pub hit : Kind → Bool
  pub tabled : firsts (filtered taps 10 (front ++ (x ∷ y ∷ pos 0 ∷ []))) 74 ≡ table
  pub facts : Fits 10 70 front x y table kind hit
  pub lost : hit kind ≡ false
  pub over : T (silent 10 table 73)

module _ (S : Sketch) where
  -- the samples and 1,900 zeros, and the calls that feed them
  abbrev pub samples : List ℤ
  samples = S.front ++ (S.x ∷ S.y ∷ pause 1900)

  abbrev pub calls : List Single
  calls = fed samples

  abbrev pub shaped : Ear
  shaped = ear_of taps 10 samples

  pub sixteen : Sixteen samples
  sixteen = subst Sixteen (append_assoc S.front (S.x ∷ S.y ∷ []) (pause 1900)) (sixteen_append (S.front ++ (S.x ∷ S.y ∷ [])) (pause 1900) (sixteen_test _ S.facts.small) (sixteen_pause 1900))

  pub sampled : Each Callable calls
  sampled = fed_sampled samples sixteen

  pub number : length samples ≡ 1972
  number = length-append S.front (S.x ∷ S.y ∷ pause 1900) ∙ (let a = S.facts.long in let b = pause_length 1900 in omega arith)

  pub few : length samples ≤ 2 ^ 63
  few = let e = number in omega arith

  pub heard_samples : (history_all taps 10 calls).samples ≡ samples
  heard_samples = heard_all at48 facts48 samples sixteen few

  pub fed_number : fed_all taps 10 calls ≡ 1972
  fed_number = fed_all_lem at48 facts48 samples sixteen few ∙ number

  -- ---- what is heard
  pub long : length (S.front ++ (S.x ∷ S.y ∷ pos 0 ∷ [])) ≡ 73
  long = length-append S.front (S.x ∷ S.y ∷ pos 0 ∷ []) ∙ (let a = S.facts.long in omega arith)

  first_zero : pause 1900 ≡ pos 0 ∷ pause 1899
  unfolding pause
  first_zero = refl

  pub part : samples ≡ (S.front ++ (S.x ∷ S.y ∷ pos 0 ∷ [])) ++ pause 1899
  part = ap (λ (l : List ℤ). S.front ++ (S.x ∷ S.y ∷ l)) first_zero ∙ sym (append_assoc S.front (S.x ∷ S.y ∷ pos 0 ∷ []) (pause 1899))

  pub hears : (k : ℕ) → k ≤ 73 → (i : ℕ) → shaped k i ≡ listed 10 S.table k i
  hears = listens at48 facts48 samples (S.front ++ (S.x ∷ S.y ∷ pos 0 ∷ [])) (pause 1899) part 73 long S.table S.tabled

  hits : (k : ℕ) → k ≤ 73 → (hit : Kind → Bool) → Hits (listed 10 S.table k) hit → Hits (shaped k) hit
  hits = hits_listed at48 facts48 samples (S.front ++ (S.x ∷ S.y ∷ pos 0 ∷ [])) (pause 1899) part 73 long S.table S.tabled

  pub correlates : (k : ℕ) → k ≤ 73 → (j : Kind) → at shaped j k ≡ correlation (Frame j) (listed 10 S.table k)
  correlates = at_listed at48 facts48 samples (S.front ++ (S.x ∷ S.y ∷ pos 0 ∷ [])) (pause 1899) part 73 long S.table S.tabled

  pub none_before : (n : ℕ) → n ≤ 70 → Hits (shaped n) none
  none_before = silent_listed at48 facts48 samples (S.front ++ (S.x ∷ S.y ∷ pos 0 ∷ [])) (pause 1899) part 73 long S.table S.tabled 70 (lit≤ tt) S.facts.quiet

  pub at_71 : Hits (shaped 71) (same_kind S.kind)
  at_71 = hits 71 (lit≤ tt) (same_kind S.kind) S.facts.first

  pub at_72 : Hits (shaped 72) S.hit
  at_72 = hits 72 (lit≤ tt) S.hit S.facts.second

  at_73 : Hits (shaped 73) none
  at_73 = hits 73 (lit≤ tt) none (hits_matched 10 S.table 73 none S.over)

  -- ---- the take, and the span
  pub started : Started (log_all taps 10 calls) 71
  started = (S.kind, takes at48 facts48 70 S.front S.x (S.y ∷ pause 1900) S.facts.long sixteen few none_before S.kind at_71)

  pub spans : (d : ℕ) × DueAt (log_all taps 10 calls) d × (71 + 1839 ≤ d) × (d ≤ 71 + 1879)
  spans = due_span_48 calls sampled 71 started (let e = fed_number in omega arith)

  pub spans_sharp : (d : ℕ) × DueAt (log_all taps 10 calls) d × (71 + 1839 ≤ d) × (d ≤ 71 + 1849)
  spans_sharp = due_span_sharp_48 calls sampled 71 started (let e = fed_number in omega arith)

  -- ---- the due frame
  module _ (now : TakenBurst) (age : ℕ) (mark : Bool) (left : ℕ) (some : 1 ≤ left) (short : left ≤ 1900)
      (leaves : (t : Option ℕ) → (u : Option ℕ) × ((pass_by 10 S.hit (λ i. at shaped i 72) (controlled (held_as (taken_at_lem shaped S.kind 71)) None t false 72)).control ≡ controlled (held_as now) (waiting age mark left) u false 72)) where
    pub due_mark : In (FellDue (72 + left) (shown_of now age mark)) (log_all taps 10 calls)
    due_mark =
        falls_due_in at48 facts48 70 S.front S.x S.y 1900 S.facts.long sixteen few none_before S.kind at_71 S.hit at_72 now age mark left some short leaves

  -- ---- where it comes from
  pub ear_same : shaped ≡ ear_all taps 10 calls
  ear_same = ear_all_lem at48 facts48 samples sixteen few

  pub cause : (d : ℕ) (w : Shown) → In (FellDue d w) (log_all taps 10 calls) → Cause shaped 10 (log_all taps 10 calls) d w
  cause d w i = subst (λ (e : Ear). Cause e 10 (log_all taps 10 calls) d w) (sym ear_same) (((due_rule_48 calls sampled).exact d w).0 i).1

  module _ (d : ℕ) (w : Shown) (soon : d ≤ 1911) (C : Cause shaped 10 (log_all taps 10 calls) d w) where
    from_71 : 71 ≤ C.b
    from_71 = elim (lt_or_le C.b 71) [
      | inl l ↦ absurd (no→⊥ (none_before C.b (omega arith) C.kind) (C.fails.matched C.b (le_refl _) C.fails.later))
      | inr l ↦ l
    ]

    not_72 : C.b ≡ 72 → ⊥
    not_72 e = elim C.due.sample [
      | inl c ↦ elim (lt_or_le 73 C.s) [
        | inl l ↦ no→⊥ (at_73 C.kind) (C.fails.matched 73 (omega arith) l)
        | inr l ↦
            let s : C.s ≡ 73 = let o = C.fails.later in omega arith in
            no→⊥ (at_73 c.0.0) (subst (Matches shaped c.0.0) s c.0.2)
      ]
      | inr c ↦ let f = c.1 in omega arith
    ]

    pub taken_at_71 : C.b ≡ 71
    taken_at_71 = elim (lt_or_le 71 C.b) [
      | inl l ↦ absurd (not_72 (elim C.due.sample [ inl c ↦ (let f = c.1 in omega arith) | inr c ↦ (let f = c.1 in omega arith) ]))
      | inr l ↦ let o = from_71 in omega arith
    ]

    pub of_kind : S.kind ≡ C.kind
    of_kind =
        let m : Matches shaped C.kind 71 = C.fails.matched 71 (let e = taken_at_71 in omega arith) (let e = taken_at_71 in let o = C.fails.later in omega arith) in
        same→≡ S.kind C.kind (subst T (at_71 C.kind) m)

    pub failed_at_72 : C.s ≡ 72
    failed_at_72 = elim (lt_or_le 72 C.s) [
      | inl l ↦ absurd (no→⊥ (at_72 S.kind ∙ S.lost) (subst (λ (k : Kind). Matches shaped k 72) (sym of_kind) (C.fails.matched 72 (let e = taken_at_71 in omega arith) l)))
      | inr l ↦ let e = taken_at_71 in let o = C.fails.later in omega arith
    ]
