-- The same burst once more, after the first frame was offered and accepted: a second frame is offered. Assumes nothing.
use Rattle.std.specs.Prelude.{Option, Some, None}
use mathlib.Core.Path.{◌≡◌, refl, sym, ap, ◌∙◌, subst}
use mathlib.Core.Logic.{inl, inr}
use mathlib.Core.Bool.{Bool, false}
use mathlib.Core.List.{List, [], ◌∷◌, ◌++◌, append_assoc}
use Prim.Native.Nat.{ℕ, ◌+◌, ◌-◌, ◌*◌, ◌^◌, ◌≤◌, ◌<◌}
use native.Mathlib.Nat.{le_refl}
use native.Mathlib.Omega.{arith}
use lib.Dec.{T, lit≤, lit<}
use lib.IntN.{ℤ, pos}
use lib.ListN.{length, length-append}
use lib.Ieee.Bits.{is_true}
use Rattle.numbers.proofs.Tests.{holds, lt_or_le}
use Rattle.numbers.proofs.Below.{all_below_lem}
use Rattle.machine.specs.Runs.{run, Each}
use Rattle.machine.proofs.Parts.{run_joined}
use Rattle.shaping.specs.Taps.{taps}
use Rattle.shaping.specs.Rate.{at48}
use Rattle.shaping.proofs.RateFacts.{facts48}
use Rattle.protocol.specs.declared.Kind.{Kind}
use Rattle.search.specs.declared.Candidate.TheVariants.{Nothing}
use Rattle.search.specs.declared.Shown.{Shown}
use Rattle.search.specs.TakenBurst.{TakenBurst, held_as}
use Rattle.search.specs.Search.{same_kind}
use Rattle.search.specs.Turn.{counted}
use Rattle.demodulator_run.specs.Rules.{History, start, history_all, single_rules}
use Rattle.demodulator_run.specs.Marks.{First, log_all, FellDue}
use Rattle.demodulator_run.specs.Demands.{Ear, ear_of, at, In, shown_at, Cause, Matches, taken_at_lem}
use Rattle.demodulator_run.specs.Exact.{OfferedAt, last_sample}
use Rattle.demodulator_run.specs.Stretch.{Sixteen}
use Rattle.demodulator_run.specs.Run.{Callable}
use Rattle.demodulator_run.proofs.KindOrder.{no→⊥, same_self, same→≡}
use Rattle.demodulator_run.proofs.Demand.{fed_all}
use Rattle.demodulator_run.proofs.DemandEachRate.{due_cause_48, due_offered_48}
use Rattle.demodulator_run.proofs.Pass.{Step, controlled, pass_lost}
use Rattle.demodulator_run.proofs.Sixteen.{sixteen_append}
use Rattle.demodulator_examples.proofs.Fed.{fed, fed_append, fed_sampled, next}
use Rattle.demodulator_examples.proofs.Steps.{standing, Hits, none, next_due, quiet_run}
use Rattle.demodulator_examples.proofs.Table.{pause, pause_split, pause_suc, pause_length, listed, silent, hits_matched, hits_listed, silent_listed}
use Rattle.demodulator_examples.proofs.Take.{one_more, ear_all_lem, fed_all_lem, marked_after}
use Rattle.demodulator_examples.proofs.Burst.{part_second, length_first, before_due, falls_due}
use Rattle.demodulator_examples.proofs.Sketch.{Sketch, samples, sixteen, number, part, long}
use Rattle.demodulator_examples.proofs.Again.{twice, begun, hits_again}

module _ (S : Sketch) (fades : Hits (listed 10 S.table 72) none) where
  -- all the samples
  abbrev pub both : List ℤ
  both = S.front ++ (S.x ∷ S.y ∷ (pause 1900 ++ samples S))

  abbrev hear : Ear
  hear = ear_of taps 10 both

  same : both ≡ twice S
  same = sym (append_assoc S.front (S.x ∷ S.y ∷ pause 1900) (samples S))

  both_sixteen : Sixteen both
  both_sixteen = subst Sixteen (sym same) (sixteen_append (samples S) (samples S) (sixteen S) (sixteen S))

  pub both_sampled : Each Callable (fed both)
  both_sampled = fed_sampled both both_sixteen

  both_number : length both ≡ 3944
  both_number = ap length same ∙ length-append (samples S) (samples S) ∙ (let n = number S in omega arith)

  few : length both ≤ 2 ^ 63
  few = let n = both_number in omega arith

  -- ---- the first time
  begins : both ≡ begun S ++ (pause 1899 ++ samples S)
  begins = same ∙ ap (λ (l : List ℤ). l ++ samples S) (part S) ∙ append_assoc (begun S) (pause 1899) (samples S)

  none_before : (n : ℕ) → n ≤ 70 → Hits (hear n) none
  none_before = silent_listed at48 facts48 both (begun S) (pause 1899 ++ samples S) begins 73 (long S) S.table S.tabled 70 (lit≤ tt) S.facts.quiet

  at_71 : Hits (hear 71) (same_kind S.kind)
  at_71 = hits_listed at48 facts48 both (begun S) (pause 1899 ++ samples S) begins 73 (long S) S.table S.tabled 71 (lit≤ tt) (same_kind S.kind) S.facts.first

  at_72 : Hits (hear 72) none
  at_72 = hits_listed at48 facts48 both (begun S) (pause 1899 ++ samples S) begins 73 (long S) S.table S.tabled 72 (lit≤ tt) none fades

  goes : pause 1900 ++ samples S ≡ pause 1838 ++ (pos 0 ∷ (pause 61 ++ samples S))
  goes = ap (λ (l : List ℤ). l ++ samples S) (pause_split 1838 62 ∙ ap (λ (l : List ℤ). pause 1838 ++ l) (pause_suc 61)) ∙ append_assoc (pause 1838) (pos 0 ∷ pause 61) (samples S)

  abbrev held71 : TakenBurst
  held71 = taken_at_lem hear S.kind 71

  abbrev first72 : List ℤ
  first72 = (S.front ++ (S.x ∷ [])) ++ (S.y ∷ [])

  abbrev up_to_due : List ℤ
  up_to_due = first72 ++ pause 1838

  waits : (t : Option ℕ) × (history_all taps 10 (fed up_to_due) ≡ standing up_to_due (held_as held71) (last_sample 1 false) t 1910)
  waits =
      before_due at48 facts48 70 S.front S.x S.y (pause 1900 ++ samples S) S.facts.long both_sixteen few none_before S.kind at_71 none at_72 (held_as held71) 1 false 1839
      (λ t. (Some (72 + 384 * 10), ap (λ (s : Step). s.control) (pass_lost 10 (λ i. at hear i 72) t false 72 held71)))
      (pause 1838) (pos 0) (pause 61 ++ samples S) goes (let n = pause_length 1838 in omega arith)

  -- ---- the frame is offered and accepted; nothing is held until the burst comes again
  abbrev offered1911 : List ℤ
  offered1911 = up_to_due ++ (pos 0 ∷ [])

  after_offer : (t : Option ℕ) × (history_all taps 10 (fed offered1911) ≡ standing offered1911 Nothing None t 1911)
  after_offer =
      let (t, e) = waits in
      (_, one_more at48 facts48 up_to_due (pos 0) ∙ ap (λ (h : History). next at48 h (pos 0)) e ∙ next_due at48 1 false up_to_due (pos 0) 1910 (lit< tt) held71 t)

  length_offered : length offered1911 ≡ 1911
  length_offered =
      length-append up_to_due (pos 0 ∷ []) ∙ ap (λ (n : ℕ). n + 1) (length-append first72 (pause 1838) ∙ ap (λ (n : ℕ). n + length (pause 1838)) (length-append (S.front ++ (S.x ∷ [])) (S.y ∷ [])))
      ∙ (let a = pause_length 1838 in let b = length_first at48 facts48 70 S.front S.x S.y (pause 1900 ++ samples S) S.facts.long both_sixteen few in omega arith)

  rest : both ≡ offered1911 ++ (pause 61 ++ samples S)
  rest =
      part_second at48 facts48 70 S.front S.x S.y (pause 1900 ++ samples S) S.facts.long both_sixteen few
      ∙ ap (λ (l : List ℤ). first72 ++ l) goes
      ∙ sym (append_assoc first72 (pause 1838) (pos 0 ∷ (pause 61 ++ samples S)))
      ∙ sym (append_assoc up_to_due (pos 0 ∷ []) (pause 61 ++ samples S))

  abbrev between : List ℤ
  between = pause 61 ++ S.front

  rest_split : both ≡ offered1911 ++ (between ++ (S.x ∷ S.y ∷ pause 1900))
  rest_split = rest ∙ ap (λ (l : List ℤ). offered1911 ++ l) (sym (append_assoc (pause 61) S.front (S.x ∷ S.y ∷ pause 1900)))

  length_between : length between ≡ 131
  length_between = length-append (pause 61) S.front ∙ (let a = pause_length 61 in let b = S.facts.long in omega arith)

  heard_again : (n : ℕ) → 223 ≤ n → n ≤ 2045 → (hit : Kind → Bool) → Hits (listed 10 S.table (n - 1972)) hit → Hits (hear n) hit
  heard_again n a b hit h = subst (λ (l : List ℤ). Hits (ear_of taps 10 l n) hit) (sym same) (hits_again S n a b hit h)

  silent_again : (n : ℕ) → 1911 < n → n ≤ 2042 → Hits (hear n) none
  silent_again n a b = heard_again n (omega arith) (omega arith) none (hits_matched 10 S.table (n - 1972) none (all_below_lem 71 (silent 10 S.table) S.facts.quiet (n - 1972) (omega arith)))

  abbrev up_to2042 : List ℤ
  up_to2042 = offered1911 ++ between

  rests : (t : Option ℕ) × (history_all taps 10 (fed up_to2042) ≡ standing up_to2042 Nothing None t 2042)
  rests =
      let (t, e) = after_offer in
      let (u, f) = quiet_run at48 both between offered1911 (S.x ∷ S.y ∷ pause 1900) t 1911 length_offered rest_split (let n = length_between in omega arith) (λ n a b. silent_again n a (let l = length_between in omega arith)) in (
        u,
        ap (run (single_rules taps 10) start) (fed_append offered1911 between) ∙ run_joined (single_rules taps 10) (fed offered1911) (fed between) start ∙ ap (λ (h : History). run (single_rules taps 10) h (fed between)) e ∙ f
            ∙ ap (λ (n : ℕ). standing up_to2042 Nothing None u (1911 + n)) length_between,
      )

  -- ---- the second take, and its frame
  at_2043 : Hits (hear 2043) (same_kind S.kind)
  at_2043 = heard_again 2043 (lit≤ tt) (lit≤ tt) (same_kind S.kind) S.facts.first

  at_2044 : Hits (hear 2044) none
  at_2044 = heard_again 2044 (lit≤ tt) (lit≤ tt) none fades

  pub takes_again : In (First 2043 S.kind) (log_all taps 10 (fed both))
  takes_again =
      let (t, e) = rests in
      marked_after at48 facts48 both both_sixteen few (First 2043 S.kind) up_to2042 S.x (S.y ∷ pause 1900) (rest_split ∙ sym (append_assoc offered1911 between (S.x ∷ S.y ∷ pause 1900)))
      (standing up_to2042 Nothing None t 2042) e refl (lit< tt)
      (counted (controlled Nothing None t false 2042), (refl, refl), (refl, refl, holds (at_2043 S.kind ∙ is_true (same_kind S.kind S.kind) (same_self S.kind))))

  both_fed : fed_all taps 10 (fed both) ≡ 3944
  both_fed = fed_all_lem at48 facts48 both both_sixteen few ∙ both_number

  -- both frames are offered
  pub first_frame : OfferedAt taps 10 1911 (shown_at hear S.kind 71 1 false) (fed both)
  first_frame =
      due_offered_48 (fed both) both_sampled 1911 (shown_at hear S.kind 71 1 false)
      (falls_due at48 facts48 70 S.front S.x S.y (pause 1900 ++ samples S) S.facts.long both_sixteen few none_before S.kind at_71 none at_72 (held_as held71) 1 false 1839
      (λ t. (Some (72 + 384 * 10), ap (λ (s : Step). s.control) (pass_lost 10 (λ i. at hear i 72) t false 72 held71)))
      (pause 1838) (pos 0) (pause 61 ++ samples S) goes (let n = pause_length 1838 in omega arith) held71 refl)

  module _ (d : ℕ) (w : Shown) (C : Cause hear 10 (log_all taps 10 (fed both)) d w) (late : 2043 ≤ C.b) (lasts : (j : ℕ) → 2043 ≤ j → j < C.s → (k : Kind) × Matches hear k j) where
    fails_2044 : C.s ≡ 2044
    fails_2044 = elim (lt_or_le 2044 C.s) [
      | inl l ↦ absurd (let (k, t) = lasts 2044 (lit≤ tt) l in no→⊥ (at_2044 k) t)
      | inr l ↦ let o = C.fails.later in omega arith
    ]

    from_2043 : C.b ≡ 2043
    from_2043 = let o = C.fails.later in let e = fails_2044 in omega arith

    second_kind : S.kind ≡ C.kind
    second_kind = same→≡ S.kind C.kind (subst T (at_2043 C.kind) (subst (Matches hear C.kind) from_2043 (C.fails.matched C.b (le_refl _) C.fails.later)))

    shows : w.kind ≡ S.kind
    shows = elim C.due.shown [
      | inl r ↦ absurd (no→⊥ (at_2044 r.0) (subst (Matches hear r.0) fails_2044 r.1.1))
      | inr r ↦ ap (λ (v : Shown). v.kind) r.1 ∙ sym second_kind
    ]

    due_then : d ≡ 3883
    due_then = elim C.due.sample [
      | inl c ↦ absurd (no→⊥ (at_2044 c.0.0) (subst (Matches hear c.0.0) fails_2044 c.0.2))
      | inr c ↦ let f = c.1 in let e = from_2043 in omega arith
    ]

  pub second_frame : (w : Shown) × (w.kind ≡ S.kind) × OfferedAt taps 10 3883 w (fed both)
  second_frame =
      let (d, w, i, C, late, lasts) = subst (λ (e : Ear). (d : ℕ) × (w : Shown) × In (FellDue d w) (log_all taps 10 (fed both)) × (C : Cause e 10 (log_all taps 10 (fed both)) d w) × (2043 ≤ C.b)
      × ((j : ℕ) → 2043 ≤ j → j < C.s → (k : Kind) × Matches e k j)) (sym (ear_all_lem at48 facts48 both both_sixteen few))
      (due_cause_48 (fed both) both_sampled 2043 (S.kind, takes_again) (let n = both_fed in omega arith)) in
      let k : w.kind ≡ S.kind = shows d w C late lasts in
      (w, k, subst (λ (n : ℕ). OfferedAt taps 10 n w (fed both)) (due_then d w C late lasts) (due_offered_48 (fed both) both_sampled d w i))
