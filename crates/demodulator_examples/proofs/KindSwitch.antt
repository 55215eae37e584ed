-- A switch of kind without a wait: the Packet candidate of sample 71 gives way at 72 to Stream, an earlier-listed kind. Assumes nothing.
use Rattle.std.specs.Prelude.{Option, None}
use mathlib.Core.Path.{◌≡◌, refl, sym, ap, ◌∙◌, subst, fun_ext}
use mathlib.Core.Bool.{Bool, true, false, cond}
use mathlib.Core.Logic.{inl, inr}
use mathlib.Core.List.Memᴰ
use mathlib.Core.List.{List, [], ◌∷◌, ◌++◌, append-nil, append_assoc}
use Prim.Native.Nat.{ℕ, ◌^◌, ◌≤◌, ◌<◌}
use native.Mathlib.Omega.{arith}
use lib.Dec.{lit≤, lit<}
use lib.IntN.{ℤ}
use lib.ListN.{length, length-append}
use lib.Ieee.{Float, lt}
use Rattle.numbers.proofs.Tests.{holds}
use Rattle.machine.specs.Runs.{run, Each}
use Rattle.shaping.specs.Rate.{at48}
use Rattle.shaping.proofs.RateFacts.{facts48}
use Rattle.shaping.specs.Taps.{taps}
use Rattle.protocol.specs.declared.Kind.{Kind}
use Rattle.protocol.specs.declared.Kind.TheVariants.{Stream, Packet}
use Rattle.protocol.specs.declared.SyncBurst.TheVariants.{Frame}
use Rattle.decode.specs.declared.Correlation.{Correlation}
use Rattle.decode.specs.Correlator.{correlation}
use Rattle.search.specs.declared.Control.{Control}
use Rattle.search.specs.declared.Reply.TheVariants.{Accepted}
use Rattle.search.specs.TakenBurst.{held_as}
use Rattle.search.specs.Search.{rank, same_kind}
use Rattle.search.specs.Turn.{cleared, counted, waited_turn, sampled as turned}
use Rattle.demodulator_run.specs.Rules.{Single, sample, reply, History, After, start, single, history_all, single_rules}
use Rattle.demodulator_run.specs.Marks.{Mark, Anew, Failed, is_refusal, searched_marks, waited_marks, sampled_marks, replied_marks, step_marks, called_marks, log_from, log_all}
use Rattle.demodulator_run.specs.Demands.{Ear, ear_of, at, In, Switched, WaitSet, SwitchHeld, taken_at_lem}
use Rattle.demodulator_run.specs.Stretch.{Sixteen}
use Rattle.demodulator_run.specs.Run.{Callable}
use Rattle.demodulator_run.proofs.Pass.{Step, controlled, search_step, pass_by, search_pass, pass_hit}
use Rattle.demodulator_run.proofs.Phase.{kept_past}
use Rattle.demodulator_run.proofs.Run.{kept_all}
use Rattle.demodulator_run.proofs.RunFits.{settled_heard}
use Rattle.demodulator_run.proofs.Demand.{ear_all}
use Rattle.demodulator_run.proofs.DemandEachRate.{switch_earlier_48, switch_held_48}
use Rattle.demodulator_run.proofs.DemandAt.{size_at, alone_at, again_at}
use Rattle.demodulator_run.proofs.Worked.{room}
use Rattle.demodulator_run.proofs.Sixteen.{sixteen_front}
use Rattle.demodulator_examples.proofs.Fed.{fed, fed_split, fed_sampled, eight_at, taken_in}
use Rattle.demodulator_examples.proofs.Steps.{standing, Hits, none, hears}
use Rattle.demodulator_examples.proofs.Table.{sixteen_test, listed, hits_listed, at_listed, silent_listed}
use Rattle.demodulator_examples.proofs.Take.{is_admitted, marked_after}
use Rattle.demodulator_examples.proofs.Burst.{part_first, length_first, after_first}
use Rattle.demodulator_examples.proofs.EarlierSmaller.{front, x, y, table, tabled, facts, diffs}

abbrev pub samples : List ℤ
samples = front ++ (x ∷ y ∷ [])

abbrev pub calls : List Single
calls = fed samples

abbrev pub ear : Ear
ear = ear_of taps 10 samples

sixteen : Sixteen samples
sixteen = sixteen_test samples facts.small

pub sampled : Each Callable calls
sampled = fed_sampled samples sixteen

number : length samples ≡ 72
number = length-append front (x ∷ y ∷ []) ∙ (let s = facts.long in omega arith)

few : length samples ≤ 2 ^ 63
few = let n = number in omega arith

-- ---- what is heard
whole : samples ≡ samples ++ []
whole = sym (append-nil samples)

quiet_before : (n : ℕ) → n ≤ 70 → Hits (ear n) none
quiet_before = silent_listed at48 facts48 samples samples [] whole 72 number table tabled 70 (lit≤ tt) facts.quiet

at_71 : Hits (ear 71) (same_kind Packet)
at_71 = hits_listed at48 facts48 samples samples [] whole 72 number table tabled 71 (lit≤ tt) (same_kind Packet) facts.first

at_72 : Hits (ear 72) (same_kind Stream)
at_72 = hits_listed at48 facts48 samples samples [] whole 72 number table tabled 72 (lit≤ tt) (same_kind Stream) facts.second

below : lt (at ear Packet 71).diff (at ear Stream 72).diff ≡ false
below =
    ap (λ (c : Correlation). lt c.diff (at ear Stream 72).diff) (at_listed at48 facts48 samples samples [] whole 72 number table tabled 71 (lit≤ tt) Packet)
    ∙ ap (λ (c : Correlation). lt (correlation (Frame Packet) (listed 10 table 71)).diff c.diff) (at_listed at48 facts48 samples samples [] whole 72 number table tabled 72 (lit≤ tt) Stream)
    ∙ diffs

-- ---- the take at 71
abbrev pub before : List ℤ
before = front ++ (x ∷ [])

abbrev holding : Option ℕ → History
holding t = standing before (held_as (taken_at_lem ear Packet 71)) None t 71

held : (t : Option ℕ) × (history_all taps 10 (fed before) ≡ holding t)
held = after_first at48 facts48 70 front x y [] facts.long sixteen few quiet_before Packet at_71

-- ---- and at 72
part : samples ≡ before ++ (y ∷ [])
part = part_first at48 facts48 70 front x y [] facts.long sixteen few

pub switched : Switched (log_all taps 10 calls) 72 Packet Stream
switched =
    let (t, e) = held in (
      marked_after at48 facts48 samples sixteen few (Anew 72 Packet Stream) before y [] part (holding t) e refl (lit< tt)
          (counted (holding t).control, (refl, refl), (refl, holds (at_72 Stream), (taken_at_lem ear Packet 71, (refl, refl), below))),
      λ q. let r = ap rank q in omega arith,
    )

-- what the search leaves, and all that it marks
abbrev step_72 : Option ℕ → Step
step_72 u = record { control = controlled (held_as (taken_at_lem ear Stream 72)) None u false 72; marks = Anew 72 Packet Stream ∷ [] }

search_72 : (t : Option ℕ) → (u : Option ℕ) × (search_step 10 (ear 72) (controlled (held_as (taken_at_lem ear Packet 71)) None t false 72) ≡ step_72 u)
search_72 t =
    let (u, e) = search_pass 10 (ear 72) (controlled (held_as (taken_at_lem ear Packet 71)) None t false 72) in (
      u,
      e ∙ ap (λ (hit : Kind → Bool). pass_by 10 hit (λ i. at ear i 72) (controlled (held_as (taken_at_lem ear Packet 71)) None u false 72)) (fun_ext at_72)
          ∙ pass_hit 10 (λ i. at ear i 72) u false 72 (taken_at_lem ear Packet 71) Stream false below,
    )

heard_72 : ear 72 ≡ eight_at at48 (before ++ (y ∷ []))
heard_72 = hears at48 samples before y [] 71 (length_first at48 facts48 70 front x y [] facts.long sixteen few) part (lit< tt)

called_72 : (t : Option ℕ) → called_marks taps 10 (holding t) (sample y room) ≡ Anew 72 Packet Stream ∷ []
unfolding called_marks step_marks sampled_marks waited_marks
called_72 t =
    ap (λ (b : Bool). cond b [] (step_marks taps 10 (holding t) (sample y room))) (is_admitted at48 facts48 (holding t) y refl (lit< tt))
    ∙ ap (λ (v : ℕ → Float). searched_marks 10 v (counted (holding t).control)) (sym heard_72)
    ∙ ap (λ (s : Step). s.marks) (search_72 (cleared 72 t)).1

nothing_replied : (h : History) → called_marks taps 10 h (reply Accepted) ≡ []
unfolding called_marks step_marks replied_marks
nothing_replied h = go (is_refusal (single taps 10 h (reply Accepted)).said.answer)
  where
    go : (b : Bool) → ◌≡◌ {A = List Mark} (cond b [] []) []
    go true = refl
    go false = refl

log_append : (cs ds : List Single) (h : History) → log_from taps 10 h (cs ++ ds) ≡ log_from taps 10 h cs ++ log_from taps 10 (run (single_rules taps 10) h cs) ds
unfolding log_from run
log_append [] ds h = refl
log_append (c ∷ cs) ds h = ap (λ (l : List Mark). called_marks taps 10 h c ++ l) (log_append cs ds (single taps 10 h c).history) ∙ sym (append_assoc (called_marks taps 10 h c) _ _)

-- ---- no wait is set there
-- the marks up to 71 are of samples up to 71
early : (i : Kind) (since : ℕ) → In (Failed 72 i since) (log_all taps 10 (fed before)) → ⊥
early i since m =
    let s : Each Callable (fed before) = fed_sampled before (sixteen_front before (y ∷ []) (subst Sixteen part sixteen)) in
    let a = alone_at at48 facts48 (fed before) s in
    let b = again_at at48 facts48 (fed before) s in
    let (t, e) = held in
    let n = ap (λ (h : History). h.control.sample) e in
    let u = kept_past (ear_all taps 10 (fed before)) 10 (log_all taps 10 (fed before)) (history_all taps 10 (fed before)).control (kept_all taps 10 (fed before) (size_at at48 facts48) a b) (Failed 72 i since) m in
    omega arith

log_72 : (t : Option ℕ) → log_from taps 10 (holding t) (sample y room ∷ reply Accepted ∷ []) ≡ Anew 72 Packet Stream ∷ []
unfolding log_from
log_72 t =
    ap (λ (l : List Mark). l ++ (called_marks taps 10 (single taps 10 (holding t) (sample y room)).history (reply Accepted) ++ [])) (called_72 t)
    ∙ ap (λ (l : List Mark). Anew 72 Packet Stream ∷ (l ++ [])) (nothing_replied (single taps 10 (holding t) (sample y room)).history)

log_parts : log_all taps 10 calls ≡ log_all taps 10 (fed before) ++ (Anew 72 Packet Stream ∷ [])
unfolding fed
log_parts =
    let (t, e) = held in
    ap (λ (l : List ℤ). log_all taps 10 (fed l)) part
    ∙ ap (log_all taps 10) (fed_split before y [])
    ∙ log_append (fed before) (sample y room ∷ reply Accepted ∷ []) start
    ∙ ap (λ (l : List Mark). log_all taps 10 (fed before) ++ l) (ap (λ (h : History). log_from taps 10 h (sample y room ∷ reply Accepted ∷ [])) e ∙ log_72 t)

pub no_wait : WaitSet (log_all taps 10 calls) 72 → ⊥
no_wait w = elim (Memᴰ.append_cases (log_all taps 10 (fed before)) (subst (In (Failed 72 w.0 w.1)) log_parts w.2)) [
  | inl m ↦ early w.0 w.1 m
  | inr m ↦ let e : Failed 72 w.0 w.1 ≡ Anew 72 Packet Stream = Memᴰ.eq_of_singleton m in let z : ◌≡◌ {A = ℕ} 0 1 = cc in omega arith
]

pub went_earlier : rank Stream < rank Packet
went_earlier = switch_earlier_48 calls sampled 72 Packet Stream switched no_wait

-- ---- the same of the control: Packet is held before the call, Stream after it, and no wait
pub held_before : (t : Option ℕ) × ((history_all taps 10 (fed before)).control ≡ controlled (held_as (taken_at_lem ear Packet 71)) None t false 71)
held_before = (held.0, ap (λ (h : History). h.control) held.1)

pub held_after : (u : Option ℕ) × ((single taps 10 (history_all taps 10 (fed before)) (sample y room)).history.control ≡ controlled (held_as (taken_at_lem ear Stream 72)) None u false 72)
unfolding turned waited_turn
held_after =
    let (t, e) = held in
    let (u, f) = search_72 (cleared 72 t) in (
      u,
      ap (λ (h : History). (single taps 10 h (sample y room)).history.control) e
          ∙ ap (λ (a : After). a.history.control) (taken_in at48 (holding t) y refl (lit< tt))
          ∙ ap (λ (h : History). h.control) (settled_heard taps 10 (before ++ (y ∷ [])) room (turned 10 (eight_at at48 (before ++ (y ∷ []))) (holding t).control))
          ∙ ap (λ (v : ℕ → Float). (search_step 10 v (counted (holding t).control)).control) (sym heard_72)
          ∙ ap (λ (s : Step). s.control) f,
    )

pub held_earlier : rank Stream < rank Packet
held_earlier =
    let (t, e) = held_before in
    let (u, f) = held_after in
    subst (SwitchHeld (controlled (held_as (taken_at_lem ear Packet 71)) None t false 71)) f
    (subst (λ (c : Control). SwitchHeld c (single taps 10 (history_all taps 10 (fed before)) (sample y room)).history.control) e
    (switch_held_48 calls sampled (fed before) (sample y room) (reply Accepted ∷ fed []) (ap fed part ∙ fed_split before y [])))
    refl refl switched.1
