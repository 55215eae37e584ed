-- The wait that an offer ends, as a caller sees it: from the rule of the due sample and the log, the call that set the wait, and what it set. Assumes nothing.
use Rattle.std.specs.Prelude.{Option, Some, None}
use Rattle.search.specs.declared.Waiting.{Waiting}
use mathlib.Core.Path.{◌≡◌, refl, sym, ap, ◌∙◌, subst}
use mathlib.Core.Logic.{inl, inr}
use mathlib.Core.Bool.{Bool, true, false, not}
use mathlib.Core.List.{List}
use Prim.Native.Nat.{ℕ, ◌+◌, ◌-◌, ◌*◌, ◌≤◌, ◌<◌}
use native.Mathlib.Omega.{arith}
use lib.Dec.{T}
use lib.Ieee.{Float, lt}
use Rattle.numbers.proofs.Tests.{holds}
use Rattle.machine.specs.Runs.{Each}
use Rattle.shaping.specs.Rate.{Rate}
use Rattle.shaping.proofs.RateFacts.{Facts}
use Rattle.protocol.specs.declared.Kind.{Kind}
use Rattle.protocol.specs.declared.SyncBurst.TheVariants.{Frame}
use Rattle.decode.specs.Correlator.{correlation, matches}
use Rattle.search.specs.declared.Candidate.{Candidate}
use Rattle.search.specs.declared.Shown.{Shown}
use Rattle.search.specs.declared.Control.{Control}
use Rattle.search.specs.TakenBurst.{TakenBurst, held_as, held_in, older}
use Rattle.search.specs.Search.{rank, searched}
use Rattle.search.proofs.AgeInPass.{searched_sample}
use Rattle.demodulator.specs.declared.Offer.{Offer}
use Rattle.demodulator.specs.Calls.{offer_of}
use Rattle.demodulator_run.specs.Rules.{Single, start}
use Rattle.demodulator_run.specs.Marks.{Mark, Anew, Failed, log_all}
use Rattle.demodulator_run.specs.Demands.{Ear, at, Matches, Taken, Corner, Replaces, Cause}
use Rattle.demodulator_run.specs.Exact.{MarkedAt}
use Rattle.demodulator_run.specs.Run.{Callable}
use Rattle.demodulator_run.specs.CallerSees.{Moment, left_then}
use Rattle.demodulator_run.specs.OfferReports.{heard_then, WaitSeen, CornerSeen, ReplacedSeen}
use Rattle.demodulator_run.proofs.KindOrder.{no→⊥, T-clash}
use Rattle.demodulator_run.proofs.Phase.{Holding, Phase, Kept}
use Rattle.demodulator_run.proofs.Hold.{young}
use Rattle.demodulator_run.proofs.Pass.{controlled, wait_from}
use Rattle.demodulator_run.proofs.Demand.{fed_all}
use Rattle.demodulator_run.proofs.DemandAt.{size_at, alone_at, again_at, due_rule_at, log_exact_at}
use Rattle.demodulator_run.proofs.CallerSees.{control_same}
use Rattle.demodulator_run.proofs.SearchSets.{Sets, sets_wait}
use Rattle.demodulator_run.proofs.SearchMoment.{as_controlled, ear, before, on_moment, heard_then_lem, SearchSeen, search_seen, marked_moment, seen_admitted}

-- a candidate that is held while no wait is, from the invariant
holding : (ear : Ear) (p : ℕ) (l : List Mark) (c : Control) (u : TakenBurst) → c.candidate ≡ held_as u → c.wait ≡ None → Kept ear p l c → Holding ear p l c.sample u
holding ear p l c u e f k =
    (subst (λ (w : Option Waiting). Phase ear p l c.sample (held_in (held_as u)) w c.owed) f (subst (λ (h : Candidate). Phase ear p l c.sample (held_in h) c.wait c.owed) e k)).1

-- an earlier-listed kind matches with a larger diff, and a later-listed one without: of what is heard, and of the held candidate's kind and diff
abbrev CornerWith : (ℕ → Float) → Kind → Float → Type 0
CornerWith v k diff = (j : Kind) × (rank j < rank k) × T (matches (Frame j) v) × T (lt diff (correlation (Frame j) v).diff)

abbrev ReplacesWith : Kind → (ℕ → Float) → Kind → Float → Type 0
ReplacesWith j v k diff = (rank k < rank j) × T (matches (Frame j) v) × (T (lt diff (correlation (Frame j) v).diff) → ⊥)

moved : (P : (ℕ → Float) → Kind → Float → Type 0) {v w : ℕ → Float} {j k : Kind} {d e : Float} → v ≡ w → j ≡ k → d ≡ e → P v j d → P w k e
moved P {v} {w} {j} {k} {d} {e} a b c q =
    subst (λ (f : Float). P w k f) c (subst (λ (i : Kind). P w i d) b (subst (λ (u : ℕ → Float). P u j d) a q))

no_T : (b : Bool) → (T b → ⊥) → b ≡ false
no_T true n = absurd (n tt)
no_T false n = refl

module _ (R : Rate) (F : Facts R) (ss : List Single) (sampled : Each Callable ss) where
  abbrev pub heard : Ear
  heard = ear R F ss sampled

  abbrev pub log : List Mark
  log = log_all R.taps R.p ss

  alone : (n : ℕ) (j k : Kind) → Matches heard j n → Matches heard k n → j ≡ k
  alone n j k = alone_at R F ss sampled j k n

  -- ---- what is shown of it: b, its kind and s are the rule's
  pub record Found (o : Offer) (x : Shown) (C : Cause heard R.p log o.sample x) : Type 0 where
    pub wait : WaitSeen R ss o
    pub at_s : wait.s ≡ C.s
    pub since : wait.failed.taken_at ≡ C.b
    pub kinds : wait.failed.kind ≡ C.kind
    pub near : C.s ≤ C.b + R.p
    pub corner_in : CornerSeen R wait → Corner heard C.b C.kind C.s
    pub corner_out : Corner heard C.b C.kind C.s → CornerSeen R wait
    pub replaced_in : (j : Kind) → ReplacedSeen R wait j → Replaces heard C.b C.kind C.s j
    pub replaced_out : (j : Kind) → Replaces heard C.b C.kind C.s j → ReplacedSeen R wait j
    pub not_both : Corner heard C.b C.kind C.s → (j : Kind) → Replaces heard C.b C.kind C.s j → ⊥
    pub replacing : (j : Kind) → Replaces heard C.b C.kind C.s j → Taken log C.s j

  -- ---- by the rule of the due sample: a candidate of kind k, taken at b, failed at s
  module _ (o : Offer) (x : Shown) (same : offer_of x o.sample ≡ o) (fed : o.sample ≤ fed_all R.taps R.p ss) (C : Cause heard R.p log o.sample x) where
    abbrev b : ℕ
    b = C.b

    abbrev k : Kind
    k = C.kind

    abbrev s : ℕ
    s = C.s

    marked : MarkedAt R.taps R.p heard (Failed C.s C.kind C.b) start ss
    marked = (log_exact_at R F ss sampled (Failed C.s C.kind C.b)).0 ((due_rule_at R F ss sampled).set o.sample x fed C)

    abbrev t : Moment ss
    t = marked_moment R F ss sampled marked

    -- the search started from c, where u was held
    abbrev c : Control
    c = marked.rules.0

    abbrev u : TakenBurst
    u = marked.rules.2.2.0

    number : s ≡ c.sample
    number = marked.rules.2.0

    was : c.candidate ≡ held_as u
    was = marked.rules.2.2.1.0

    kinds : u.kind ≡ k
    kinds = marked.rules.2.2.1.1

    since : u.taken_at ≡ b
    since = marked.rules.2.2.3

    A : SearchSeen R F ss sampled t c
    A = search_seen R F ss sampled t (seen_admitted R F ss sampled marked) c marked.rules.1

    -- the invariant then
    open_then : (m : List Mark) × Holding heard R.p m (before R F ss sampled t).control.sample u
    open_then =
        let (m, O) = on_moment R F ss sampled t in
        let e = control_same R F ss sampled t in
        (m, holding heard R.p m (before R F ss sampled t).control u (sym (ap (λ (d : Control). d.candidate) e) ∙ A.candidate ∙ was) (sym (ap (λ (d : Control). d.wait) e) ∙ A.free) O.kept)

    abbrev H : Holding heard R.p open_then.0 (before R F ss sampled t).control.sample u
    H = open_then.1

    taken_then : u.taken_at ≡ H.b
    taken_then = ap (λ (v : TakenBurst). v.taken_at) H.values

    ages : b + u.age ≡ s
    ages = omega (arith, H.aged, taken_then, since, number, A.next u was, ap (λ (d : Control). d.sample) (control_same R F ss sampled t))

    few : u.age ≤ R.p
    few = young heard R.p (again_at R F ss sampled) open_then.0 (before R F ss sampled t).control.sample u H

    diffs : u.diff ≡ (at heard k b).diff
    diffs =
        ap (λ (v : TakenBurst). v.diff) H.values ∙ ap (λ (i : Kind). (at heard i H.b).diff) kinds ∙ ap (λ (n : ℕ). (at heard k n).diff) (sym taken_then ∙ since)

    counts : (left_then R t).demodulator.control.sample ≡ s
    counts = ap (λ (d : Control). d.sample) A.left ∙ searched_sample R.p (heard c.sample) c ∙ sym number

    heard_now : heard_then R t ≡ heard s
    heard_now = heard_then_lem R F ss sampled t ∙ ap heard counts

    -- ---- the wait that the search set
    sets : Sets R.p (heard s) (alone s) c.dcd c.owed s u (searched R.p (heard s) c).wait
    sets =
        as_controlled (λ (d : Control). Sets R.p (heard s) (alone s) c.dcd c.owed s u (searched R.p (heard s) d).wait) c (held_as u) None was A.wait
        (subst (λ (n : ℕ). Sets R.p (heard s) (alone s) c.dcd c.owed s u (searched R.p (heard s) (controlled (held_as u) None c.dcd c.owed n)).wait) number
        (sets_wait R.p (heard s) (alone s) c.dcd c.owed s u
        (subst (λ (i : Kind). T (not (matches (Frame i) (heard s)))) (sym kinds) marked.rules.2.1)
        (λ j r m. marked.rules.2.2.2 j (subst (λ (i : Kind). rank j < rank i) kinds r) m)))

    corner : CornerWith (heard s) u.kind u.diff → Corner heard b k s
    corner = moved CornerWith refl kinds diffs

    replaces : (j : Kind) → ReplacesWith j (heard s) u.kind u.diff → Replaces heard b k s j
    replaces j = moved (ReplacesWith j) refl kinds diffs

    -- at most one kind matches there
    not_both : Corner heard b k s → (j : Kind) → Replaces heard b k s j → ⊥
    not_both q j r = omega (arith, q.1, r.0, ap rank (alone s q.0 j q.2 r.1))

    set_as : (searched R.p (heard s) c).wait ≡ Some (wait_from R.p x.age x.replaced)
    set_as =
        let D = C.due in
        let size = size_at R F in
        let so : (age : ℕ) (mark : Bool) → (x.age ≡ age) × (x.replaced ≡ mark) → Some (wait_from R.p age mark) ≡ Some (wait_from R.p x.age x.replaced) =
        λ age mark q. ap (λ (n : ℕ). Some (wait_from R.p n mark)) (sym q.0) ∙ ap (λ (m : Bool). Some (wait_from R.p x.age m)) (sym q.1) in
        elim sets [
          | inl q ↦
              let K = corner (q.1.0, q.1.1, q.1.2, holds q.1.3) in
              q.0 ∙ so (older u.age) false (
                elim D.sample [ inl e ↦ omega (arith, D.waited, e.1, ages, few, size) | inr e ↦ absurd (e.0 K) ],
                elim D.shown [ inl e ↦ absurd (not_both K e.0 e.1) | inr e ↦ ap (λ (y : Shown). y.replaced) e.1 ],
              )
          | inr r ↦ elim r [
            | inl q ↦
                let K = replaces q.1.0 (q.1.1, q.1.2, no→⊥ q.1.3) in
                q.0 ∙ so u.age true (
                  elim D.sample [ inl e ↦ absurd (not_both e.0 q.1.0 K) | inr e ↦ omega (arith, D.waited, e.1, ages, few, size) ],
                  elim D.shown [ inl e ↦ ap (λ (y : Shown). y.replaced) e.2 | inr e ↦ absurd (e.0 q.1.0 K) ],
                )
            | inr q ↦ q.0 ∙ so u.age false (
              elim D.sample [
                | inl e ↦ absurd (q.1 e.0.0 (subst (λ (i : Kind). rank e.0.0 < rank i) (sym kinds) e.0.1) e.0.2)
                | inr e ↦ omega (arith, D.waited, e.1, ages, few, size)
              ],
              elim D.shown [
                | inl e ↦ absurd (e.1.2 (subst (λ (f : Float). T (lt f (at heard e.0 s).diff)) diffs (holds (q.2 e.0 (subst (λ (i : Kind). rank i < rank e.0) (sym kinds) e.1.0) e.1.1))))
                | inr e ↦ ap (λ (y : Shown). y.replaced) e.1
              ],
            )
          ]
        ]

    -- ---- the wait, as a caller sees it
    ends : o.sample ≡ s + (184 * R.p - o.age)
    ends =
        let D = C.due in
        let size = size_at R F in
        let age = ap (λ (q : Offer). q.age) same in
        elim D.sample [ inl e ↦ omega (arith, D.waited, age, e.1, ages, few, size) | inr e ↦ omega (arith, D.waited, age, e.1, ages, few, size) ]

    wait_seen : WaitSeen R ss o
    wait_seen = record {
      moment = t;
      admitted = seen_admitted R F ss sampled marked;
      s = s;
      number = counts;
      free = A.free;
      set = ap (λ (d : Control). d.wait) A.left ∙ ap (λ (n : ℕ). (searched R.p (heard n) c).wait) (sym number) ∙ set_as ∙ ap (λ (q : Offer). Some (wait_from R.p q.age q.replaced)) same;
      ends = ends;
      failed = u;
      held = A.candidate ∙ was;
      lost = λ m. T-clash (matches (Frame k) (heard s)) (subst (λ (i : Kind). T (matches (Frame i) (heard s))) kinds (subst (λ (v : ℕ → Float). T (matches (Frame u.kind) v)) heard_now m)) marked.rules.2.1;
    }

    corner_in : CornerSeen R wait_seen → Corner heard b k s
    unfolding wait_seen
    corner_in = moved CornerWith heard_now kinds diffs

    corner_out : Corner heard b k s → CornerSeen R wait_seen
    unfolding wait_seen
    corner_out = moved CornerWith (sym heard_now) (sym kinds) (sym diffs)

    replaced_in : (j : Kind) → ReplacedSeen R wait_seen j → Replaces heard b k s j
    unfolding wait_seen
    replaced_in j = moved (ReplacesWith j) heard_now kinds diffs

    replaced_out : (j : Kind) → Replaces heard b k s j → ReplacedSeen R wait_seen j
    unfolding wait_seen
    replaced_out j = moved (ReplacesWith j) (sym heard_now) (sym kinds) (sym diffs)

    -- the kind that replaced the candidate was taken there
    replacing : (j : Kind) → Replaces heard b k s j → Taken log s j
    replacing j r = inr (
      k,
      (log_exact_at R F ss sampled (Anew C.s C.kind j)).1 (record {
        before = marked.before;
        call = marked.call;
        after = marked.after;
        split = marked.split;
        admitted = marked.admitted;
        rules = (c, marked.rules.1, (number, r.1, (u, (was, kinds), subst (λ (f : Float). lt f (at heard j C.s).diff ≡ false) (sym diffs) (no_T (lt (at heard k b).diff (at heard j C.s).diff) r.2))));
      }),
    )

    -- ---- all of it
    pub found : Found o x C
    unfolding wait_seen
    found = record {
      wait = wait_seen;
      at_s = refl;
      since = since;
      kinds = kinds;
      near = omega (arith, ages, few);
      corner_in = corner_in;
      corner_out = corner_out;
      replaced_in = replaced_in;
      replaced_out = replaced_out;
      not_both = not_both;
      replacing = replacing;
    }
