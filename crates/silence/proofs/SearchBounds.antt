-- One search: whatever matches, what it holds ends within 184p and 384p samples; where nothing matches, a held candidate fails. Over p and any values. Assumes nothing.
use Rattle.std.specs.Prelude.{Some, None, Option}
use Rattle.search.specs.declared.Waiting.{Waiting}
use mathlib.Core.Path.{◌≡◌, ap, ◌∙◌, fun_ext}
use mathlib.Core.Bool.{Bool, false}
use Prim.Native.Nat.{ℕ, ◌+◌, ◌*◌, ◌^◌, ◌≤◌}
use native.Mathlib.Omega.{arith}
use lib.Ieee.{Float, lt}
use Rattle.protocol.specs.declared.Kind.{Kind}
use Rattle.protocol.specs.declared.Kind.TheVariants.{Lsf, Bert, Stream, Packet}
use Rattle.protocol.specs.declared.SyncBurst.{SyncBurst}
use Rattle.protocol.specs.declared.SyncBurst.TheVariants.{Frame, Preamble, EndOfTransmission}
use Rattle.decode.specs.declared.Correlation.{Correlation}
use Rattle.decode.specs.Correlator.{correlation, matches}
use Rattle.search.specs.declared.Control.{Control}
use Rattle.search.specs.TakenBurst.{TakenBurst, held_as, held_in}
use Rattle.search.specs.Search.{end_after_lem, carried, same_kind, wait_after, marked, matched, missed, tried, passed, searched}
use Rattle.search.proofs.AgeInPass.{by_test}
use Rattle.demodulator_run.proofs.Pass.{Step, controlled, pass_by, search_pass, pass_lost}

-- a wait that is held at sample n ends at sample `last` or before
abbrev pub DueBy : ℕ → ℕ → Option Waiting → Type 0
DueBy n last None = Unit {0}
DueBy n last (Some w) = n + w.left ≤ last

-- a timer that is held has its end from `low` to `high`
abbrev pub EndsWithin : ℕ → ℕ → Option ℕ → Type 0
EndsWithin low high None = Unit {0}
EndsWithin low high (Some end) = (low ≤ end) × (end ≤ high)

-- ---- a search at sample n, whatever matches
module _ (p n high : ℕ) (few : n ≤ 2 ^ 63) (far : n + 384 * p ≤ high) where
  pub record Bounded (c : Control) : Type 0 where
    pub count : c.sample ≡ n
    pub owed : c.owed ≡ false
    pub wait : DueBy n (n + 184 * p) c.wait
    pub timer : EndsWithin n high c.dcd

  timer_set : (span : ℕ) → span ≤ 384 * p → (k : ℕ) → k ≡ n → EndsWithin n high (Some (end_after_lem k span))
  timer_set span l k e = (omega arith, omega arith)

  marked_due : (w : Option Waiting) → DueBy n (n + 184 * p) w → DueBy n (n + 184 * p) (marked w)
  unfolding marked
  marked_due None h = tt
  marked_due (Some w) h = h

  module _ (v : ℕ → Float) where
    carried_bounded : (burst : SyncBurst) (c : Control) → Bounded c → Bounded (carried p burst v c)
    unfolding carried
    carried_bounded burst c B =
        by_test Bounded (matches burst v) _ _
        (λ e. record { count = B.count; owed = B.owed; wait = B.wait; timer = timer_set (24 * p) (omega arith) c.sample B.count })
        (λ e. B)

    matched_bounded : (o : Option TakenBurst) (new : TakenBurst) (c : Control) → Bounded c → Bounded (matched o new c)
    unfolding matched
    matched_bounded None new c B = record { count = B.count; owed = B.owed; wait = marked_due c.wait B.wait; timer = B.timer }
    matched_bounded (Some t) new c B =
        by_test Bounded (lt t.diff new.diff) _ _ (λ e. record { count = B.count; owed = B.owed; wait = B.wait; timer = B.timer })
        (λ e. record { count = B.count; owed = B.owed; wait = marked_due c.wait B.wait; timer = B.timer })

    missed_bounded : (kind : Kind) (o : Option TakenBurst) (c : Control) → Bounded c → Bounded (missed p kind o c)
    unfolding missed
    missed_bounded kind None c B = B
    missed_bounded kind (Some t) c B =
        by_test Bounded (same_kind t.kind kind) _ _
        (λ e. record { count = B.count; owed = B.owed; wait = omega arith; timer = timer_set (384 * p) (omega arith) c.sample B.count })
        (λ e. B)

    tried_bounded : (kind : Kind) (c : Control) → Bounded c → Bounded (tried p v kind c)
    unfolding tried
    tried_bounded kind c B =
        by_test Bounded (matches (Frame kind) v) _ _ (λ e. matched_bounded (held_in c.candidate) _ c B) (λ e. missed_bounded kind (held_in c.candidate) c B)

    pub searched_bounded : (c : Control) → Bounded c → Bounded (searched p v c)
    unfolding searched passed
    searched_bounded c B =
        tried_bounded Packet _ (tried_bounded Stream _ (tried_bounded Bert _ (tried_bounded Lsf _
        (carried_bounded EndOfTransmission _ (carried_bounded Preamble c B)))))

-- ---- a search in which no kind matches, with a candidate held: "the wait becomes 1,840 - age and the timer's end count + 3,840"
pub failed : (p : ℕ) (v : ℕ → Float) → ((k : Kind) → matches (Frame k) v ≡ false) → (t : TakenBurst) (d : Option ℕ) (o : Bool) (n : ℕ)
    → searched p v (controlled (held_as t) None d o n) ≡ controlled (held_as t) (wait_after p t.age) (Some (end_after_lem n (384 * p))) o n
failed p v misses t d o n =
    let m : Kind → Correlation = λ k. correlation (Frame k) v in
    let (u, e) = search_pass p v (controlled (held_as t) None d o n) in
    ap (λ (s : Step). s.control)
    (e ∙ ap (λ (hit : Kind → Bool). pass_by p hit m (controlled (held_as t) None u o n)) (fun_ext misses) ∙ pass_lost p m u o n t)
