-- What becomes of the carrier timer over a stretch of at most 24 symbols. Over p and any values. Assumes nothing.
use Rattle.std.specs.Prelude.{Some, None, Option}
use mathlib.Core.Path.{◌≡◌, refl}
use mathlib.Core.Logic.{◌⊎◌, inl, inr}
use Prim.Native.Nat.{ℕ, ◌+◌, ◌*◌, ◌^◌, ◌≤◌, ◌<◌}
use native.Mathlib.Omega.{arith}
use lib.Dec.{ltb}
use lib.Ieee.{Float, lt}
use Rattle.protocol.specs.declared.Kind.{Kind}
use Rattle.protocol.specs.declared.Kind.TheVariants.{Lsf, Bert, Stream, Packet}
use Rattle.protocol.specs.declared.SyncBurst.{SyncBurst}
use Rattle.protocol.specs.declared.SyncBurst.TheVariants.{Frame, Preamble, EndOfTransmission}
use Rattle.decode.specs.Correlator.{matches}
use Rattle.search.specs.declared.Waiting.{Waiting}
use Rattle.search.specs.declared.Control.{Control}
use Rattle.search.specs.declared.Turn.{Turn}
use Rattle.search.specs.declared.Turn.TheVariants.{Rest, Offer, Look}
use Rattle.search.specs.TakenBurst.{TakenBurst, held_in}
use Rattle.search.specs.Search.{end_after_lem, carried, same_kind, matched, missed, tried, passed, searched}
use Rattle.search.specs.Turn.{cleared, counted, freed, due_turn, waited_turn, comes_to, control_of, sampled}
use Rattle.search.proofs.AgeInPass.{by_test}

-- a timer that lasts to sample `end` at least
abbrev pub Lasts : ℕ → Option ℕ → Type 0
Lasts end None = ⊥
Lasts end (Some e) = end ≤ e

-- ---- after a search at sample n the timer is as it was, or lasts 24 symbols at least
pub record Kept (p n : ℕ) (t : Option ℕ) (c : Control) : Type 0 where
  pub count : c.sample ≡ n
  pub timer : (c.dcd ≡ t) ⊎ Lasts (n + 24 * p) c.dcd

module _ (p n : ℕ) (small : p ≤ 10) (few : n ≤ 2 ^ 63) (t : Option ℕ) where
  sets : (span : ℕ) → 24 * p ≤ span → span ≤ 384 * p → (k : ℕ) → k ≡ n → Lasts (n + 24 * p) (Some (end_after_lem k span))
  sets span l u k e = omega arith

  module _ (v : ℕ → Float) where
    carried_kept : (burst : SyncBurst) (c : Control) → Kept p n t c → Kept p n t (carried p burst v c)
    unfolding carried
    carried_kept burst c K =
        by_test (Kept p n t) (matches burst v) _ _ (λ e. record { count = K.count; timer = inr (sets (24 * p) (omega arith) (omega arith) c.sample K.count) }) (λ e. K)

    matched_kept : (o : Option TakenBurst) (new : TakenBurst) (c : Control) → Kept p n t c → Kept p n t (matched o new c)
    unfolding matched
    matched_kept None new c K = record { count = K.count; timer = K.timer }
    matched_kept (Some b) new c K =
        by_test (Kept p n t) (lt b.diff new.diff) _ _ (λ e. record { count = K.count; timer = K.timer }) (λ e. record { count = K.count; timer = K.timer })

    missed_kept : (kind : Kind) (o : Option TakenBurst) (c : Control) → Kept p n t c → Kept p n t (missed p kind o c)
    unfolding missed
    missed_kept kind None c K = K
    missed_kept kind (Some b) c K =
        by_test (Kept p n t) (same_kind b.kind kind) _ _ (λ e. record { count = K.count; timer = inr (sets (384 * p) (omega arith) (omega arith) c.sample K.count) }) (λ e. K)

    tried_kept : (kind : Kind) (c : Control) → Kept p n t c → Kept p n t (tried p v kind c)
    unfolding tried
    tried_kept kind c K =
        by_test (Kept p n t) (matches (Frame kind) v) _ _ (λ e. matched_kept (held_in c.candidate) _ c K) (λ e. missed_kept kind (held_in c.candidate) c K)

    pub searched_kept : (c : Control) → Kept p n t c → Kept p n t (searched p v c)
    unfolding searched passed
    searched_kept c K =
        tried_kept Packet _ (tried_kept Stream _ (tried_kept Bert _ (tried_kept Lsf _ (carried_kept EndOfTransmission _ (carried_kept Preamble c K)))))

-- ---- after a sample
module _ (p : ℕ) (small : p ≤ 10) (v : ℕ → Float) (c : Control) (few : c.sample < 2 ^ 63) where
  abbrev n : ℕ
  n = c.sample + 1

  abbrev t : Option ℕ
  t = cleared n c.dcd

  some_few : n ≤ 2 ^ 63
  some_few = omega arith

  abbrev TurnKept : Turn → Type 0
  TurnKept (Rest d) = Kept p n t d
  TurnKept (Offer shown d) = Kept p n t d
  TurnKept (Look d) = Kept p n t d

  turned : (o : Turn) → TurnKept o → Kept p n t (control_of (comes_to p v o))
  turned (Rest d) K = K
  turned (Offer shown d) K = K
  turned (Look d) K = searched_kept p n small some_few t v d K

  due_kept : (o : Option TakenBurst) (w : Waiting) (d : Control) → Kept p n t d → TurnKept (due_turn o w d)
  unfolding due_turn
  due_kept None w d K = K
  due_kept (Some b) w d K = record { count = K.count; timer = K.timer }

  waited_kept : (w : Option Waiting) → TurnKept (waited_turn w (counted c))
  unfolding waited_turn
  waited_kept None = record { count = refl; timer = inl refl }
  waited_kept (Some w) =
      by_test TurnKept (ltb 1 w.left) _ _ (λ e. record { count = refl; timer = inl refl }) (λ e. due_kept (held_in c.candidate) w (freed (counted c)) (record { count = refl; timer = inl refl }))

  pub sampled_kept : Kept p n t (control_of (sampled p v c))
  unfolding sampled
  sampled_kept = turned (waited_turn c.wait (counted c)) (waited_kept c.wait)
