-- The timer outlasts every wait: the sample of an offer leaves the carrier held, before its reply and after either one. Over p and any values.
-- Assumes nothing.
use Rattle.std.specs.Prelude.{Some, None, Option}
use mathlib.Core.Path.{◌≡◌, refl, sym, ap, subst, ◌∙◌}
use mathlib.Core.Logic.{◌⊎◌, inl, inr}
use mathlib.Core.Bool.{true, false}
use Prim.Native.Nat.{ℕ, ◌+◌, ◌-◌, ◌*◌, ◌^◌, ◌≤◌, ◌<◌}
use native.Mathlib.Omega.{arith}
use borrow.Author.Tests.{ltb-true}
use lib.Dec.{ltb}
use lib.Ieee.{Float, lt}
use Rattle.protocol.specs.declared.Kind.{Kind}
use Rattle.protocol.specs.declared.Kind.TheVariants.{Lsf, Bert, Stream, Packet}
use Rattle.protocol.specs.declared.SyncBurst.{SyncBurst}
use Rattle.protocol.specs.declared.SyncBurst.TheVariants.{Frame, Preamble, EndOfTransmission}
use Rattle.decode.specs.Correlator.{matches}
use Rattle.search.specs.declared.Waiting.{Waiting}
use Rattle.search.specs.declared.Control.{Control}
use Rattle.search.specs.declared.Turn.{Turn}
use Rattle.search.specs.declared.Reply.{Reply}
use Rattle.search.specs.declared.Reply.TheVariants.{Accepted, Rejected}
use Rattle.search.specs.TakenBurst.{TakenBurst, held_by}
use Rattle.search.specs.Search.{carried, same_kind, marked, matched, missed, tried, passed, searched}
use Rattle.search.specs.Turn.{Outcome, quiet, offer, cleared, counted, freed, owing, due_turn, waited_turn, comes_to, sampled, replied}
use Rattle.search.proofs.AgeInPass.{by_test}
use Rattle.demodulator.specs.Calls.{timer_held}
use Rattle.figures.proofs.CarrierTimer.{Lasts, searched_kept}

-- while a frame is waited for, the timer lasts past the sample at which it is due
abbrev WaitLasts : ℕ → Option Waiting → Option ℕ → Type 0
WaitLasts count None t = Unit {0}
WaitLasts count (Some w) t = Lasts (count + w.left + 1) t

abbrev pub Outlasts : Control → Type 0
Outlasts c = WaitLasts c.sample c.wait c.dcd

marked_lasts : (count : ℕ) (w : Option Waiting) (t : Option ℕ) → WaitLasts count w t → WaitLasts count (marked w) t
unfolding marked
marked_lasts count None t h = tt
marked_lasts count (Some w) t h = h

lasting_held : (n : ℕ) (t : Option ℕ) → Lasts n t → timer_held t ≡ true
lasting_held n None h = absurd h
lasting_held n (Some e) h = refl

module _ (p : ℕ) (some-samples : 1 ≤ p) (small : p ≤ 10) (v : ℕ → Float) where
  -- ---- a search
  record Stays (n : ℕ) (c : Control) : Type 0 where
    count : c.sample ≡ n
    few : n ≤ 2 ^ 63
    lasts : Outlasts c

  carried_free : (burst : SyncBurst) (c : Control) → (carried p burst v c).wait ≡ c.wait
  unfolding carried
  carried_free burst c = by_test (λ (d : Control). d.wait ≡ c.wait) (matches burst v) _ _ (λ e. refl) (λ e. refl)

  carried_count : (burst : SyncBurst) (c : Control) → (carried p burst v c).sample ≡ c.sample
  unfolding carried
  carried_count burst c = by_test (λ (d : Control). d.sample ≡ c.sample) (matches burst v) _ _ (λ e. refl) (λ e. refl)

  matched_stays : (n : ℕ) (o : Option TakenBurst) (new : TakenBurst) (c : Control) → Stays n c → Stays n (matched o new c)
  unfolding matched
  matched_stays n None new c S = record { count = S.count; few = S.few; lasts = marked_lasts c.sample c.wait c.dcd S.lasts }
  matched_stays n (Some t) new c S =
      by_test (Stays n) (lt t.diff new.diff) _ _ (λ e. record { count = S.count; few = S.few; lasts = S.lasts })
      (λ e. record { count = S.count; few = S.few; lasts = marked_lasts c.sample c.wait c.dcd S.lasts })

  missed_stays : (n : ℕ) (kind : Kind) (o : Option TakenBurst) (c : Control) → Stays n c → Stays n (missed p kind o c)
  unfolding missed
  missed_stays n kind None c S = S
  missed_stays n kind (Some t) c S =
      let at = S.count in
      let most = S.few in
      by_test (Stays n) (same_kind t.kind kind) _ _ (λ e. record { count = S.count; few = S.few; lasts = omega arith }) (λ e. S)

  tried_stays : (n : ℕ) (kind : Kind) (c : Control) → Stays n c → Stays n (tried p v kind c)
  unfolding tried
  tried_stays n kind c S =
      by_test (Stays n) (matches (Frame kind) v) _ _ (λ e. matched_stays n (held_by c) _ c S) (λ e. missed_stays n kind (held_by c) c S)

  free_lasts : (c : Control) → c.wait ≡ None → Outlasts c
  free_lasts c e = subst (λ (w : Option Waiting). WaitLasts c.sample w c.dcd) (sym e) tt

  searched_stays : (c : Control) → c.wait ≡ None → c.sample ≤ 2 ^ 63 → Stays c.sample (searched p v c)
  unfolding searched passed
  searched_stays c e few =
      let d : Control = carried p EndOfTransmission v (carried p Preamble v c) in
      let free : d.wait ≡ None = carried_free EndOfTransmission (carried p Preamble v c) ∙ carried_free Preamble c ∙ e in
      let same : d.sample ≡ c.sample = carried_count EndOfTransmission (carried p Preamble v c) ∙ carried_count Preamble c in
      let S : Stays c.sample d = record { count = same; few = few; lasts = free_lasts d free } in
      tried_stays c.sample Packet _ (tried_stays c.sample Stream _ (tried_stays c.sample Bert _ (tried_stays c.sample Lsf d S)))

  -- ---- a sample: the timer still outlasts the wait, and where it brings an offer it is held, before the reply and after either one
  cleared_lasts : (n end : ℕ) (t : Option ℕ) → n ≤ end → Lasts end t → Lasts end (cleared n t)
  unfolding cleared
  cleared_lasts n end None l h = absurd h
  cleared_lasts n end (Some e) l h =
      by_test (Lasts end) (ltb e n) None (Some e) (λ q. let under = ltb-true e n q in absurd (omega arith)) (λ q. h)

  abbrev pub HeldBy : Outcome → Type 0
  HeldBy (quiet c) = Outlasts c
  HeldBy (offer shown c) = (timer_held c.dcd ≡ true) × ((u : ℕ → Float) (r : Reply) → timer_held (replied p u r c).dcd ≡ true)

  due_held : (o : Option TakenBurst) (w : Waiting) (c : Control) → c.wait ≡ None → c.sample ≤ 2 ^ 63 → Lasts c.sample c.dcd
      → HeldBy (comes_to p v (due_turn o w c))
  unfolding due_turn
  due_held None w c e few h = (searched_stays c e few).lasts
  due_held (Some t) w c e few h = (lasting_held c.sample c.dcd h, after)
    where
      held_either : (d : Option ℕ) → (d ≡ c.dcd) ⊎ Lasts (c.sample + 24 * p) d → timer_held d ≡ true
      held_either d (inl q) = ap timer_held q ∙ lasting_held c.sample c.dcd h
      held_either d (inr l) = lasting_held (c.sample + 24 * p) d l

      after : (u : ℕ → Float) (r : Reply) → timer_held (replied p u r (owing true c)).dcd ≡ true
      after u Accepted = unfold replied in lasting_held c.sample c.dcd h
      after u Rejected = unfold replied in
          held_either (searched p u (owing false (owing true c))).dcd
          (searched_kept p c.sample small few c.dcd u (owing false (owing true c)) (record { count = refl; timer = inl refl })).timer

  waited_held : (wait : Option Waiting) (c : Control) → c.wait ≡ wait → c.sample < 2 ^ 63 → WaitLasts c.sample wait c.dcd
      → HeldBy (comes_to p v (waited_turn wait (counted c)))
  unfolding waited_turn
  waited_held None c e few h = (searched_stays (counted c) e (omega arith)).lasts
  waited_held (Some w) c e few h =
      by_test (λ (o : Turn). HeldBy (comes_to p v o)) (ltb 1 w.left) _ _
      (λ q. let more = ltb-true 1 w.left q in
      let same : c.sample + 1 + (w.left - 1) + 1 ≡ c.sample + w.left + 1 = omega arith in
      rw same (cleared_lasts (c.sample + 1) (c.sample + w.left + 1) c.dcd (omega arith) h))
      (λ q. due_held (held_by c) w (freed (counted c)) refl (omega arith) (cleared_lasts (c.sample + 1) (c.sample + 1) c.dcd (omega arith) (shorter c.dcd h)))
    where
      shorter : (t : Option ℕ) → Lasts (c.sample + w.left + 1) t → Lasts (c.sample + 1) t
      shorter None g = absurd g
      shorter (Some k) g = omega arith

  pub sampled_held : (c : Control) → c.sample < 2 ^ 63 → Outlasts c → HeldBy (sampled p v c)
  unfolding sampled
  sampled_held c few h = waited_held c.wait c refl few h
