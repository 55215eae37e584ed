-- A control d samples later does the same at a search, a sample and a reply: no rule reads a sample's number but to compare it with another. Over p and any values.
-- Assumes nothing.
use Rattle.std.specs.Prelude.{Some, None, Option}
use mathlib.Core.Path.{◌≡◌, refl, sym, ap, ◌∙◌, subst}
use mathlib.Core.Bool.{Bool, true, false, cond}
use Prim.Native.Nat.{ℕ, ◌+◌, ◌*◌, ◌≤◌}
use native.Mathlib.Nat.{min-eq_left}
use native.Mathlib.Omega.{arith}
use borrow.Author.Tests.{lt-ltb, le-ltb, ltb-true, ltb-false}
use lib.Dec.{ltb}
use lib.Ieee.{Float, lt}
use Rattle.protocol.specs.declared.Kind.{Kind}
use Rattle.protocol.specs.declared.Kind.TheVariants.{Lsf, Bert, Stream, Packet}
use Rattle.protocol.specs.declared.SyncBurst.{SyncBurst}
use Rattle.protocol.specs.declared.SyncBurst.TheVariants.{Frame, Preamble, EndOfTransmission}
use Rattle.decode.specs.Correlator.{correlation, matches}
use Rattle.search.specs.declared.Candidate.{Candidate}
use Rattle.search.specs.declared.Candidate.TheVariants.{Nothing, Held}
use Rattle.search.specs.declared.Waiting.{Waiting}
use Rattle.search.specs.declared.Control.{Control}
use Rattle.search.specs.declared.Shown.{Shown}
use Rattle.search.specs.declared.Turn.{Turn}
use Rattle.search.specs.declared.Turn.TheVariants.{Rest, Offer, Look}
use Rattle.search.specs.declared.Reply.{Reply}
use Rattle.search.specs.declared.Reply.TheVariants.{Accepted, Rejected}
use Rattle.search.specs.TakenBurst.{TakenBurst, held_in, taken}
use Rattle.search.specs.Search.{with_timer, end_after_lem, carried, same_kind, wait_after, matched, missed, tried, passed, searched}
use Rattle.search.specs.Turn.{Outcome, quiet, offer, cleared, counted_to, counted, freed, owing, due_turn, waited_turn, comes_to, control_of, sampled, replied}
use Rattle.search.proofs.AgeInPass.{by_test, carried_sample, matched_keeps, missed_keeps, searched_sample}
use Rattle.demodulator_run.proofs.Count.{sampled_count}
use Rattle.silence.specs.Later.{later_candidate, later_timer, later_control}

-- ---- a choice
pub pick : {A : Type 0} (f : A → A) (b : Bool) {x y x' y' : A} → x' ≡ f x → y' ≡ f y → cond b x' y' ≡ f (cond b x y)
pick f true e g = e
pick f false e g = g

module _ (d : ℕ) where
  abbrev later_burst : TakenBurst → TakenBurst
  later_burst t = record { kind = t.kind; age = t.age; diff = t.diff; gain = t.gain; shift = t.shift; taken_at = t.taken_at + d }

  abbrev later_held : Option TakenBurst → Option TakenBurst
  later_held None = None
  later_held (Some t) = Some (later_burst t)

  abbrev pub later_shown : Shown → Shown
  later_shown s = record { kind = s.kind; gain = s.gain; shift = s.shift; taken_at = s.taken_at + d; age = s.age; replaced = s.replaced }

  abbrev pub later_outcome : Outcome → Outcome
  later_outcome (quiet c) = quiet (later_control d c)
  later_outcome (offer shown c) = offer (later_shown shown) (later_control d c)

  abbrev later_turn : Turn → Turn
  later_turn (Rest c) = Rest (later_control d c)
  later_turn (Offer shown c) = Offer (later_shown shown) (later_control d c)
  later_turn (Look c) = Look (later_control d c)

  held_later : (candidate : Candidate) → held_in (later_candidate d candidate) ≡ later_held (held_in candidate)
  unfolding later_candidate
  held_later Nothing = refl
  held_later (Held kind age diff gain shift since) = refl

  -- ---- the timer
  end_later : (n span : ℕ) → n + d + span ≤ 0xffff_ffff_ffff_ffff → end_after_lem (n + d) span ≡ end_after_lem n span + d
  end_later n span l =
      let low : n + span ≤ 0xffff_ffff_ffff_ffff = omega arith in
      min-eq_left l ∙ let e : n + d + span ≡ n + span + d = omega arith in e ∙ ap (λ (k : ℕ). k + d) (sym (min-eq_left low))

  past_later : (a b : ℕ) → ltb (a + d) (b + d) ≡ ltb a b
  past_later a b = go (ltb a b) refl
    where
      go : (t : Bool) → ltb a b ≡ t → ltb (a + d) (b + d) ≡ t
      go true e = let l = ltb-true a b e in lt-ltb (a + d) (b + d) (omega arith)
      go false e = let l = ltb-false a b e in le-ltb (a + d) (b + d) (omega arith)

  cleared_later : (n : ℕ) (t : Option ℕ) → cleared (n + d) (later_timer d t) ≡ later_timer d (cleared n t)
  unfolding cleared later_timer
  cleared_later n None = refl
  cleared_later n (Some end) = rw (past_later end n) (pick (later_timer d) (ltb end n) refl refl)

  -- ---- a search
  module _ (p : ℕ) (v : ℕ → Float) where
    -- no end of the timer stops at the last number of 64 bits
    abbrev pub Roomy : ℕ → Type 0
    Roomy n = n + d + 384 * p ≤ 0xffff_ffff_ffff_ffff

    carried_later : (burst : SyncBurst) (c : Control) → Roomy c.sample → carried p burst v (later_control d c) ≡ later_control d (carried p burst v c)
    unfolding carried later_timer
    carried_later burst c l = pick (later_control d) (matches burst v) (ap (λ (n : ℕ). with_timer (Some n) (later_control d c)) (end_later c.sample (24 * p) (omega arith))) refl

    matched_later : (o : Option TakenBurst) (new : TakenBurst) (c : Control) → matched (later_held o) (later_burst new) (later_control d c) ≡ later_control d (matched o new c)
    unfolding matched later_candidate
    matched_later None new c = refl
    matched_later (Some t) new c = pick (later_control d) (lt t.diff new.diff) refl refl

    missed_later : (kind : Kind) (o : Option TakenBurst) (c : Control) → Roomy c.sample → missed p kind (later_held o) (later_control d c) ≡ later_control d (missed p kind o c)
    unfolding missed later_timer
    missed_later kind None c l = refl
    missed_later kind (Some t) c l =
        pick (later_control d) (same_kind t.kind kind)
        (ap (λ (n : ℕ). record { candidate = later_candidate d c.candidate; wait = wait_after p t.age; dcd = Some n; owed = c.owed; sample = c.sample + d }) (end_later c.sample (384 * p) l)) refl

    tried_later : (kind : Kind) (c : Control) → Roomy c.sample → tried p v kind (later_control d c) ≡ later_control d (tried p v kind c)
    unfolding tried
    tried_later kind c l =
        rw (held_later c.candidate)
        (pick (later_control d) (matches (Frame kind) v) (matched_later (held_in c.candidate) (taken kind (correlation (Frame kind) v) c.sample) c) (missed_later kind (held_in c.candidate) c l))

    tried_count : (kind : Kind) (c : Control) → (tried p v kind c).sample ≡ c.sample
    unfolding tried
    tried_count kind c =
        by_test (λ (k : Control). k.sample ≡ c.sample) (matches (Frame kind) v) _ _ (λ e. (matched_keeps (held_in c.candidate) _ c).sample) (λ e. (missed_keeps p kind (held_in c.candidate) c).sample)

    -- a step that keeps the count, after others that do
    abbrev Kept : ℕ → Control → Control → Type 0
    Kept n x c = (x ≡ later_control d c) × (c.sample ≡ n)

    carried_step : (n : ℕ) → Roomy n → (burst : SyncBurst) (x c : Control) → Kept n x c → Kept n (carried p burst v x) (carried p burst v c)
    carried_step n l burst x c k = (ap (carried p burst v) k.0 ∙ carried_later burst c (rw k.1 l), carried_sample p burst v c ∙ k.1)

    tried_step : (n : ℕ) → Roomy n → (kind : Kind) (x c : Control) → Kept n x c → Kept n (tried p v kind x) (tried p v kind c)
    tried_step n l kind x c k = (ap (tried p v kind) k.0 ∙ tried_later kind c (rw k.1 l), tried_count kind c ∙ k.1)

    pub searched_later : (c : Control) → Roomy c.sample → searched p v (later_control d c) ≡ later_control d (searched p v c)
    unfolding searched passed
    searched_later c l =
        let n : ℕ = c.sample in
        (tried_step n l Packet _ _ (tried_step n l Stream _ _ (tried_step n l Bert _ _ (tried_step n l Lsf _ _ (carried_step n l EndOfTransmission _ _ (carried_step n l Preamble _ c (refl, refl))))))).0

    -- ---- a sample
    due_later : (o : Option TakenBurst) (w : Waiting) (c : Control) → due_turn (later_held o) w (later_control d c) ≡ later_turn (due_turn o w c)
    unfolding due_turn
    due_later None w c = refl
    due_later (Some t) w c = refl

    waited_later : (wait : Option Waiting) (c : Control) → waited_turn wait (later_control d c) ≡ later_turn (waited_turn wait c)
    unfolding waited_turn later_candidate
    waited_later None c = refl
    waited_later (Some w) c =
        rw (held_later c.candidate) (pick later_turn (ltb 1 w.left) refl (due_later (held_in c.candidate) w (freed c)))

    comes_later : (t : Turn) → Roomy (control_of (comes_to p v t)).sample → comes_to p v (later_turn t) ≡ later_outcome (comes_to p v t)
    comes_later (Rest c) l = refl
    comes_later (Offer shown c) l = refl
    comes_later (Look c) l = ap quiet (searched_later c (subst Roomy (searched_sample p v c) l))

    counted_later : (c : Control) → counted (later_control d c) ≡ later_control d (counted c)
    counted_later c =
        let n : c.sample + d + 1 ≡ c.sample + 1 + d = omega arith in
        ap (λ (k : ℕ). counted_to k (later_control d c)) n ∙ ap (λ (t : Option ℕ). with_timer t (later_control d (counted c))) (cleared_later (c.sample + 1) c.dcd)

    pub sampled_later : (c : Control) → Roomy (c.sample + 1) → sampled p v (later_control d c) ≡ later_outcome (sampled p v c)
    unfolding sampled
    sampled_later c l =
        ap (λ (k : Control). comes_to p v (waited_turn c.wait k)) (counted_later c)
        ∙ ap (comes_to p v) (waited_later c.wait (counted c))
        ∙ comes_later (waited_turn c.wait (counted c)) (subst Roomy (sym (unfold sampled in sampled_count p v c)) l)

    pub replied_later : (r : Reply) (c : Control) → Roomy c.sample → replied p v r (later_control d c) ≡ later_control d (replied p v r c)
    unfolding replied
    replied_later Accepted c l = refl
    replied_later Rejected c l = searched_later (owing false c) l
