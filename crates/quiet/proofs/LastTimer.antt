-- Of samples that only set the timer the last one counts: with nothing held and no frame's burst, whatever the timer was before a sample at
-- which the preamble or the end of transmission matches, that sample sets it anew. Assumes nothing.
use Rattle.std.specs.Prelude.{Option, Some, None}
use mathlib.Core.Path.{◌≡◌, refl, sym, ap, subst, ◌∙◌}
use mathlib.Core.Bool.{Bool, true, false, true≢false, cond, ◌||◌}
use Prim.Native.Nat.{ℕ, zero, suc, ◌+◌, ◌*◌, ◌^◌, ◌≤◌, ◌<◌}
use native.Mathlib.Nat.{min-le_left}
use native.Mathlib.Omega.{arith}
use lib.Dec.{T, le→leb}
use lib.Ieee.{Float}
use Rattle.protocol.specs.declared.Kind.{Kind}
use Rattle.protocol.specs.declared.SyncBurst.{SyncBurst}
use Rattle.protocol.specs.declared.SyncBurst.TheVariants.{Frame, Preamble, EndOfTransmission}
use Rattle.decode.specs.Correlator.{matches}
use Rattle.search.specs.declared.Control.{Control}
use Rattle.search.specs.Search.{with_timer, end_after_lem, carried, searched}
use Rattle.search.specs.Turn.{cleared, counted_to, control_of}
use Rattle.search.specs.Fit.{held, timer_fit_lem}
use Rattle.search.proofs.HeldOrNot.{held_or_not}
use Rattle.search.proofs.SampleByWait.{sampled_free}
use Rattle.search.proofs.Silent.{nothing_held, passed_silent}
use Rattle.search.proofs.TurnFits.{cleared_fit}
use Rattle.quiet.specs.Parts.{carries, Leads}
use Rattle.quiet.proofs.Leading.{leads_none, leads_next}
use Rattle.quiet.proofs.GoesOn.{Goes, goes_back, goes_timed, timer_fit_law}

-- the control at the number n with a timer of its own
abbrev pub timed_to : ℕ → Option ℕ → Control → Control
timed_to n t c = with_timer t (counted_to n c)

-- "a match sets the timer's end to count + 240, even if that is sooner than before"
abbrev set : ℕ → Bool → ℕ → Option ℕ → Option ℕ
set p match n t = cond match (Some (end_after_lem n (24 * p))) t

carried_timed : (p : ℕ) (burst : SyncBurst) (u : ℕ → Float) (n : ℕ) (t : Option ℕ) (c : Control)
    → carried p burst u (timed_to n t c) ≡ timed_to n (set p (matches burst u) n t) c
unfolding carried
carried_timed p burst u n t c = pick (matches burst u)
  where
    pick : (b : Bool) → cond b (with_timer (Some (end_after_lem n (24 * p))) (timed_to n t c)) (timed_to n t c) ≡ timed_to n (set p b n t) c
    pick true = refl
    pick false = refl

set_fit : (p : ℕ) (match : Bool) (n : ℕ) (t : Option ℕ) → n ≤ 2 ^ 63 → T (timer_fit_lem p t) → T (timer_fit_lem p (set p match n t))
set_fit p true n t l h = le→leb (end_after_lem n (24 * p)) (2 ^ 63 + 384 * p) (omega (arith, min-le_left (n + 24 * p) 0xffff_ffff_ffff_ffff))
set_fit p false n t l h = h

-- both bursts' turns: if one matches, what was before does not count
set_both : (p : ℕ) (a b : Bool) (n : ℕ) (t : Option ℕ) → a || b ≡ true → set p b n (set p a n t) ≡ Some (end_after_lem n (24 * p))
set_both p true true n t e = refl
set_both p true false n t e = refl
set_both p false true n t e = refl
set_both p false false n t e = absurd (true≢false (sym e))

module _ (p : ℕ) (c : Control) (nothing : held c.candidate ≡ false) where
  -- the timer after a search in which no frame's burst matches
  abbrev found : (ℕ → Float) → ℕ → Option ℕ → Option ℕ
  found u n t = set p (matches EndOfTransmission u) n (set p (matches Preamble u) n t)

  searched_timed : (u : ℕ → Float) (n : ℕ) (t : Option ℕ) → ((kind : Kind) → matches (Frame kind) u ≡ false)
      → searched p u (timed_to n t c) ≡ timed_to n (found u n t) c
  unfolding searched
  searched_timed u n t none =
      rw (carried_timed p Preamble u n t c, carried_timed p EndOfTransmission u n (set p (matches Preamble u) n t) c)
      (passed_silent p u (timed_to n (found u n t) c) none (nothing_held (held_or_not c.candidate) nothing))

  module _ (v : ℕ → ℕ → Float) (g : Goes p c) (free : c.wait ≡ None) (at : ℕ) where
    -- n samples, whatever they make of the timer
    record Timed (n : ℕ) : Type 0 where
      timer : Option ℕ
      fit : T (timer_fit_lem p timer)
      leads : Leads p v at n c (timed_to (c.sample + n) timer c)

    one : (n : ℕ) (t : Option ℕ) → T (timer_fit_lem p t) → c.sample + suc n ≤ 2 ^ 63 → ((kind : Kind) → matches (Frame kind) (v (at + n)) ≡ false)
        → Leads p v at n c (timed_to (c.sample + n) t c)
        → Leads p v at (suc n) c (timed_to (c.sample + suc n) (found (v (at + n)) (c.sample + suc n) (cleared (c.sample + suc n) t)) c)
    one n t h l none before =
        let d = timed_to (c.sample + n) t c in
        let next : c.sample + n + 1 ≡ c.sample + suc n = omega arith in
        let ends =
        ap control_of (sampled_free p (v (at + n)) d free)
        ∙ ap (λ (k : ℕ). searched p (v (at + n)) (timed_to k (cleared k t) c)) next
        ∙ searched_timed (v (at + n)) (c.sample + suc n) (cleared (c.sample + suc n) t) none
        in
        leads_next p v at n c d _ before (goes_back p d (goes_timed p (c.sample + n) t c g (omega arith) (omega arith) h)) ends

    timed : (n : ℕ) → c.sample + n ≤ 2 ^ 63 → ((i : ℕ) → i < n → (kind : Kind) → matches (Frame kind) (v (at + i)) ≡ false) → Timed n
    timed zero l none =
        let same : c.sample + 0 ≡ c.sample = omega arith in
        record { timer = c.dcd; fit = timer_fit_law p c g; leads = rw same (leads_none p v at c) }
    timed (suc n) l none =
        let s = timed n (omega arith) (λ i h. none i (omega arith)) in
        let k : ℕ = c.sample + suc n in
        record {
          timer = found (v (at + n)) k (cleared k s.timer);
          fit =
              let u : ℕ → Float = v (at + n) in
              let t : (Option ℕ) = cleared k s.timer in
              set_fit p (matches EndOfTransmission u) k (set p (matches Preamble u) k t) l
              (set_fit p (matches Preamble u) k t l (cleared_fit p k s.timer s.fit));
          leads = one n s.timer s.fit l (none n (omega arith)) s.leads;
        }

    -- what it leaves: the control, but for the count and a timer that is fit
    pub record Set (q : ℕ) : Type 0 where
      pub timer : Option ℕ
      pub fit : T (timer_fit_lem p timer)
      pub is : searched p (v (at + q)) (counted_to (c.sample + suc q) c) ≡ timed_to (c.sample + suc q) timer c

    pub set_shape : (q : ℕ) → c.sample + suc q ≤ 2 ^ 63 → ((kind : Kind) → matches (Frame kind) (v (at + q)) ≡ false) → Set q
    set_shape q l none =
        let k : ℕ = c.sample + suc q in
        let u : ℕ → Float = v (at + q) in
        let t : (Option ℕ) = cleared k c.dcd in
        record {
          timer = found u k t;
          fit =
              set_fit p (matches EndOfTransmission u) k (set p (matches Preamble u) k t) l
              (set_fit p (matches Preamble u) k t l (cleared_fit p k c.dcd (timer_fit_law p c g)));
          is = searched_timed u k t none;
        }

    pub last_timer : (q : ℕ) → c.sample + suc q ≤ 2 ^ 63 → ((i : ℕ) → i < suc q → (kind : Kind) → matches (Frame kind) (v (at + i)) ≡ false)
        → carries (v (at + q)) ≡ true
        → Leads p v at (suc q) c (searched p (v (at + q)) (counted_to (c.sample + suc q) c))
    last_timer q l none e =
        let s = timed q (omega arith) (λ i h. none i (omega arith)) in
        let k : ℕ = c.sample + suc q in
        let u : ℕ → Float = v (at + q) in
        let frames = none q (omega arith) in
        let here : timed_to k (found u k (cleared k s.timer)) c ≡ searched p u (counted_to k c) =
        ap (λ (t : Option ℕ). timed_to k t c)
        (set_both p (matches Preamble u) (matches EndOfTransmission u) k (cleared k s.timer) e
        ∙ sym (set_both p (matches Preamble u) (matches EndOfTransmission u) k (cleared k c.dcd) e))
        ∙ sym (searched_timed u k (cleared k c.dcd) frames)
        in
        subst (Leads p v at (suc q) c) here (one q s.timer s.fit l frames s.leads)
