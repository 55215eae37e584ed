-- n rests of a wait in one. Assumes nothing.
use Rattle.std.specs.Prelude.{Option, Some}
use mathlib.Core.Path.{◌≡◌, refl, ap, subst, ◌∙◌}
use Prim.Native.Nat.{ℕ, zero, suc, ◌+◌, ◌-◌, ◌*◌, ◌^◌, ◌≤◌, ◌<◌}
use native.Mathlib.Omega.{arith}
use borrow.Author.Tests.{lt-ltb, le-leb, lt-leb}
use lib.Dec.{T}
use lib.Ieee.{Float}
use Rattle.search.specs.declared.Waiting.{Waiting}
use Rattle.search.specs.declared.Control.{Control}
use Rattle.search.specs.Turn.{counted_to, counted, nearer, waiting_on, control_of}
use Rattle.search.specs.Fit.{wait_fit_lem, kept_fit_lem}
use Rattle.search.proofs.Clauses.{clauses, joined}
use Rattle.search.proofs.Fitness.{control_facts}
use Rattle.search.proofs.SampleByWait.{sampled_rest}
use Rattle.quiet.specs.Parts.{nearer_by, Leads}
use Rattle.quiet.proofs.Leading.{leads_none, leads_next}
use Rattle.quiet.proofs.GoesOn.{Goes, goes_back, counted_once, goes_counted}

module _ (p : ℕ) (v : ℕ → ℕ → Float) (c : Control) (g : Goes p c) (w : Waiting) (waits : c.wait ≡ Some w) (at : ℕ) where
  abbrev pub rested : ℕ → Control
  rested zero = c
  rested (suc m) = waiting_on (nearer_by (suc m) w) (counted_to (c.sample + suc m) c)

  rested_wait : (m : ℕ) → (rested m).wait ≡ Some (nearer_by m w)
  rested_wait zero =
      let all : w.left ≡ w.left - 0 = omega arith in
      waits ∙ ap (λ (n : ℕ). Some (record { left = n; age = w.age; replaced = w.replaced })) all
  rested_wait (suc m) = refl

  waiting_fit : (m : ℕ) → m < w.left → T (wait_fit_lem p (Some (nearer_by m w)) c.candidate c.owed)
  unfolding wait_fit_lem
  waiting_fit m l =
      let f = (control_facts p c g.fit).wait w waits in
      rw (f.holding, f.no_reply, le-leb 1 (w.left - m) (omega arith), lt-ltb (w.left - m) (184 * p) (omega (arith, f.to))) tt

  rested_goes : (m : ℕ) → suc m < w.left → c.sample + m < 2 ^ 63 → Goes p (rested m)
  rested_goes zero l n = g
  rested_goes (suc m) l n =
      let d = counted_to (c.sample + suc m) c in
      let h = goes_counted p (c.sample + suc m) c g (omega arith) n in
      let s = clauses p d h.fit in
      record {
        fit =
            joined p (waiting_on (nearer_by (suc m) w) d)
            (record {
              count = s.count;
              timer = s.timer;
              candidate = s.candidate;
              wait = waiting_fit (suc m) (omega arith);
              reply = s.reply;
              taken = s.taken;
              kept = subst (λ (o : Option Waiting). T (kept_fit_lem o)) waits s.kept;
            });
        no_reply = h.no_reply;
        count = h.count;
        far = lt-leb (w.left - suc m) 1 (omega arith);
      }

  rested_next : (m : ℕ) → waiting_on (nearer (nearer_by m w)) (counted (rested m)) ≡ rested (suc m)
  rested_next zero =
      let first : w.left - 0 - 1 ≡ w.left - 1 = omega arith in
      rw first
  rested_next (suc m) =
      let next : c.sample + suc m + 1 ≡ c.sample + suc (suc m) = omega arith in
      let fewer : w.left - suc m - 1 ≡ w.left - suc (suc m) = omega arith in
      rw fewer
      (ap (waiting_on (nearer_by (suc (suc m)) w)) (counted_once (c.sample + suc m) (c.sample + suc m + 1) c (omega arith) ∙ ap (λ (n : ℕ). counted_to n c) next))

  pub rests : (n : ℕ) → n < w.left → c.sample + n ≤ 2 ^ 63 → Leads p v at n c (rested n)
  rests zero l k = leads_none p v at c
  rests (suc n) l k =
      let d = rested n in
      let ends = ap control_of (sampled_rest p (v (at + n)) d (nearer_by n w) (rested_wait n) (omega arith)) ∙ rested_next n in
      leads_next p v at n c d _ (rests n (omega arith) (omega arith)) (goes_back p d (rested_goes n l (omega arith))) ends

  pub rests_some : (n : ℕ) → 1 ≤ n → n < w.left → c.sample + n ≤ 2 ^ 63 → Leads p v at n c (waiting_on (nearer_by n w) (counted_to (c.sample + n) c))
  rests_some zero s l k = absurd (omega arith)
  rests_some (suc n) s l k = rests (suc n) l k
