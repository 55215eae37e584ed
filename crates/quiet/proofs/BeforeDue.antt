-- The walk over n samples takes those before an awaited frame is due, and no others: so no more need be tried. Assumes nothing.
use Rattle.std.specs.Prelude.{Option, Some, None}
use mathlib.Core.Path.{◌≡◌, refl, sym, ap, ◌∙◌}
use mathlib.Core.Bool.{Bool, true, false}
use Prim.Native.Nat.{ℕ, zero, suc, ◌+◌, ◌≤◌, ◌<◌}
use native.Mathlib.Nat.{le_refl}
use native.Mathlib.Omega.{arith}
use borrow.Author.Tests.{leb-false}
use lib.Ieee.{Float}
use Rattle.search.specs.declared.Waiting.{Waiting}
use Rattle.search.specs.declared.Control.{Control}
use Rattle.search.specs.Turn.{nearer, control_of, sampled}
use Rattle.search.proofs.SampleByWait.{sampled_rest}
use Rattle.quiet.specs.Walk.{is_due_lem, goes_on_lem, walked_from, before_due}
use Rattle.quiet.proofs.GoesOn.{goes}
use Rattle.quiet.proofs.WalkLaws.{walk_stops}

pub before_due_few : (o : Option Waiting) (n : ℕ) → before_due o n ≤ n
unfolding before_due
before_due_few None n = le_refl n
before_due_few (Some w) n = omega arith

none_left : (o : Option Waiting) → before_due o 0 ≡ 0
unfolding before_due
none_left None = refl
none_left (Some w) = omega arith

waits_on : (w : Waiting) (n : ℕ) → 1 < w.left → before_due (Some w) (suc n) ≡ suc (before_due (Some (nearer w)) n)
unfolding before_due
waits_on w n l = omega arith

module _ (p : ℕ) (v : ℕ → ℕ → Float) (i n : ℕ) (c : Control) where
  abbrev next : Control
  next = control_of (sampled p (v i) c)

  -- the samples after this one, by the same law
  abbrev Again : Type 0
  Again = walked_from p v (i + 1) n next ≡ walked_from p v (i + 1) (before_due next.wait n) next

  waited : (w : Waiting) → c.wait ≡ Some w → 1 < w.left → goes_on_lem p c ≡ true → Again → walked_from p v i (suc n) c ≡ walked_from p v i (before_due (Some w) (suc n)) c
  unfolding walked_from
  waited w waits l e again =
      let left : before_due next.wait n ≡ before_due (Some (nearer w)) n = ap (λ (d : Control). before_due d.wait n) (ap control_of (sampled_rest p (v i) c w waits l)) in
      rw (waits_on w n l) (rw e (again ∙ ap (λ (k : ℕ). walked_from p v (i + 1) k next) left))

  by_test : (w : Waiting) → c.wait ≡ Some w → (t : Bool) → goes_on_lem p c ≡ t → Again → walked_from p v i (suc n) c ≡ walked_from p v i (before_due (Some w) (suc n)) c
  by_test w waits true e again = waited w waits (leb-false _ _ (ap is_due_lem (sym waits) ∙ (goes p c e).far)) e again
  by_test w waits false e again = walk_stops p v i (suc n) c e ∙ sym (walk_stops p v i (before_due (Some w) (suc n)) c e)

  by_wait : (o : Option Waiting) → c.wait ≡ o → Again → walked_from p v i (suc n) c ≡ walked_from p v i (before_due o (suc n)) c
  unfolding before_due
  by_wait None e again = refl
  by_wait (Some w) e again = by_test w e (goes_on_lem p c) refl again

pub walk_before_due : (p : ℕ) (v : ℕ → ℕ → Float) (i n : ℕ) (c : Control) → walked_from p v i n c ≡ walked_from p v i (before_due c.wait n) c
walk_before_due p v i zero c = ap (λ (k : ℕ). walked_from p v i k c) (sym (none_left c.wait))
walk_before_due p v i (suc n) c = by_wait p v i n c c.wait refl (walk_before_due p v (i + 1) n (control_of (sampled p (v i) c)))
