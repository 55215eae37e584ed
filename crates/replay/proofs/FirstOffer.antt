-- The first offer from a sample on: those before it are passed over, and later numbers shift it. Assumes nothing.
use Rattle.std.specs.Prelude.{Option, Some}
use mathlib.Core.Path.{◌≡◌, refl}
use mathlib.Core.Bool.{Bool, true, false, cond}
use mathlib.Core.List.{List, [], ◌∷◌, ◌++◌, map}
use Prim.Native.Nat.{ℕ, ◌+◌, ◌-◌, ◌^◌, ◌≤◌, ◌<◌}
use native.Mathlib.Omega.{arith}
use borrow.Author.Tests.{lt-ltb, le-ltb, ltb-true, ltb-false}
use lib.Dec.{ltb}
use lib.IntN.{ℤ}
use lib.ListN.{length}
use Rattle.machine.specs.Runs.{Each}
use Rattle.shaping.specs.Rate.{Rate}
use Rattle.demodulator_run.specs.Rules.{History}
use Rattle.silence.proofs.CallsKeep.{any_samples}
use Rattle.listening.specs.Listener.{Rule, Listed, offers}
use Rattle.listening.specs.Rules.{rules_at}
use Rattle.listening.proofs.OwedReply.{Between}
use Rattle.replay.specs.FullRun.{first_from, later_listed, later_found}
use Rattle.replay.proofs.EachOffer.{offer_here, each_offer}

-- ---- offers up to a sample
abbrev pub UpTo : ℕ → Listed → Type 0
UpTo n o = o.due.sample ≤ n

pub skips : (a n : ℕ) → n < a → (os ps : List Listed) → Each (UpTo n) os → first_from a (os ++ ps) ≡ first_from a ps
unfolding first_from Each
skips a n l [] ps e = refl
skips a n l (o ∷ os) ps e = rw (lt-ltb o.due.sample a (omega (arith, e.0))) (skips a n l os ps e.1)

-- an offer is at the sample that brings it
pub offers_up_to : (R : Rate) (rule : Rule) (xs : List ℤ) (h : History) (n : ℕ) → Between h n → n + length xs ≤ 2 ^ 63
    → Each (UpTo (n + length xs)) (offers (rules_at R) rule h xs)
offers_up_to R rule xs h =
    each_offer R rule (λ k. Unit {0}) (λ x. Unit {0}) UpTo (λ k x g kept. tt)
    (λ k x kept. offer_here R rule (UpTo (k.control.sample + 1)) k x
    (λ shown c e at symbols. let here : c.sample ≤ k.control.sample + 1 = omega arith in here))
    (λ n k l o u. omega arith) xs (any_samples xs) h tt

-- ---- later numbers
before_later : (s a d : ℕ) → d < a → ltb (s + d) a ≡ ltb s (a - d)
before_later s a d l = go (ltb s (a - d)) refl
  where
    go : (t : Bool) → ltb s (a - d) ≡ t → ltb (s + d) a ≡ t
    go true e = let u = ltb-true s (a - d) e in lt-ltb (s + d) a (omega arith)
    go false e = let u = ltb-false s (a - d) e in le-ltb (s + d) a (omega arith)

found_later : (d : ℕ) (t : Bool) (x y : Option Listed) (o : Listed) → x ≡ later_found d y
    → cond t x (Some (later_listed d o)) ≡ later_found d (cond t y (Some o))
unfolding later_found
found_later d true x y o e = e
found_later d false x y o e = refl

pub first_later : (a d : ℕ) → d < a → (os : List Listed) → first_from a (map (later_listed d) os) ≡ later_found d (first_from (a - d) os)
unfolding first_from
first_later a d l [] = unfold later_found in refl
first_later a d l (o ∷ os) =
    rw (before_later o.due.sample a d l)
    (found_later d (ltb o.due.sample (a - d)) (first_from a (map (later_listed d) os)) (first_from (a - d) os) o (first_later a d l os))
