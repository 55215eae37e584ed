-- Each admitted sample is counted, and nothing else is. Assumes nothing.
use Rattle.std.specs.Prelude.{Some, None, Option}
use mathlib.Core.Path.{◌≡◌, refl}
use mathlib.Core.Bool.{Bool, true, false, cond}
use Prim.Native.Nat.{ℕ, ◌+◌}
use lib.Ieee.{Float}
use lib.Dec.{ltb}
use Rattle.search.specs.declared.Waiting.{Waiting}
use Rattle.search.specs.declared.Control.{Control}
use Rattle.search.specs.declared.Turn.{Turn}
use Rattle.search.specs.declared.Turn.TheVariants.{Rest}
use Rattle.search.specs.declared.Reply.{Reply}
use Rattle.search.specs.declared.Reply.TheVariants.{Accepted, Rejected}
use Rattle.search.specs.TakenBurst.{TakenBurst, held_in}
use Rattle.search.specs.Turn.{counted, freed, owing, due_turn, waited_turn, comes_to, control_of, sampled, replied}
use Rattle.search.proofs.AgeInPass.{searched_sample}

module _ {n : ℕ} where
  turn_count : (p : ℕ) (v : ℕ → Float) (b : Bool) (x y : Turn) → (control_of (comes_to p v x)).sample ≡ n → (control_of (comes_to p v y)).sample ≡ n → (control_of (comes_to p v (cond b x y))).sample ≡ n
  turn_count p v true x y s t = s
  turn_count p v false x y s t = t

module _ (p : ℕ) (v : ℕ → Float) where
  due_count : (o : Option TakenBurst) (w : Waiting) (c : Control) → (control_of (comes_to p v (due_turn o w c))).sample ≡ c.sample
  unfolding due_turn
  due_count None w c = searched_sample p v c
  due_count (Some held) w c = refl

  waited_count : (wait : Option Waiting) (c : Control) → (control_of (comes_to p v (waited_turn wait c))).sample ≡ c.sample
  unfolding waited_turn
  waited_count None c = searched_sample p v c
  waited_count (Some w) c = turn_count p v (ltb 1 w.left) (Rest _) (due_turn (held_in c.candidate) w (freed c)) refl (due_count (held_in c.candidate) w (freed c))

  pub sampled_count : (c : Control) → (control_of (sampled p v c)).sample ≡ c.sample + 1
  unfolding sampled
  sampled_count c = waited_count c.wait (counted c)

  pub replied_count : (r : Reply) (c : Control) → (replied p v r c).sample ≡ c.sample
  unfolding replied
  replied_count Accepted c = refl
  replied_count Rejected c = searched_sample p v (owing false c)
