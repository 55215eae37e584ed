-- What a sample comes to, by the wait that the control holds, and that readers that agree at the eight places lead to the same. Assumes nothing.
use Rattle.std.specs.Prelude.{Some, None}
use mathlib.Core.Path.{◌≡◌, refl, ap}
use Prim.Native.Nat.{ℕ, ◌+◌, ◌≤◌, ◌<◌}
use lib.Ieee.{Float}
use borrow.Author.Tests.{lt-ltb, le-ltb}
use Rattle.search.specs.declared.Waiting.{Waiting}
use Rattle.search.specs.declared.Control.{Control}
use Rattle.search.specs.declared.Turn.{Turn}
use Rattle.search.specs.declared.Turn.TheVariants.{Rest, Offer, Look}
use Rattle.search.specs.TakenBurst.{held_in}
use Rattle.search.specs.Search.{searched}
use Rattle.search.specs.Turn.{quiet, counted, nearer, waiting_on, freed, due_turn, waited_turn, turn_of, comes_to, sampled}
use Rattle.search.proofs.SearchSame.{searched_same}

-- ---- by the wait
module _ (p : ℕ) (v : ℕ → Float) (c : Control) where
  pub sampled_free : c.wait ≡ None → sampled p v c ≡ quiet (searched p v (counted c))
  unfolding sampled waited_turn
  sampled_free e = rw e

  module _ (w : Waiting) (e : c.wait ≡ Some w) where
    pub sampled_rest : 1 < w.left → sampled p v c ≡ quiet (waiting_on (nearer w) (counted c))
    unfolding sampled waited_turn
    sampled_rest l = rw (e, lt-ltb 1 w.left l)

    pub sampled_due : w.left ≤ 1 → sampled p v c ≡ comes_to p v (due_turn (held_in c.candidate) w (freed (counted c)))
    unfolding sampled waited_turn
    sampled_due l = rw (e, le-ltb 1 w.left l)

-- ---- readers that agree
module _ (p : ℕ) (v w : ℕ → Float) (agree : (i : ℕ) → i < 8 → v i ≡ w i) where
  comes_same : (o : Turn) → comes_to p v o ≡ comes_to p w o
  comes_same (Rest c) = refl
  comes_same (Offer shown c) = refl
  comes_same (Look c) = ap quiet (searched_same p v w agree c)

  pub sampled_same : (c : Control) → sampled p v c ≡ sampled p w c
  unfolding sampled
  sampled_same c = comes_same (turn_of (c.sample + 1) c)
