-- The turn of many samples is the turn of the last. Assumes nothing.
use Rattle.std.specs.Prelude.{None}
use mathlib.Core.Path.{◌≡◌}
use Prim.Native.Nat.{ℕ, ◌<◌}
use borrow.Author.Tests.{lt-ltb}
use Rattle.search.specs.declared.Waiting.{Waiting}
use Rattle.search.specs.declared.Control.{Control}
use Rattle.search.specs.Turn.{counted_to, nearer, waiting_on, waited_turn, turn_of}
use Rattle.quiet.specs.Parts.{turn_control}

pub count_turn : (n : ℕ) (c : Control) → c.wait ≡ None → turn_control (turn_of n c) ≡ counted_to n c
unfolding waited_turn
count_turn n c e = rw e

pub rest_turn : (n : ℕ) (w : Waiting) (c : Control) → 1 < w.left → turn_control (turn_of n (waiting_on w c)) ≡ waiting_on (nearer w) (counted_to n c)
unfolding waited_turn
rest_turn n w c l = rw (lt-ltb 1 w.left l)
