-- `pause::find_pause` meets its contract: no stretch ends with more samples than are left, up to the most. Assumes nothing.
use mathlib.Core.List.{List}
use Prim.Native.Nat.{ℕ, ◌≤◌, ◌<◌}
use lib.IntN.{ℤ}
use lib.ListN.{length}
use Rattle.replay.specs.Pauses.{PauseAt}
use Rattle.replay.proofs.pause.find_pause.Given as goal

-- no pause ends past it
abbrev pub NoneAfter : ℕ → List ℤ → ℕ → ℕ → Type 0
NoneAfter span xs most end = (e : ℕ) → end < e → e ≤ most → PauseAt span xs e → ⊥

abbrev pub invariant-loop-end : goal.invariant-loop-end
invariant-loop-end l = (1 ≤ l.span) × (l.end ≤ l.most) × (l.most ≤ length l.samples) × NoneAfter l.span l.samples l.most l.end

abbrev pub decreases-loop-end : goal.decreases-loop-end
decreases-loop-end l = l.end
