-- Each export's promise fixes its code, every place that is lent beside the desk, and the memory after it. Assumes nothing.
use mathlib.Core.Path.{◌≡◌}
use Prim.Native.Nat.{ℕ}
use Rattle.numbers.proofs.Answer.{same_answer}
use Rattle.library_desk.specs.Memory.{Memory}
use Rattle.library_desk.specs.Calls.{Export, Coded, Says, M17DeskNewSays}

pub desk_only_answer : (m : Memory) (e : Export) (a b : Coded) (after other : Memory) → Says m e a after → Says m e b other → (a ≡ b) × (after ≡ other)
desk_only_answer m e a b after other p q = (same_answer p.answers q.answers, same_answer p.leaves q.leaves)

pub desk_new_only_answer : (a b : ℕ) (after other : Memory) → M17DeskNewSays a after → M17DeskNewSays b other → (a ≡ b) × (after ≡ other)
desk_new_only_answer a b after other p q = (same_answer p.answers q.answers, same_answer p.leaves q.leaves)
