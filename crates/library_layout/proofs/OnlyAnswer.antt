-- Each function's promise fixes its answer, and the numbers and levels that it writes. Assumes nothing.
use mathlib.Core.Path.{◌≡◌}
use mathlib.Core.Bool.{Bool}
use mathlib.Core.List.{List}
use Prim.Native.Nat.{ℕ}
use lib.Ieee.{Float}
use Rattle.numbers.proofs.Answer.{same_answer}
use Rattle.search.specs.declared.Control.{Control}
use Rattle.library_layout.specs.Promises.{IsReceiverSays, RecordCodeSays, ReadControlSays, WriteControlSays}

pub is_receiver_only_answer : (n : List ℕ) (r s : Bool) → IsReceiverSays n r → IsReceiverSays n s → r ≡ s
is_receiver_only_answer n r s = same_answer

pub record_code_only_answer : (n : List ℕ) (r s : ℕ) → RecordCodeSays n r → RecordCodeSays n s → r ≡ s
record_code_only_answer n r s = same_answer

pub read_control_only_answer : (n : List ℕ) (l : List Float) (r s : Control) → ReadControlSays n l r → ReadControlSays n l s → r ≡ s
read_control_only_answer n l r s = same_answer

pub write_control_only_answer : (rate windowCursor ringCursor : ℕ) (c : Control) (n n' : List ℕ) (l l' : List Float)
    → WriteControlSays rate windowCursor ringCursor c n l → WriteControlSays rate windowCursor ringCursor c n' l' → (n ≡ n') × (l ≡ l')
write_control_only_answer rate windowCursor ringCursor c n n' l l' p q =
    (same_answer p.numbers q.numbers, same_answer p.levels q.levels)
