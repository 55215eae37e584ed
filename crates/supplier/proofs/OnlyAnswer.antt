-- The promise of `check` leaves one answer. Assumes nothing.
use Rattle.std.specs.Prelude.{Result, Ok, Err}
use mathlib.Core.Path.{◌≡◌, refl, sym, ap, ◌∙◌}
use mathlib.Core.List.{List}
use Prim.Native.Nat.{ℕ}
use lib.IntN.{ℤ}
use Rattle.numbers.proofs.Answer.{same_answer}
use Rattle.protocol.specs.declared.Refusal.{Refusal}
use Rattle.protocol.proofs.Numbers.{numbered, numbered_back}
use Rattle.supplier.specs.declared.Checked.{Checked}
use Rattle.supplier.specs.declared.Checked.TheVariants.{Yes, Differs, Short, Long}
use Rattle.supplier.specs.Check.{Verdict, refused, yes, differs, short, long, answer_paper, CheckSays}

abbrev unwritten : Verdict → Result Checked Refusal
unwritten (refused why) = Err (numbered why)
unwritten yes = Ok Yes
unwritten (differs k) = Ok (Differs k)
unwritten short = Ok Short
unwritten long = Ok Long

back : (r : Result Checked Refusal) → unwritten (answer_paper r) ≡ r
back (Err why) = ap Err (numbered_back why)
back (Ok Yes) = refl
back (Ok (Differs k)) = refl
back (Ok Short) = refl
back (Ok Long) = refl

pub check_only_answer : (padding : ℕ) (text : List ℕ) (samples : List ℤ) (r s : Result Checked Refusal)
    → CheckSays padding text samples r → CheckSays padding text samples s → r ≡ s
check_only_answer padding text samples r s p q = sym (back r) ∙ ap unwritten (same_answer p q) ∙ back s
