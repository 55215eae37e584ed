-- A text that the programs write lies within the 40 places of its room. Assumes nothing.
use mathlib.Core.Bool.{Bool, true, false}
use Prim.Native.Nat.{ℕ, ◌≤◌, ◌<◌, ◌^◌}
use native.Mathlib.Omega.{arith}
use Rattle.house.specs.declared.Program.{Program}
use Rattle.house.specs.declared.Program.TheVariants.{Receive, Send}
use Rattle.house.specs.declared.Text.{Text}
use Rattle.house.specs.declared.Trouble.{Trouble}
use Rattle.house.specs.declared.Trouble.TheVariants.{Reading, Writing, Refused}
use Rattle.house.specs.BadLine.{in_room, BadLineTextSays}
use Rattle.house.specs.Trouble.{program_name, reason, trouble_text_lem, outcome_text_lem, TroubleTextSays, OutcomeTextSays}
use Rattle.house.proofs.Decimal.{tens_below}
use Rattle.house.proofs.Places.{length_bad_line}

pub bad_line_within : (n : ℕ) (r : Text) → n < 2 ^ 64 → BadLineTextSays n r → r.length ≤ 40
unfolding in_room
bad_line_within n r small said = rw said (omega (arith, length_bad_line n, tens_below n small))

pub trouble_within : (program : Program) (trouble : Trouble) (r : Text) → TroubleTextSays program trouble r → r.length ≤ 40
unfolding in_room trouble_text_lem program_name reason
trouble_within Receive Reading r said = rw said (omega arith)
trouble_within Receive Writing r said = rw said (omega arith)
trouble_within Receive Refused r said = rw said (omega arith)
trouble_within Send Reading r said = rw said (omega arith)
trouble_within Send Writing r said = rw said (omega arith)
trouble_within Send Refused r said = rw said (omega arith)

pub outcome_within : (program : Program) (read written admitted : Bool) (r : Text) → OutcomeTextSays program read written admitted r → r.length ≤ 40
unfolding in_room outcome_text_lem
outcome_within program false written admitted r said = trouble_within program Reading r said
outcome_within program true false admitted r said = trouble_within program Writing r said
outcome_within program true true false r said = trouble_within program Refused r said
outcome_within program true true true r said = rw said (omega arith)
