-- What a program says when it stops before its input has ended: its name, and why; the words are our own. Assumes nothing.
use Rattle.std.specs.Prelude.{◌≡◌, Bool, cond, List, [], ◌∷◌, ◌++◌, ℕ}
use Rattle.house.specs.declared.Program.{Program}
use Rattle.house.specs.declared.Program.TheVariants.{Receive, Send}
use Rattle.house.specs.declared.Text.{Text}
use Rattle.house.specs.declared.Trouble.{Trouble}
use Rattle.house.specs.declared.Trouble.TheVariants.{Reading, Writing, Refused}
use Rattle.house.specs.BadLine.{in_room}

-- `receive: ` and `send: ` in bytes
unfoldable pub program_name : Program → List ℕ
program_name Receive = 114 ∷ 101 ∷ 99 ∷ 101 ∷ 105 ∷ 118 ∷ 101 ∷ 58 ∷ 32 ∷ []
program_name Send = 115 ∷ 101 ∷ 110 ∷ 100 ∷ 58 ∷ 32 ∷ []

-- `cannot read standard input`, `cannot write standard output` and `a call was refused` in bytes, each with its line feed
unfoldable pub reason : Trouble → List ℕ
reason Reading = 99 ∷ 97 ∷ 110 ∷ 110 ∷ 111 ∷ 116 ∷ 32 ∷ 114 ∷ 101 ∷ 97 ∷ 100 ∷ 32 ∷ 115 ∷ 116 ∷ 97 ∷ 110 ∷ 100 ∷ 97 ∷ 114 ∷ 100 ∷ 32 ∷ 105 ∷ 110 ∷ 112 ∷ 117 ∷ 116 ∷ 10 ∷ []
reason Writing = 99 ∷ 97 ∷ 110 ∷ 110 ∷ 111 ∷ 116 ∷ 32 ∷ 119 ∷ 114 ∷ 105 ∷ 116 ∷ 101 ∷ 32 ∷ 115 ∷ 116 ∷ 97 ∷ 110 ∷ 100 ∷ 97 ∷ 114 ∷ 100 ∷ 32 ∷ 111 ∷ 117 ∷ 116 ∷ 112 ∷ 117 ∷ 116 ∷ 10 ∷ []
reason Refused = 97 ∷ 32 ∷ 99 ∷ 97 ∷ 108 ∷ 108 ∷ 32 ∷ 119 ∷ 97 ∷ 115 ∷ 32 ∷ 114 ∷ 101 ∷ 102 ∷ 117 ∷ 115 ∷ 101 ∷ 100 ∷ 10 ∷ []

unfoldable pub trouble_text_lem : Program → Trouble → List ℕ
trouble_text_lem program trouble = program_name program ++ reason trouble

-- of a turn: whether its read went well, whether its write did, and whether its call was admitted; the first that did not is told
unfoldable pub outcome_text_lem : Program → Bool → Bool → Bool → List ℕ
outcome_text_lem program read written admitted =
    cond read (cond written (cond admitted [] (trouble_text_lem program Refused)) (trouble_text_lem program Writing)) (trouble_text_lem program Reading)

-- ---- what the functions promise
abbrev pub TroubleTextSays : Program → Trouble → Text → Type 0
TroubleTextSays program trouble r = r ≡ in_room (trouble_text_lem program trouble)

abbrev pub OutcomeTextSays : Program → Bool → Bool → Bool → Text → Type 0
OutcomeTextSays program read written admitted r = r ≡ in_room (outcome_text_lem program read written admitted)
