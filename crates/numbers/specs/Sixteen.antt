-- Samples of 16 bits, by their places. Assumes nothing.
use Rattle.std.specs.Prelude.{List, ℕ, ◌<◌, ℤ, pos, length, get_or}
use Rattle.std.specs.Int.{w16}
use Rattle.std.proofs.Common.{SFits}

abbrev pub AllSixteen : List ℤ → Type 0
AllSixteen xs = (k : ℕ) → k < length xs → SFits w16 (get_or xs k (pos 0))

-- ---- what the function promises: it gives no answer and changes nothing
abbrev pub AllSixteenSays : List ℤ → Type 0
AllSixteenSays = AllSixteen
