-- Where the parts of a line lie that a letter stands between: its words, one space apart (32), and its cells, between bars (124). Assumes nothing.
use Rattle.std.specs.Prelude.{◌≡◌, Bool, ◌&&◌, cond, List, [], ◌∷◌, ℕ, zero, suc, ◌+◌, ◌-◌, ◌≤◌, min, ltb, eqb, length, get_or, take, drop}

unfoldable pub begins : List ℕ → ℕ → Bool
begins word letter = ltb 0 (length word) && eqb (get_or word 0 0) letter

-- how many letters stand before the first that is the given one, and all where none is
unfoldable pub index_of : ℕ → List ℕ → ℕ
index_of letter [] = 0
index_of letter (a ∷ line) = cond (eqb a letter) 0 (suc (index_of letter line))

-- the end of the part that begins at a place: the next such letter, or the line's end
unfoldable pub end_of : ℕ → List ℕ → ℕ → ℕ
end_of letter line at = at + index_of letter (drop at line)

-- part k begins after the letter that ends the part before it; past the last part, at the line's end
unfoldable pub begin_of : ℕ → List ℕ → ℕ → ℕ
begin_of letter line zero = 0
begin_of letter line (suc k) = min (end_of letter line (begin_of letter line k) + 1) (length line)

pub record PartBegins (letter : ℕ) (line : List ℕ) (k r : ℕ) : Type 0 where
  pub place : r ≡ begin_of letter line k
  pub within : r ≤ length line

-- the letters between two places
abbrev pub between : List ℕ → ℕ → ℕ → List ℕ
between line at end = take (end - at) (drop at line)

unfoldable pub part_of : ℕ → List ℕ → ℕ → List ℕ
part_of letter line k = between line (begin_of letter line k) (end_of letter line (begin_of letter line k))

abbrev pub word_of : List ℕ → ℕ → List ℕ
word_of line k = part_of 32 line k

-- ---- what the functions promise
abbrev pub BeginsSays : List ℕ → ℕ → Bool → Type 0
BeginsSays word letter r = r ≡ begins word letter

abbrev pub WordSays : List ℕ → ℕ → List ℕ → Type 0
WordSays line k r = r ≡ word_of line k

abbrev pub CellSays : List ℕ → ℕ → List ℕ → Type 0
CellSays line k r = r ≡ part_of 124 line k
