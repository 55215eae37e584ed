-- What a line of words names, and the word after a name. Assumes nothing.
use Rattle.std.specs.Prelude.{◌≡◌, Bool, true, false, ◌&&◌, cond, List, [], ◌∷◌, ℕ, zero, suc, ltb, eqb, length, Float}
use Rattle.cases_text.specs.Places.{begin_of, word_of}
use Rattle.cases_text.specs.Numbers.{number_of, float_of}

-- whether two words have the same letters
unfoldable pub same_word : List ℕ → List ℕ → Bool
same_word [] [] = true
same_word [] (b ∷ v) = false
same_word (a ∷ u) [] = false
same_word (a ∷ u) (b ∷ v) = eqb a b && same_word u v

-- of the first n words, as far as they begin before the line's end, the place after the last that is the name; 0 where none is
unfoldable pub behind_to : List ℕ → List ℕ → ℕ → ℕ
behind_to words name zero = 0
behind_to words name (suc n) =
    cond (ltb (begin_of 32 words n) (length words) && same_word (word_of words n) name) (suc n) (behind_to words name n)

-- of all words: a line has no more of them than letters (proofs/Words.antt, `none_past`)
abbrev pub behind_of : List ℕ → List ℕ → ℕ
behind_of words name = behind_to words name (length words)

abbrev pub named : List ℕ → List ℕ → Bool
named words name = ltb 0 (behind_of words name)

unfoldable pub count_behind_lem : List ℕ → List ℕ → ℕ → ℕ
count_behind_lem words name own = cond (named words name) (number_of 10 (word_of words (behind_of words name))) own

unfoldable pub float_behind_lem : List ℕ → List ℕ → Float → Float
float_behind_lem words name own = cond (named words name) (float_of (word_of words (behind_of words name))) own

-- ---- what the functions promise
abbrev pub PlaceBehindSays : List ℕ → List ℕ → ℕ → Type 0
PlaceBehindSays words name r = r ≡ behind_of words name

abbrev pub NamesSays : List ℕ → List ℕ → Bool → Type 0
NamesSays words name r = r ≡ named words name

abbrev pub CountBehindSays : List ℕ → List ℕ → ℕ → ℕ → Type 0
CountBehindSays words name own r = r ≡ count_behind_lem words name own

abbrev pub FloatBehindSays : List ℕ → List ℕ → Float → Float → Type 0
FloatBehindSays words name own r = r ≡ float_behind_lem words name own
