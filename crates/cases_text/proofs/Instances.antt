-- Small instances of the laws with hypotheses, at a line of two words, `ab c`: what the laws ask can be met. Assumes nothing.
use mathlib.Core.Path.{◌≡◌, refl}
use mathlib.Core.Bool.{true}
use mathlib.Core.List.{List, [], ◌∷◌}
use Prim.Native.Nat.{ℕ, ◌≤◌}
use lib.Dec.{lit<, lit≤}
use Rattle.cases_text.specs.Places.{index_of, begin_of, end_of, part_of}
use Rattle.cases_text.specs.Behind.{same_word, behind_to}
use Rattle.cases_text.proofs.Words.{same_test, next_begins, between_is, none_past, word_found, word_passed, words_done}

abbrev line : List ℕ
line = 97 ∷ 98 ∷ 32 ∷ 99 ∷ []

abbrev first : List ℕ
first = 97 ∷ 98 ∷ []

-- ---- tests of two words
same_test_meets : true ≡ same_word first first
unfolding same_word
same_test_meets = same_test {P = first ≡ first} true (same_word first first) (λ e. refl) (λ e. refl) (λ e. refl) (λ e. refl)

-- ---- where the words lie: the first ends at 2, and the second begins at 3
ends : 2 ≡ end_of 32 line 0
unfolding end_of index_of
ends = refl

starts : 0 ≡ begin_of 32 line 0
unfolding begin_of
starts = refl

next_begins_meets : 3 ≡ begin_of 32 line 1
next_begins_meets = next_begins 32 line 0 0 2 starts ends

between_is_meets : first ≡ part_of 32 line 0
between_is_meets = between_is 32 line 0 0 2 starts ends

none_past_meets : 4 ≤ begin_of 32 line 4
none_past_meets = none_past 32 line 4 (lit≤ tt)

-- ---- the place after a name: the first word is it, the second is not, and there is no third
word_found_meets : 1 ≡ behind_to line first 1
unfolding begin_of end_of part_of same_word index_of
word_found_meets = word_found line first 0 1 (lit< tt) refl refl

word_passed_meets : 1 ≡ behind_to line first 2
unfolding begin_of end_of part_of same_word index_of
word_passed_meets = word_passed line first 1 1 (lit< tt) refl word_found_meets

words_done_meets : behind_to line first 4 ≡ behind_to line first 2
unfolding begin_of end_of index_of
words_done_meets = words_done line first 2 2 (lit≤ tt)
