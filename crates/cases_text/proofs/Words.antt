-- The test of two words; where the parts of a line begin; and the place after a name, word by word. Assumes nothing.
use mathlib.Core.Path.{◌≡◌, refl, sym, ap, ◌∙◌}
use mathlib.Core.Bool.{Bool, true, false}
use mathlib.Core.List.{List, [], ◌∷◌}
use Prim.Native.Nat.{ℕ, zero, suc, ◌+◌, ◌≤◌, ◌<◌, min}
use native.Mathlib.Nat.{add-zero, add-suc}
use native.Mathlib.Numerals.{add-one}
use native.Mathlib.Omega.{arith}
use borrow.Author.Tests.{lt-ltb, le-ltb}
use lib.Dec.{eqb}
use lib.Pointwise.{pointwise}
use lib.ListN.{length}
use Rattle.cases_text.specs.Places.{begin_of, end_of, between, part_of, word_of}
use Rattle.cases_text.specs.Behind.{same_word, behind_to}

-- two tests of one fact agree
pub same_test : {P : Type 0} (r s : Bool) → (r ≡ true → P) → (P → r ≡ true) → (s ≡ true → P) → (P → s ≡ true) → r ≡ s
same_test true true told seen told' seen' = refl
same_test true false told seen told' seen' = sym (seen' (told refl))
same_test false true told seen told' seen' = seen (told' refl)
same_test false false told seen told' seen' = refl

-- `==` of two words is the definition's test
pub same_word_lem : (a b : List ℕ) → pointwise eqb a b ≡ same_word a b
unfolding same_word
same_word_lem [] [] = refl
same_word_lem [] (y ∷ v) = refl
same_word_lem (x ∷ u) [] = refl
same_word_lem (x ∷ u) (y ∷ v) = rw (same_word_lem u v)

-- the next part begins after the end of this one, at most at the line's end
pub next_begins : (letter : ℕ) (line : List ℕ) (k at end : ℕ) → at ≡ begin_of letter line k → end ≡ end_of letter line at → min (end + 1) (length line) ≡ begin_of letter line (k + 1)
unfolding begin_of
next_begins letter line k at end here ends =
    ap (λ (e : ℕ). min (e + 1) (length line)) (ends ∙ ap (end_of letter line) here) ∙ ap (begin_of letter line) (sym (add-one k))

-- the part that begins at one place and ends at the other
pub between_is : (letter : ℕ) (line : List ℕ) (k at end : ℕ) → at ≡ begin_of letter line k → end ≡ end_of letter line at → between line at end ≡ part_of letter line k
unfolding part_of
between_is letter line k at end here ends =
    ap (between line at) ends ∙ ap (λ (a : ℕ). between line a (end_of letter line a)) here

-- where a part is at the line's end, so are those after it
at_the_end : (letter : ℕ) (line : List ℕ) (k d : ℕ) → length line ≤ begin_of letter line k → length line ≤ begin_of letter line (k + d)
unfolding begin_of end_of
at_the_end letter line k zero h = rw (add-zero k) h
at_the_end letter line k (suc d) h = let before = at_the_end letter line k d h in rw (add-suc k d) (omega arith)

-- each part begins at least one place after the one before it, until the line ends
begins_past : (letter : ℕ) (line : List ℕ) (k : ℕ) → min k (length line) ≤ begin_of letter line k
unfolding begin_of end_of
begins_past letter line zero = omega arith
begins_past letter line (suc k) = let before = begins_past letter line k in omega arith

-- so that none begins before the line's end past as many as the line has letters
pub none_past : (letter : ℕ) (line : List ℕ) (k : ℕ) → length line ≤ k → length line ≤ begin_of letter line k
none_past letter line k h = omega (arith, begins_past letter line k)

-- what a turn over word k does to the place
pub word_found : (words name : List ℕ) (k place : ℕ) → begin_of 32 words k < length words → same_word (word_of words k) name ≡ true → place ≡ k + 1 → place ≡ behind_to words name (k + 1)
unfolding behind_to
word_found words name k place there test here = rw (add-one k, lt-ltb _ _ there, test) (here ∙ add-one k)

pub word_passed : (words name : List ℕ) (k place : ℕ) → begin_of 32 words k < length words → same_word (word_of words k) name ≡ false → place ≡ behind_to words name k → place ≡ behind_to words name (k + 1)
unfolding behind_to
word_passed words name k place there test before = rw (add-one k, lt-ltb _ _ there, test) before

-- after the last word the place stays
pub words_done : (words name : List ℕ) (k d : ℕ) → length words ≤ begin_of 32 words k → behind_to words name (k + d) ≡ behind_to words name k
unfolding behind_to
words_done words name k zero h = rw (add-zero k)
words_done words name k (suc d) h = rw (add-suc k d, le-ltb _ _ (at_the_end 32 words k d h)) (words_done words name k d h)
