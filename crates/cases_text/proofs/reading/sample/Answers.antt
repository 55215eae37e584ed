-- `sample` meets its contract: what begins with `-` has a letter to leave out. Assumes nothing.
use Rattle.std.proofs.Common.{◌≡◌, refl, sym, ◌∙◌, ◌≤◌, Bool, true, false, ℕ, List, length, ltb-true}
use mathlib.Core.Bool.{◌&&◌}
use mir.Syntax.{w16}
use mir.ValLaws.{to_z-of_z}
use Rattle.cases_text.specs.Places.{begins}
use Rattle.cases_text.specs.Numbers.{sample_of}
use Rattle.cases_text.proofs.reading.sample.Goals as goal

first_true : (a b : Bool) → (a && b) ≡ true → a ≡ true
first_true true b h = refl
first_true false b h = h

some : (word : List ℕ) (letter : ℕ) → begins word letter ≡ true → 1 ≤ length word
unfolding begins
some word letter h = ltb-true _ _ (first_true _ _ h)

pub slice_bounds-number-count : goal.slice_bounds-number-count
slice_bounds-number-count c = some c.args.word.now 45 (sym c.begins.ensures ∙ c.if-begins.true)

pub slice_bounds-number-start : goal.slice_bounds-number-start
slice_bounds-number-start c = some c.args.word.now 45 (sym c.begins.ensures ∙ c.if-begins.true)

pub returns-then-begins : goal.returns-then-begins
unfolding sample_of
returns-then-begins c =
    to_z-of_z w16 c.with_sign.result (record { sfits = c.with_sign.type_inv })
    ∙ rw (← c.begins.ensures, c.if-begins.true, ← c.number-size.ensures) c.with_sign.ensures

pub returns-else-begins : goal.returns-else-begins
unfolding sample_of
returns-else-begins c =
    to_z-of_z w16 c.with_sign-else-begins.result (record { sfits = c.with_sign-else-begins.type_inv })
    ∙ rw (← c.begins.ensures, c.if-begins.false, ← c.number-size-else-begins.ensures) c.with_sign-else-begins.ensures
