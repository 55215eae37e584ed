-- `AfterPart::last_words` meets its contract: each return is one case of the definition. Assumes nothing.
use mathlib.Core.Path.{◌≡◌, refl, sym, ◌∙◌}
use mathlib.Core.Bool.{Bool, true, false, true≢false, cond, ◌&&◌}
use Prim.Native.Nat.{ℕ}
use Rattle.house.specs.BadLine.{in_room, bad_line_lem}
use Rattle.house.specs.declared.Program.TheVariants.{Send}
use Rattle.house.specs.Trouble.{outcome_text_lem}
use Rattle.sending.specs.Calls.{named, words, is_admitted_lem, said_of}
use Rattle.sending.proofs.AfterPart.last_words.Goals as goal

-- all went well and the line is bad
bad_told : (read written admitted bad : Bool) (n : ℕ) → (read && written && admitted && bad) ≡ true
    → cond (read && written && admitted) (words (named bad n)) (in_room (outcome_text_lem Send read written admitted)) ≡ in_room (bad_line_lem n)
unfolding named words
bad_told true true true true n e = refl
bad_told true true true false n e = absurd (true≢false (sym e))
bad_told true true false bad n e = absurd (true≢false (sym e))
bad_told true false admitted bad n e = absurd (true≢false (sym e))
bad_told false written admitted bad n e = absurd (true≢false (sym e))

-- something did not, or the line is not bad
outcome_told : (read written admitted bad : Bool) (n : ℕ) → (read && written && admitted && bad) ≡ false
    → cond (read && written && admitted) (words (named bad n)) (in_room (outcome_text_lem Send read written admitted)) ≡ in_room (outcome_text_lem Send read written admitted)
unfolding named words outcome_text_lem
outcome_told true true true true n e = absurd (true≢false e)
outcome_told true true true false n e = refl
outcome_told true true false bad n e = refl
outcome_told true false admitted bad n e = refl
outcome_told false written admitted bad n e = refl

pub returns-then-read-written : goal.returns-then-read-written
unfolding said_of
returns-then-read-written c =
    let a = c.args in
    c.bad_line_text.ensures ∙
    sym (bad_told a.read a.written (is_admitted_lem a.self) a.self.bad a.self.sending.number (rw c.is_admitted-admitted.ensures at c.if-read-written.true))

pub returns : goal.returns
unfolding said_of
returns c =
    let a = c.args in
    rw c.is_admitted-admitted.ensures at c.outcome_text.ensures ∙
    sym (outcome_told a.read a.written (is_admitted_lem a.self) a.self.bad a.self.sending.number (rw c.is_admitted-admitted.ensures at c.if-read-written.false))
