-- `find` meets its contract: the position that is found from there on is the definition's. Assumes nothing.
use Rattle.std.proofs.Common.{◌≡◌, ◌∙◌, sym, ap, ℕ, ◌+◌, ◌-◌, false, eqb, length, take, drop, length-drop, refl, eq-eqb, add-one, arith, rules, tests}
use Rattle.std.specs.Option.{unwrap_or}
use Rattle.std.proofs.lemmas.List.{take_all}
use Rattle.std.proofs.lemmas.Iterator.{YieldsList-from_slice, IsFirst-from_position, index_from_first}
use Rattle.cases_text.specs.Places.{index_of, end_of}
use Rattle.cases_text.proofs.places.find.Goals as goal

pub returns-clause-value : goal.returns-clause-value
unfolding index_of end_of
returns-clause-value c =
    let letter = c.args.letter in
    let line = c.args.line.now in
    let left = drop c.args.at line in
    let rest = take (length line - c.args.at) left in
    let whole : rest ≡ left = take_all (length line - c.args.at) left (simp length-drop (omega arith)) in
    let found : index_of letter rest ≡ unwrap_or c.position.result (length rest) =
    index_from_first (index_of letter) (λ x. x ≡ letter) (λ x. eqb x letter ≡ false) refl (λ x xs e. rw (eq-eqb x letter e)) (λ x xs e. rw (e, add-one (index_of letter xs))) rest c.position.result
    (IsFirst-from_position _ _ _ (λ x. x ≡ letter) (λ x. eqb x letter ≡ false) c.position.ensures.ran (YieldsList-from_slice rest (search rules)) (λ x q k. search (rules, tests)) (λ x q k. search (rules, tests)))
    in
    ap (λ (k : ℕ). c.args.at + k) (c.unwrap_or.ensures ∙ sym found ∙ ap (index_of letter) whole)
