-- `begins` meets its contract: an empty word begins with no letter. Assumes nothing.
use Rattle.std.proofs.Common.{◌≡◌, ◌∙◌, ℕ, suc, length, arith, lt-ltb, List, [], ◌∷◌, eqb, refl, Option, Some, None, Bor}
use Rattle.std.specs.Option.{option_eq, option_copied}
use Rattle.std.specs.List.{slice_get}
use Rattle.cases_text.specs.Places.{begins}
use Rattle.cases_text.proofs.places.begins.Goals as goal

first_is : (word : List ℕ) (r : Option (Bor ℕ)) (p : Bor ℕ) → option_copied r ≡ slice_get word 0 → option_eq (λ x y. eqb x.now y.now) r (Some p) ≡ begins word p.now
unfolding begins
first_is [] None p h = refl
first_is [] (Some x) p h = absurd (cc)
first_is (a ∷ word) None p h = absurd (cc)
first_is (a ∷ word) (Some x) p h = let same : x.now ≡ a = cc in rw same (simp (lt-ltb 0 (suc (length word)) (omega arith)))

pub returns : goal.returns
returns c = c.eq.ensures ∙ first_is c.args.word.now c.first.result _ c.first.ensures.value
