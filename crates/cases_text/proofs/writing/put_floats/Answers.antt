-- `put_floats` meets its contract: each turn writes one more. Assumes nothing.
use Rattle.std.proofs.Common.{arith, ◌≡◌, ◌<◌, ◌+◌, ◌++◌, [], ◌∷◌, List, ℕ, Option, Some, None, Float, length, take, add-one, sym, ap, subst, ◌∙◌, get_or}
use Rattle.std.proofs.Math.Seq.{take-suc, take-length}
use Rattle.std.proofs.lemmas.List.{append-nil, append_assoc}
use Rattle.std.proofs.lemmas.Grind.{flat_map-append}
use Rattle.std.specs.Float.{nan}
use Rattle.std.specs.Io.KnownBytes.{Appends}
use Rattle.cases_text.specs.Written.{float_text, float_texts}
use Rattle.cases_text.proofs.writing.put_floats.Goals as goal

appends_none : (u : Option (List ℕ)) → Appends u u []
appends_none None = tt
appends_none (Some xs) = sym (append-nil xs)

appends_then : (u v w : Option (List ℕ)) (a b : List ℕ) → Appends u v a → Appends v w b → Appends u w (a ++ b)
appends_then None v w a b x y = tt
appends_then (Some xs) None w a b x y = absurd x
appends_then (Some xs) (Some ys) None a b x y = y
appends_then (Some xs) (Some ys) (Some zs) a b x y = y ∙ ap (λ (t : List ℕ). t ++ b) x ∙ append_assoc xs a b

-- the texts of one more
one_more : (xs : List Float) (i : ℕ) (d : Float) → i < length xs → float_texts (take (i + 1) xs) ≡ float_texts (take i xs) ++ (32 ∷ float_text (get_or xs i d))
one_more xs i d h =
    rw (add-one i, take-suc xs i d h) (
    flat_map-append (λ (x : Float). 32 ∷ float_text x) (take i xs) (get_or xs i d ∷ [])
    ∙ ap (λ (t : List ℕ). float_texts (take i xs) ++ t) (append-nil (32 ∷ float_text (get_or xs i d)))
    )

pub loop-x-init : goal.loop-x-init
loop-x-init g c = appends_none _

pub loop-x-preserved : goal.loop-x-preserved
loop-x-preserved g c =
    rw (one_more c.args.xs.now c.loop-x.x-index nan c.loop-x-test.true) (appends_then _ _ _ _ _ c.loop-x.invariant c.in_ok-put_float.ensures)

pub returns : goal.returns
returns g c =
    let all : c.loop-x.x-index ≡ length c.args.xs.now = omega arith in
    let whole : take c.loop-x.x-index c.args.xs.now ≡ c.args.xs.now = ap (λ (n : ℕ). take n c.args.xs.now) all ∙ take-length c.args.xs.now in
    subst (λ (ys : List Float). Appends (g.W.Write.contents c.args.out.now) (g.W.Write.contents c.loop-x.out) (float_texts ys)) whole c.loop-x.invariant
