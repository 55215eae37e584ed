-- The marks of a row, by whether it is long enough. Assumes nothing.
use mathlib.Core.Path.{◌≡◌, refl, sym, ◌∙◌}
use mathlib.Core.Bool.{Bool, true, false, ◌&&◌}
use mathlib.Core.List.{List, [], ◌∷◌}
use Prim.Native.Nat.{ℕ, ◌+◌, ◌*◌, ◌≤◌, ◌<◌}
use native.Mathlib.Omega.{arith}
use borrow.Author.Tests.{lt-leb, le-leb}
use lib.Dec.{leb, lit<}
use lib.ListN.{length, get_or, replicate}
use lib.Ieee.{Float, nan}
use Rattle.numbers.specs.Below.{all_below}
use Rattle.numbers.specs.Firsts.{firsts}
use Rattle.decode.specs.Parts.{values_of}
use Rattle.look.specs.Marks.{top_of, bottom_of, sides_like, mark_from, mark_of, eight_from, marks_of}

and_false : (b : Bool) → b && false ≡ false
and_false true = refl
and_false false = refl

module _ (p : ℕ) (row : List Float) where
  pub marks_long : p ≤ 10 → 7 * p + 48 ≤ length row → marks_of p row ≡ firsts (λ (k : ℕ). mark_of (eight_from p row k)) 48
  unfolding marks_of
  marks_long h l = rw (le-leb p 10 h, le-leb _ _ l)

  pub marks_many : 10 < p → marks_of p row ≡ replicate 48 2
  unfolding marks_of
  marks_many h = rw (lt-leb p 10 h)

  pub marks_short : length row < 7 * p + 48 → marks_of p row ≡ replicate 48 2
  unfolding marks_of
  marks_short l = rw (lt-leb _ _ l, and_false (leb p 10))

-- a mark reads no value but the eight
mark_list : (g : ℕ → Float) → mark_of (values_of (g 0 ∷ g 1 ∷ g 2 ∷ g 3 ∷ g 4 ∷ g 5 ∷ g 6 ∷ g 7 ∷ [])) ≡ mark_of g
unfolding mark_of mark_from sides_like all_below top_of bottom_of
mark_list g = refl

pub mark_same : (v w : ℕ → Float) → ((i : ℕ) → i < 8 → v i ≡ w i) → mark_of v ≡ mark_of w
mark_same v w h =
    sym (mark_list v)
    ∙ rw (h 0 (lit< tt), h 1 (lit< tt), h 2 (lit< tt), h 3 (lit< tt), h 4 (lit< tt), h 5 (lit< tt), h 6 (lit< tt), h 7 (lit< tt)) (mark_list w)

pub eight_same : (p : ℕ) (row : List Float) (k : ℕ)
    → let at : ℕ → Float = λ n. get_or row n nan in
    mark_of (values_of (at k ∷ at (k + p) ∷ at (k + 2 * p) ∷ at (k + 3 * p) ∷ at (k + 4 * p) ∷ at (k + 5 * p) ∷ at (k + 6 * p) ∷ at (k + 7 * p) ∷ []))
    ≡ mark_of (eight_from p row k)
eight_same p row k =
    let e0 : k + p * 0 ≡ k = omega arith in
    let e1 : k + p * 1 ≡ k + p = omega arith in
    let e2 : k + p * 2 ≡ k + 2 * p = omega arith in
    let e3 : k + p * 3 ≡ k + 3 * p = omega arith in
    let e4 : k + p * 4 ≡ k + 4 * p = omega arith in
    let e5 : k + p * 5 ≡ k + 5 * p = omega arith in
    let e6 : k + p * 6 ≡ k + 6 * p = omega arith in
    let e7 : k + p * 7 ≡ k + 7 * p = omega arith in
    rw (e0, e1, e2, e3, e4, e5, e6, e7) at (mark_list (eight_from p row k))
