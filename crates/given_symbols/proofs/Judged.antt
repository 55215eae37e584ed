-- What a symbol is judged to be, by the tests of the code; and the count of a frame that is fine. Assumes nothing.
use mathlib.Core.Path.{◌≡◌, refl, sym, subst}
use mathlib.Core.Bool.{Bool, true, false, not, cond, ◌||◌}
use mathlib.Core.List.{List}
use Prim.Native.Nat.{ℕ}
use native.Mathlib.Omega.{arith}
use borrow.Author.Tests.{eqb-true}
use lib.Dec.{T, eqb}
use lib.IntN.{ℤ}
use lib.ListN.{length}
use lib.Ieee.{Float, nan, inf, fin, binary32, of_bits, lt, eq, ne}
use lib.Ieee.Compare.{differs_from_itself}
use Rattle.std.specs.Prelude.{Result, Ok, Err}
use Rattle.std.specs.Result.{result_and}
use Rattle.protocol.specs.declared.Refusal.{Refusal}
use Rattle.protocol.specs.Refusals.{bare, placed}
use Rattle.given_symbols.specs.declared.Traffic.{Traffic}
use Rattle.given_symbols.specs.Offender.{PaperVerdict, refused, fine, verdict_paper, judged, earlier, judged_below, head_judged, judged_as}

-- 1.0, and -1.0
abbrev pub one : Float
one = of_bits binary32 0x3f80_0000

abbrev pub minus_one : Float
minus_one = of_bits binary32 0xbf80_0000

abbrev pub is_infinite : Float → Bool
is_infinite x = eq x (inf false) || eq x (inf true)

-- the first of two verdicts that is a refusal
pub verdict_and : (first next : Result Unit Refusal) → verdict_paper (result_and first next) ≡ earlier (verdict_paper first) (verdict_paper next)
verdict_and (Err why) next = refl
verdict_and (Ok _) next = refl

module _ (place : ℕ) where
  pub judged_not_a_number : (x : Float) → ne x x ≡ true → refused (placed 71 place) ≡ judged place x
  unfolding judged
  judged_not_a_number x e = rw (differs_from_itself x (subst T (sym e) tt))

  pub judged_infinite : (x : Float) → is_infinite x ≡ true → refused (placed 72 place) ≡ judged place x
  unfolding judged eq
  judged_infinite nan i = absurd (subst T (sym i) tt)
  judged_infinite (inf negative) i = refl
  judged_infinite (fin negative m e) i = absurd (subst T (sym i) tt)

  -- past those two tests a symbol is finite
  judged_finite : (x : Float) (r : PaperVerdict) → ne x x ≡ false → is_infinite x ≡ false → ((negative : Bool) (m : ℕ) (e : ℤ) → x ≡ fin negative m e → r ≡ judged place x) → r ≡ judged place x
  unfolding eq ne
  judged_finite nan r t i k = absurd (subst T t tt)
  judged_finite (inf true) r t i k = absurd (subst T i tt)
  judged_finite (inf false) r t i k = absurd (subst T i tt)
  judged_finite (fin negative m e) r t i k = k negative m e refl

  module _ (x : Float) (t : ne x x ≡ false) (i : is_infinite x ≡ false) where
    pub judged_above : lt one x ≡ true → refused (placed 73 place) ≡ judged place x
    unfolding judged
    judged_above a = judged_finite x _ t i (λ negative m e same. rw (same, rw same at a))

    module _ (a : lt one x ≡ false) where
      pub judged_below_lem : lt x minus_one ≡ true → refused (placed 74 place) ≡ judged place x
      unfolding judged
      judged_below_lem b = judged_finite x _ t i (λ negative m e same. rw (same, rw same at a, rw same at b))

      pub judged_fine : lt x minus_one ≡ false → fine ≡ judged place x
      unfolding judged
      judged_fine b = judged_finite x _ t i (λ negative m e same. rw (same, rw same at a, rw same at b))

-- ---- a frame that is fine has 192 symbols
module _ (traffic : Traffic) (symbols : List Float) where
  pub fine_count : judged_as traffic symbols ≡ fine → length symbols ≡ 192
  unfolding judged_as
  fine_count e = by_count (eqb (length symbols) 192) refl e
    where
      by_count : (counted : Bool) → eqb (length symbols) 192 ≡ counted → cond (not counted) (refused (bare 6)) (earlier (judged_below 192 symbols) (head_judged traffic symbols)) ≡ fine → length symbols ≡ 192
      by_count true c e = eqb-true (length symbols) 192 c
      by_count false c e = let z : ◌≡◌ {A = ℕ} 0 1 = cc in omega arith
