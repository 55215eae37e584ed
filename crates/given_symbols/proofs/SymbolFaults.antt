-- One symbol: what is wrong with it, by its number, and that it is judged so. Assumes nothing.
use mathlib.Core.Path.{◌≡◌, refl}
use mathlib.Core.Bool.{Bool, true, false, not, cond}
use Prim.Native.Nat.{ℕ}
use lib.Dec.{T}
use lib.Ieee.{Float, nan, inf, fin, of_bits, lt, eq, le}
use lib.Ieee.Bits.{is_true, is_false}
use lib.Ieee.Fits.{and_i, and_l, and_r}
use lib.Ieee.Scale.{finite}
use Rattle.numbers.proofs.Tests.{holds, fails}
use Rattle.numbers.proofs.Order.{lt→le, nlt→le, not_lt, le_trans}
use Rattle.protocol.specs.Refusals.{PaperRefusal, placed}
use Rattle.given_symbols.specs.Offender.{PaperVerdict, refused, fine, symbol_fit, judged}
use Rattle.given_symbols.proofs.Judged.{one, minus_one}

-- what is wrong with a symbol, by the numbers: "not a number, infinite, above 1, below -1"; "an infinity is always 72"
pub data Fault : Float → ℕ → Type 0 where
  not_a_number : Fault nan 71
  infinite : (negative : Bool) → Fault (inf negative) 72
  above : (x : Float) → T (finite x) → T (lt one x) → Fault x 73
  below : (x : Float) → T (finite x) → T (lt x minus_one) → Fault x 74

-- what is made of it: nothing for a symbol from -1 to 1, and for any other its number with its place
pub data Judgement (place : ℕ) (x : Float) : PaperVerdict → Type 0 where
  fits : T (symbol_fit x) → Judgement place x fine
  wrong : (why : PaperRefusal) (number : ℕ) → why ≡ placed number place → Fault x number → symbol_fit x ≡ false → Judgement place x (refused why)

both : (b : Bool) → T b → T (not b) → ⊥
both true s t = t
both false s t = s

refuted : (b : Bool) → (T b → ⊥) → b ≡ false
refuted true never = absurd (never tt)
refuted false never = refl

one_finite : T (finite one)
unfolding of_bits
one_finite = tt

minus_one_finite : T (finite minus_one)
unfolding of_bits
minus_one_finite = tt

minus_one_below : T (le minus_one one)
unfolding of_bits le lt
minus_one_below = tt

module _ (x : Float) (f : T (finite x)) where
  above_outside : T (lt one x) → symbol_fit x ≡ false
  unfolding symbol_fit
  above_outside a = refuted _ λ t. both (lt one x) a (not_lt x one f one_finite (and_r (le minus_one x) (le x one) t))

  below_outside : T (lt x minus_one) → symbol_fit x ≡ false
  unfolding symbol_fit
  below_outside b = refuted _ λ t. both (lt x minus_one) b (not_lt minus_one x minus_one_finite f (and_l (le minus_one x) (le x one) t))

  neither_fit : T (not (lt one x)) → T (not (lt x minus_one)) → T (symbol_fit x)
  unfolding symbol_fit
  neither_fit a b = and_i (le minus_one x) (le x one) (nlt→le x minus_one f minus_one_finite b) (nlt→le one x one_finite f a)

  judgement_finite : (place : ℕ) (a b : Bool) → lt one x ≡ a → lt x minus_one ≡ b
      → Judgement place x (cond a (refused (placed 73 place)) (cond b (refused (placed 74 place)) fine))
  judgement_finite place true b p q = let t = holds p in wrong (placed 73 place) 73 refl (above x f t) (above_outside t)
  judgement_finite place false true p q = let t = holds q in wrong (placed 74 place) 74 refl (below x f t) (below_outside t)
  judgement_finite place false false p q = fits (neither_fit (fails p) (fails q))

nan_outside : symbol_fit nan ≡ false
unfolding symbol_fit of_bits le lt eq
nan_outside = refl

inf_outside : (negative : Bool) → symbol_fit (inf negative) ≡ false
unfolding symbol_fit of_bits le lt eq
inf_outside true = refl
inf_outside false = refl

pub judgement : (place : ℕ) (x : Float) → Judgement place x (judged place x)
unfolding judged
judgement place nan = wrong (placed 71 place) 71 refl not_a_number nan_outside
judgement place (inf negative) = wrong (placed 72 place) 72 refl (infinite negative) (inf_outside negative)
judgement place (fin negative m e) = judgement_finite (fin negative m e) tt place (lt one (fin negative m e)) (lt (fin negative m e) minus_one) refl refl

-- ---- a symbol has one number
pub number_in : Float → ℕ
number_in nan = 71
number_in (inf negative) = 72
number_in (fin negative m e) = cond (lt one (fin negative m e)) 73 74

apart : (x : Float) → T (finite x) → T (lt x minus_one) → T (not (lt one x))
apart x f b = not_lt x one f one_finite (le_trans x minus_one one f minus_one_finite one_finite (lt→le x minus_one f minus_one_finite b) minus_one_below)

pub one_number : (x : Float) (number : ℕ) → Fault x number → number ≡ number_in x
unfolding number_in
one_number _ _ not_a_number = refl
one_number _ _ (infinite negative) = refl
one_number _ _ (above nan f a) = absurd f
one_number _ _ (above (inf negative) f a) = absurd f
one_number _ _ (above (fin negative m e) f a) = rw (is_true (lt one (fin negative m e)) a)
one_number _ _ (below nan f b) = absurd f
one_number _ _ (below (inf negative) f b) = absurd f
one_number _ _ (below (fin negative m e) f b) = rw (is_false (lt one (fin negative m e)) (apart (fin negative m e) f b))
