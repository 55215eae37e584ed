-- The smaller and the larger of two gains, in either order, and of three in either grouping. A gain is a 32-bit float above zero. Assumes nothing.
use Rattle.std.specs.Prelude.{Option, Some, None}
use mathlib.Core.Path.{◌≡◌, refl, sym, ap, subst, ◌∙◌}
use mathlib.Core.Logic.{inl, inr}
use mathlib.Core.Bool.{Bool, true, false, cond, true≢false}
use Prim.Native.Nat.{zero, suc}
use lib.Dec.{T}
use lib.Ieee.{Float, nan, inf, fin, binary32, of_bits, lt, le}
use lib.Ieee.Scale.{finite}
use lib.Ieee.Positive.{positive, positive-finite, between}
use lib.Ieee.Bits.{is_false}
use lib.Ieee.Fits.{and_l, and_r}
use Rattle.numbers.specs.Zero.{is_zero}
use Rattle.numbers.proofs.Tests.{holds, fails}
use Rattle.numbers.proofs.Order.{lt→le, nlt→le, not_lt, le_trans}
use Rattle.numbers.proofs.Unique.{level_same}
use Rattle.decode.specs.Correlator.{least_gain}
use Rattle.figures.specs.Totals.{gain_fit, gains_fit, lesser, greater}
use Rattle.figures.proofs.OfferGains.{left_fit, right_fit}
use Rattle.figures_laws.specs.Typed.{Proper, GoodGain, SingleGain}

number : (x : Float) → Proper x → T (finite x)
number x p = positive-finite x p.above

never_zero : (x : Float) → T (positive x) → T (is_zero x) → ⊥
unfolding is_zero
never_zero nan p z = p
never_zero (inf s) p z = p
never_zero (fin true m e) p z = p
never_zero (fin false zero e) p z = p
never_zero (fin false (suc m) e) p z = z

pub fit_positive : (x : Float) → gain_fit x ≡ true → T (positive x)
unfolding of_bits
fit_positive x e =
    let t = holds e in
    between least_gain x (of_bits binary32 0x4974_2400) tt tt (and_l (le least_gain x) (le x (of_bits binary32 0x4974_2400)) t) (and_r (le least_gain x) (le x (of_bits binary32 0x4974_2400)) t)

level : (x y : Float) → Proper x → Proper y → lt y x ≡ false → lt x y ≡ false → x ≡ y
level x y p q a b = elim (level_same binary32 x y p.single q.single (nlt→le y x (number y q) (number x p) (fails a)) (nlt→le x y (number x p) (number y q) (fails b))) [
  | inl e ↦ e
  | inr z ↦ absurd (never_zero x p.above z.0)
]

-- `y` comes before `x` where `comes y x`: what the choice of one of two needs of it
record Choosing (comes : Float → Float → Bool) : Type 0 where
  same : (x y : Float) → Proper x → Proper y → comes y x ≡ false → comes x y ≡ false → x ≡ y
  once : (x y : Float) → Proper x → Proper y → comes y x ≡ true → comes x y ≡ false
  on : (x y z : Float) → Proper x → Proper y → Proper z → comes y x ≡ true → comes z y ≡ true → comes z x ≡ true
  back : (x y z : Float) → Proper x → Proper y → Proper z → comes y x ≡ false → comes z y ≡ false → comes z x ≡ false

abbrev up : Float → Float → Bool
up y x = lt y x

abbrev down : Float → Float → Bool
down y x = lt x y

lt_once : (x y : Float) → Proper x → Proper y → lt y x ≡ true → lt x y ≡ false
lt_once x y p q a = is_false (lt x y) (not_lt y x (number y q) (number x p) (lt→le y x (number y q) (number x p) (holds a)))

lt_back : (x y z : Float) → Proper x → Proper y → Proper z → lt y x ≡ false → lt z y ≡ false → lt z x ≡ false
lt_back x y z p q r a b =
    let first = nlt→le y x (number y q) (number x p) (fails a) in
    let second = nlt→le z y (number z r) (number y q) (fails b) in
    is_false (lt z x) (not_lt x z (number x p) (number z r) (le_trans x y z (number x p) (number y q) (number z r) first second))

-- z < y < x
lt_on : (x y z : Float) → Proper x → Proper y → Proper z → lt y x ≡ true → lt z y ≡ true → lt z x ≡ true
lt_on x y z p q r a b = by_test (lt z x) refl
  where
    by_test : (t : Bool) → lt z x ≡ t → t ≡ true
    by_test true e = refl
    by_test false e =
        let under = lt→le z y (number z r) (number y q) (holds b) in
        let over = nlt→le z x (number z r) (number x p) (fails e) in
        let all = le_trans x z y (number x p) (number z r) (number y q) over under in
        sym (is_false (lt y x) (not_lt x y (number x p) (number y q) all)) ∙ a

choosing_up : Choosing up
choosing_up = record { same = level; once = lt_once; on = lt_on; back = lt_back }

choosing_down : Choosing down
choosing_down = record {
  same = λ x y p q a b. level x y p q b a;
  once = λ x y p q a. lt_once y x q p a;
  on = λ x y z p q r a b. lt_on z y x r q p b a;
  back = λ x y z p q r a b. lt_back z y x r q p b a;
}

chosen : (Float → Float → Bool) → Option Float → Option Float → Option Float
chosen comes None b = b
chosen comes (Some x) None = Some x
chosen comes (Some x) (Some y) = cond (comes y x) (Some y) (Some x)

module _ (comes : Float → Float → Bool) (L : Choosing comes) where
  chosen_swap : (a b : Option Float) → GoodGain a → GoodGain b → chosen comes a b ≡ chosen comes b a
  unfolding chosen
  chosen_swap None None p q = refl
  chosen_swap None (Some y) p q = refl
  chosen_swap (Some x) None p q = refl
  chosen_swap (Some x) (Some y) p q = by_test (comes y x) refl (comes x y) refl
    where
      by_test : (s : Bool) → comes y x ≡ s → (t : Bool) → comes x y ≡ t → cond s (Some y) (Some x) ≡ cond t (Some x) (Some y)
      by_test true a true b = absurd (true≢false (sym b ∙ L.once x y p q a))
      by_test true a false b = refl
      by_test false a true b = refl
      by_test false a false b = ap Some (L.same x y p q a b)

  chosen_none : (a : Option Float) → chosen comes a None ≡ a
  unfolding chosen
  chosen_none None = refl
  chosen_none (Some x) = refl

  chosen_three : (a b c : Option Float) → GoodGain a → GoodGain b → GoodGain c → chosen comes (chosen comes a b) c ≡ chosen comes a (chosen comes b c)
  unfolding chosen
  chosen_three None b c p q r = refl
  chosen_three (Some x) None c p q r = refl
  chosen_three (Some x) (Some y) None p q r = chosen_none (cond (comes y x) (Some y) (Some x))
  chosen_three (Some x) (Some y) (Some z) p q r = by_test (comes y x) refl (comes z y) refl
    where
      by_test : (s : Bool) → comes y x ≡ s → (t : Bool) → comes z y ≡ t
          → chosen comes (cond s (Some y) (Some x)) (Some z) ≡ chosen comes (Some x) (cond t (Some z) (Some y))
      by_test true a true b = ap (λ (k : Bool). cond k (Some z) (Some y)) b ∙ sym (ap (λ (k : Bool). cond k (Some z) (Some x)) (L.on x y z p q r a b))
      by_test true a false b = ap (λ (k : Bool). cond k (Some z) (Some y)) b ∙ sym (ap (λ (k : Bool). cond k (Some y) (Some x)) a)
      by_test false a true b = refl
      by_test false a false b =
          ap (λ (k : Bool). cond k (Some z) (Some x)) (L.back x y z p q r a b) ∙ sym (ap (λ (k : Bool). cond k (Some y) (Some x)) a)

  chosen_good : (a b : Option Float) → GoodGain a → GoodGain b → GoodGain (chosen comes a b)
  unfolding chosen
  chosen_good None b p q = q
  chosen_good (Some x) None p q = p
  chosen_good (Some x) (Some y) p q = by_test (comes y x)
    where
      by_test : (s : Bool) → GoodGain (cond s (Some y) (Some x))
      by_test true = q
      by_test false = p

lesser_is : (a b : Option Float) → lesser a b ≡ chosen up a b
unfolding lesser chosen
lesser_is None b = refl
lesser_is (Some x) None = refl
lesser_is (Some x) (Some y) = refl

greater_is : (a b : Option Float) → greater a b ≡ chosen down a b
unfolding greater chosen
greater_is None b = refl
greater_is (Some x) None = refl
greater_is (Some x) (Some y) = refl

module _ (a b : Option Float) (p : GoodGain a) (q : GoodGain b) where
  pub lesser_swap : lesser a b ≡ lesser b a
  lesser_swap = lesser_is a b ∙ chosen_swap up choosing_up a b p q ∙ sym (lesser_is b a)

  pub greater_swap : greater a b ≡ greater b a
  greater_swap = greater_is a b ∙ chosen_swap down choosing_down a b p q ∙ sym (greater_is b a)

  pub lesser_good : GoodGain (lesser a b)
  lesser_good = subst GoodGain (sym (lesser_is a b)) (chosen_good up choosing_up a b p q)

  pub greater_good : GoodGain (greater a b)
  greater_good = subst GoodGain (sym (greater_is a b)) (chosen_good down choosing_down a b p q)

  module _ (c : Option Float) (r : GoodGain c) where
    pub lesser_three : lesser (lesser a b) c ≡ lesser a (lesser b c)
    lesser_three =
        lesser_is (lesser a b) c ∙ ap (λ (g : Option Float). chosen up g c) (lesser_is a b) ∙ chosen_three up choosing_up a b c p q r
        ∙ ap (chosen up a) (sym (lesser_is b c)) ∙ sym (lesser_is a (lesser b c))

    pub greater_three : greater (greater a b) c ≡ greater a (greater b c)
    greater_three =
        greater_is (greater a b) c ∙ ap (λ (g : Option Float). chosen down g c) (greater_is a b) ∙ chosen_three down choosing_down a b c p q r
        ∙ ap (chosen down a) (sym (greater_is b c)) ∙ sym (greater_is a (greater b c))

-- ---- the gains of fit figures
pub gains_good : (a b : Option Float) → gains_fit a b ≡ true → SingleGain a → SingleGain b → GoodGain a × GoodGain b
gains_good None None e s t = (tt, tt)
gains_good None (Some y) e s t = absurd (true≢false (sym e))
gains_good (Some x) None e s t = absurd (true≢false (sym e))
gains_good (Some x) (Some y) e s t =
    (record { single = s; above = fit_positive x (left_fit (gain_fit x) (gain_fit y) e) }, record { single = t; above = fit_positive y (right_fit (gain_fit x) (gain_fit y) e) })
