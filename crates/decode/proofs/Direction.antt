-- Order in either direction, so that a law of the target +1 is the law of -1 too: up for false, the sign of +1, and down for true. Assumes nothing.
use mathlib.Core.Bool.{Bool, true, false, not}
use Prim.Native.Nat.{ℕ, ◌+◌, ◌*◌, ◌≤◌, ◌<◌}
use lib.IntN.{ℤ, pos, negsuc}
use lib.Dec.{T, T_not}
use lib.Ieee.{Float, Format, sub, lt, le}
use lib.Ieee.Scale.{finite}
use lib.Ieee.Positive.{den}
use Rattle.numbers.specs.Within.{plus, minus}
use Rattle.numbers.proofs.Order.{le→cross, nlt→le, lt→le, not_lt, le_self, le_trans}
use Rattle.numbers.proofs.Rounding.{Rounds, rounds_le}
use Rattle.numbers.proofs.Keeps.{sub_keeps}

abbrev pub signed : Bool → ℤ
signed false = pos 1
signed true = negsuc 0

abbrev pub Ordered : Bool → ℕ → ℕ → Type 0
Ordered false a b = a ≤ b
Ordered true a b = b ≤ a

-- y is x, or further in the direction
abbrev pub Toward : Bool → Float → Float → Type 0
Toward false x y = T (le x y)
Toward true x y = T (le y x)

-- y is further than x
abbrev pub Beyond : Bool → Float → Float → Type 0
Beyond false x y = T (lt x y)
Beyond true x y = T (lt y x)

pub toward_cross : (r : Bool) (x y : Float) → T (finite x) → T (finite y) → Toward r x y → Ordered r (plus x * den y + minus y * den x) (plus y * den x + minus x * den y)
toward_cross false x y p q h = le→cross x y p q h
toward_cross true x y p q h = le→cross y x q p h

pub rounds_toward : (r : Bool) (f : Format) (z w : Float) (p n c q m d : ℕ) → 0 < c → 0 < d → Rounds f z p n c → Rounds f w q m d → Ordered r (p * d + m * c) (q * c + n * d) → Toward r z w
rounds_toward false f z w p n c q m d C D u v h = rounds_le f z w p n c q m d C D u v h
rounds_toward true f z w p n c q m d C D u v h = rounds_le f w z q m d p n c D C v u h

pub sub_toward : (r : Bool) (f : Format) (x x' y : Float) → T (finite x) → T (finite x') → T (finite y) → Toward r x x' → Toward r (sub f x y) (sub f x' y)
sub_toward false f x x' y p p' q h = sub_keeps f x x' p p' h y y q q (le_self y q)
sub_toward true f x x' y p p' q h = sub_keeps f x' x p' p h y y q q (le_self y q)

pub toward_self : (r : Bool) (x : Float) → T (finite x) → Toward r x x
toward_self false x p = le_self x p
toward_self true x p = le_self x p

pub toward_trans : (r : Bool) (x y z : Float) → T (finite x) → T (finite y) → T (finite z) → Toward r x y → Toward r y z → Toward r x z
toward_trans false x y z p q t h k = le_trans x y z p q t h k
toward_trans true x y z p q t h k = le_trans z y x t q p k h

-- ---- the strict order
by_refuting : (b : Bool) → (T (not b) → ⊥) → T b
by_refuting true h = tt
by_refuting false h = absurd (h tt)

lt_le_trans : (x y z : Float) → T (finite x) → T (finite y) → T (finite z) → T (lt x y) → T (le y z) → T (lt x z)
lt_le_trans x y z p q t h k = by_refuting (lt x z) λ n. T_not (lt x y) (not_lt y x q p (le_trans y z x q t p k (nlt→le x z p t n))) h

le_lt_trans : (x y z : Float) → T (finite x) → T (finite y) → T (finite z) → T (le x y) → T (lt y z) → T (lt x z)
le_lt_trans x y z p q t h k = by_refuting (lt x z) λ n. T_not (lt y z) (not_lt z y t q (le_trans z x y t p q (nlt→le x z p t n) h)) k

pub beyond_unless : (r : Bool) (x y : Float) → T (finite x) → T (finite y) → (Toward r y x → ⊥) → Beyond r x y
beyond_unless false x y p q h = by_refuting (lt x y) λ n. h (nlt→le x y p q n)
beyond_unless true x y p q h = by_refuting (lt y x) λ n. h (nlt→le y x q p n)

pub beyond_toward : (r : Bool) (x y z : Float) → T (finite x) → T (finite y) → T (finite z) → Beyond r x y → Toward r y z → Beyond r x z
beyond_toward false x y z p q t h k = lt_le_trans x y z p q t h k
beyond_toward true x y z p q t h k = le_lt_trans z y x t q p k h

pub never_both : (x y : Float) → T (finite x) → T (finite y) → T (lt x y) → T (lt y x) → ⊥
never_both x y p q h k = T_not (lt y x) (not_lt x y p q (lt→le x y p q h)) k

pub one_side : (r : Bool) (x y : Float) → T (finite x) → T (finite y) → Beyond r x y → Beyond (not r) x y → ⊥
one_side false x y p q h k = never_both x y p q h k
one_side true x y p q h k = never_both y x q p h k

pub lt_trans : (x y z : Float) → T (finite x) → T (finite y) → T (finite z) → T (lt x y) → T (lt y z) → T (lt x z)
lt_trans x y z p q t h k = lt_le_trans x y z p q t h (lt→le y z q t k)
