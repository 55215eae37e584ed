-- How far two values lie apart, in whole numbers, and a cycle of such gaps. Assumes nothing.
use mathlib.Core.Path.{◌≡◌}
use mathlib.Core.Bool.{Bool, true, false, not}
use Prim.Native.Nat.{ℕ, ◌+◌, ◌*◌, ◌<◌}
use native.Mathlib.Nat.{mul-lt-mul_of_pos_right, lt_of_mul-lt-mul_right, add_comm}
use native.Mathlib.Omega.{arith}
use lib.Ieee.{Float}
use lib.Ieee.Positive.{den, den_pos}
use Rattle.numbers.specs.Within.{plus, minus}

-- x - y + n is above m
abbrev pub Gap : Float → Float → ℕ → ℕ → Type 0
Gap x y m n = plus y * den x + minus x * den y + m * (den x * den y) < plus x * den y + minus y * den x + n * (den x * den y)

-- ---- two gaps in a row, over the middle value's denominator too: products of four factors, one kind at a time
turn : (a b c : ℕ) → a * b * c ≡ a * c * b
turn a b c = omega arith

both : (a b x y z : ℕ) → a * (x * y) * z + b * (y * z) * x ≡ (a + b) * (x * z) * y
both a b x y z = omega arith

times : (a b c d e f z : ℕ) → 0 < z → a + b + c < d + e + f → a * z + b * z + c * z < d * z + e * z + f * z
times a b c d e f z Z h = spread (mul-lt-mul_of_pos_right h Z)
  where
    spread : (a + b + c) * z < (d + e + f) * z → a * z + b * z + c * z < d * z + e * z + f * z
    spread u = omega arith

cancelled : (a b c d e f z : ℕ) → a * z + b * z + c * z < d * z + e * z + f * z → a + b + c < d + e + f
cancelled a b c d e f z h = lt_of_mul-lt-mul_right z (gather h)
  where
    gather : a * z + b * z + c * z < d * z + e * z + f * z → (a + b + c) * z < (d + e + f) * z
    gather u = omega arith

join : (a b c d e f g h i j : ℕ) → a + b + c < d + e + f → g + e + h < a + i + j → g + b + (c + h) < d + i + (f + j)
join a b c d e f g h i j u v = omega arith

module _ (px nx dx py ny dy pz nz dz m n k l : ℕ) (X : 0 < dx) (Z : 0 < dz) where
  sum_up : py * dx + nx * dy + m * (dx * dy) < px * dy + ny * dx + n * (dx * dy) → pz * dy + ny * dz + k * (dy * dz) < py * dz + nz * dy + l * (dy * dz)
      → pz * dx + nx * dz + (m + k) * (dx * dz) < px * dz + nz * dx + (n + l) * (dx * dz)
  sum_up g h =
      cancelled (pz * dx) (nx * dz) _ (px * dz) (nz * dx) _ dy
      (rw (turn pz dx dy, turn nx dz dy, turn px dz dy, turn nz dx dy, ← (both m k dx dy dz), ← (both n l dx dy dz))
      (join _ _ _ _ _ _ _ _ _ _ (times _ _ _ _ _ _ dz Z g) (rw (turn py dx dz, turn ny dx dz) (times _ _ _ _ _ _ dx X h))))

gap_add : (x y z : Float) (m n k l : ℕ) → Gap x y m n → Gap y z k l → Gap x z (m + k) (n + l)
gap_add x y z m n k l = sum_up (plus x) (minus x) (den x) (plus y) (minus y) (den y) (plus z) (minus z) (den z) m n k l (den_pos x) (den_pos z)

gap_self : (x : Float) (m n : ℕ) → Gap x x m n → m < n
gap_self x m n g = lt_of_mul-lt-mul_right (den x * den x) (omega arith)

-- ---- along a direction
abbrev pub Way : Bool → Float → Float → ℕ → ℕ → Type 0
Way false x y m n = Gap x y m n
Way true x y m n = Gap y x m n

way_add : (s : Bool) (x y z : Float) (m n k l : ℕ) → Way s x y m n → Way s y z k l → Way s x z (m + k) (n + l)
way_add false x y z m n k l g h = gap_add x y z m n k l g h
way_add true x y z m n k l g h = rw (add_comm m k, add_comm n l) (gap_add z y x k l m n h g)

way_self : (s : Bool) (x : Float) (m n : ℕ) → Way s x x m n → m < n
way_self false x m n g = gap_self x m n g
way_self true x m n g = gap_self x m n g

pub way_round : (s : Bool) (w x y z : Float) (a b c d e f m n : ℕ) → Way s w x a b → Way s x y c d → Way s y z e f → Way s z w m n → a + c + e + m < b + d + f + n
way_round s w x y z a b c d e f m n i j k l = way_self s w _ _ (way_add s w z w _ _ m n (way_add s w y z _ _ e f (way_add s w x y a b c d i j) k) l)

pub way_flip : (s : Bool) (x y : Float) (m n : ℕ) → Way (not s) x y m n → Way s y x m n
way_flip false x y m n g = g
way_flip true x y m n g = g
