-- Document 01, 'The receiver': "Correlate at k: the eight values F(k-70), F(k-60), .. F(k)". Here `v i` is the value i of the eight, the oldest 0, wherever it is kept:
-- in a slice, in a ring, or in a list of samples. Assumes nothing.
use Rattle.protocol.specs.declared.Refusal.{Refusal}
use Rattle.std.specs.Prelude.{◌≡◌, Bool, cond, ◌&&◌, List, ℕ, zero, suc, eqb, ℤ, pos, length, get_or, Float, Result, Ok, Err}
use Rattle.std.specs.Float.{nan, binary32}
use Rattle.std.specs.Float.Ieee.{of_bits, of_int, add, sub, div, lt, le}
use Rattle.numbers.specs.Choice.{larger, smaller, size_of}
use Rattle.numbers.specs.Below.{any_below, all_below}
use Rattle.numbers.specs.Sum.{sum_to}
use Rattle.protocol.specs.declared.SyncBurst.{SyncBurst}
use Rattle.protocol.specs.Bursts.{signs_of}
use Rattle.protocol.specs.Refusals.{PaperRefusal, bare, on_paper}
use Rattle.decode.specs.declared.Correlation.{Correlation}

abbrev pub zero32 : Float
zero32 = of_bits binary32 0

-- 16.0, 0.3, 100.0 and the largest f32
abbrev pub least_gain : Float
least_gain = of_bits binary32 0x4180_0000

abbrev pub farthest : Float
farthest = of_bits binary32 0x3e99_999a

abbrev pub threshold : Float
threshold = of_bits binary32 0x42c8_0000

abbrev pub no_match : Float
no_match = of_bits binary32 0x7f7f_ffff

-- "The correlator reads -0.0 as 0.0"
unfoldable pub zero_unsigned : Float → Float
zero_unsigned value = add binary32 value zero32

-- max and min: of v 0, v 1, .. v n
unfoldable pub highest : (ℕ → Float) → ℕ → Float
highest v zero = v zero
highest v (suc n) = larger (highest v n) (v (suc n))

unfoldable pub lowest : (ℕ → Float) → ℕ → Float
lowest v zero = v zero
lowest v (suc n) = smaller (lowest v n) (v (suc n))

-- "Gain is (max - min) / 2."
unfoldable pub gain_of : Float → Float → Float
gain_of max min = div binary32 (sub binary32 max min) (of_bits binary32 0x4000_0000)

-- Document 02 d: "Shift becomes (max + min) / 2 in the correlator, and the windows use it too."
unfoldable pub shift_of : Float → Float → Float
shift_of max min = div binary32 (add binary32 max min) (of_bits binary32 0x4000_0000)

-- "Each symbol's distance is the size of (value - shift) / gain - target."
unfoldable pub symbol_of : Float → Float → Float → Float
symbol_of gain shift value = div binary32 (sub binary32 value shift) gain

unfoldable pub distance_of : Float → Float → ℤ → Float → Float
distance_of gain shift target value = size_of (sub binary32 (symbol_of gain shift value) (of_int binary32 target))

-- "The comparison stops at the first distance above 0.3, with no match. Otherwise diff is the sum, from 0.0, in order. No match reports diff as the largest f32"
unfoldable pub summed : (ℕ → Float) → Float
summed distance = cond (any_below 8 (λ (i : ℕ). lt farthest (distance i))) no_match (sum_to binary32 distance 8)

-- "Gain below 16.0: no match."
unfoldable pub diff_of : Float → (ℕ → Float) → Float
diff_of gain distance = cond (lt gain least_gain) no_match (summed distance)

-- the distances of eight values from a burst's signs
abbrev pub distances : List ℤ → Float → Float → (ℕ → Float) → ℕ → Float
distances signs gain shift v i = distance_of gain shift (get_or signs i (pos 0)) (v i)

-- the answer for eight values with their zeros unsigned
abbrev pub compared : List ℤ → (ℕ → Float) → Float → Float → Correlation
compared signs v gain shift = record { diff = diff_of gain (distances signs gain shift v); gain = gain; shift = shift }

-- ".. still with gain and shift": the whole answer
unfoldable pub correlation : SyncBurst → (ℕ → Float) → Correlation
correlation burst v =
    let u : ℕ → Float = λ i. zero_unsigned (v i) in
    compared (signs_of burst) u (gain_of (highest u 7) (lowest u 7)) (shift_of (highest u 7) (lowest u 7))

-- "The 100.0 threshold shuts out only that value."
unfoldable pub matches : SyncBurst → (ℕ → Float) → Bool
matches burst v = lt (correlation burst v).diff threshold

-- ---- refusals
-- within ±1,000,000; a not-a-number is never within
unfoldable pub in_range : Float → Bool
in_range x = le (of_bits binary32 0xc974_2400) x && le x (of_bits binary32 0x4974_2400)

-- the paper's answer: a refusal, or diff, gain and shift
pub data Paper : Type 0 where
  refusal : PaperRefusal → Paper
  values : Float → Float → Float → Paper

abbrev pub paper : Result Correlation Refusal → Paper
paper (Err why) = refusal (on_paper why)
paper (Ok c) = values c.diff c.gain c.shift

abbrev pub told : Correlation → Paper
told c = values c.diff c.gain c.shift

-- 6: "correlator values not exactly 8"; 10: "a correlator value not a number or beyond ±1,000,000"; the smaller first
unfoldable pub correlated : SyncBurst → List Float → Paper
correlated burst vs =
    cond (eqb (length vs) 8)
    (cond (all_below 8 (λ (i : ℕ). in_range (get_or vs i nan)))
    (told (correlation burst (λ (i : ℕ). get_or vs i nan)))
    (refusal (bare 10)))
    (refusal (bare 6))

-- ---- what the functions promise
abbrev pub InRangeSays : Float → Bool → Type 0
InRangeSays x r = r ≡ in_range x

abbrev pub SyncBurstCorrelationSays : SyncBurst → List Float → Result Correlation Refusal → Type 0
SyncBurstCorrelationSays burst vs r = paper r ≡ correlated burst vs
