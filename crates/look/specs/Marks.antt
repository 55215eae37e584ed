-- The marks of samples: by the gain and by each value's side of the shift. A value that matches +1 lies above the shift, and one that
-- matches -1 below it, so eight sides that are no burst's rule all six out. Assumes nothing.
use Rattle.std.specs.Prelude.{◌≡◌, Bool, not, cond, ◌&&◌, ◌||◌, List, ℕ, zero, suc, ◌+◌, ◌*◌, leb, ℤ, pos, negsuc, length, get_or, replicate, Float}
use Rattle.std.specs.Float.{nan}
use Rattle.std.specs.Float.Ieee.{lt}
use Rattle.numbers.specs.Below.{all_below}
use Rattle.numbers.specs.Firsts.{firsts}
use Rattle.protocol.specs.declared.Kind.TheVariants.{Lsf, Bert, Stream, Packet}
use Rattle.protocol.specs.declared.SyncBurst.{SyncBurst}
use Rattle.protocol.specs.declared.SyncBurst.TheVariants.{Frame, Preamble, EndOfTransmission}
use Rattle.protocol.specs.Bursts.{signs_of}
use Rattle.decode.specs.Correlator.{least_gain, zero_unsigned, gain_of, shift_of}

-- the extremes of values that are numbers: for any others they are not the correlator's
abbrev pub upper : Float → Float → Float
upper a b = cond (lt a b) b a

abbrev pub lower : Float → Float → Float
lower a b = cond (lt b a) b a

unfoldable pub top_of : (ℕ → Float) → ℕ → Float
top_of u zero = u zero
top_of u (suc n) = upper (top_of u n) (u (suc n))

unfoldable pub bottom_of : (ℕ → Float) → ℕ → Float
bottom_of u zero = u zero
bottom_of u (suc n) = lower (bottom_of u n) (u (suc n))

-- each value lies above the shift exactly where the sign is not negative
abbrev pub side_like : ℤ → Bool → Bool
side_like (pos n) above = above
side_like (negsuc n) above = not above

unfoldable pub sides_like : List ℤ → Float → (ℕ → Float) → Bool
sides_like signs shift u = all_below 8 (λ (i : ℕ). side_like (get_or signs i (pos 0)) (lt shift (u i)))

abbrev pub sides_of : SyncBurst → Float → (ℕ → Float) → Bool
sides_of burst = sides_like (signs_of burst)

-- 2 for the sides of a frame's burst, 1 for those of one of the other two, 0 for no burst's or a gain below 16.0; of values with their zeros
-- unsigned
unfoldable pub mark_from : Float → Float → (ℕ → Float) → ℕ
mark_from gain shift u =
    let loud : Bool = not (lt gain least_gain) in
    cond (loud && (sides_of (Frame Lsf) shift u || sides_of (Frame Bert) shift u || sides_of (Frame Stream) shift u || sides_of (Frame Packet) shift u)) 2
    (cond (loud && (sides_of Preamble shift u || sides_of EndOfTransmission shift u)) 1
    0)

unfoldable pub mark_of : (ℕ → Float) → ℕ
mark_of v =
    let u : ℕ → Float = λ i. zero_unsigned (v i) in
    mark_from (gain_of (top_of u 7) (bottom_of u 7)) (shift_of (top_of u 7) (bottom_of u 7)) u

-- ---- a row, p samples a symbol
-- "the eight values F(k-70), F(k-60), .. F(k)", the oldest at the row's place k
abbrev pub eight_from : ℕ → List Float → ℕ → ℕ → Float
eight_from p row k i = get_or row (k + p * i) nan

-- 48 samples; the rates have 10 samples a symbol at most
unfoldable pub marks_of : ℕ → List Float → List ℕ
marks_of p row = cond (leb p 10 && leb (7 * p + 48) (length row)) (firsts (λ (k : ℕ). mark_of (eight_from p row k)) 48) (replicate 48 2)

-- ---- what the function promises
abbrev pub MarksSays : ℕ → List Float → List ℕ → Type 0
MarksSays p row r = r ≡ marks_of p row
