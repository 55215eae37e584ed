-- Numbers, floats and samples as bytes, low byte first. Assumes nothing.
use Rattle.std.specs.Prelude.{◌≡◌, List, [], ◌∷◌, ℕ, zero, suc, ◌+◌, ◌*◌, ◌/◌, ◌%◌, ◌^◌, ◌<◌, ℤ, pos, length, get_or, take, drop, Float}
use Rattle.std.proofs.lemmas.List.Edits.{sets}
use Rattle.std.specs.Float.{nan, binary32}
use Rattle.std.specs.Float.Ieee.{of_bits, to_bits}
use Rattle.numbers.specs.Firsts.{firsts}
use Rattle.house.specs.Samples.{number_of, pattern_of}

-- the number whose bytes these are
unfoldable pub low_first : List ℕ → ℕ
low_first [] = 0
low_first (b ∷ l) = b + 256 * low_first l

pub record LowFirst (l : List ℕ) (r : ℕ) : Type 0 where
  pub value : r ≡ low_first l
  pub small : r < 256 ^ length l

-- the first n bytes of a number
unfoldable pub lows : ℕ → ℕ → List ℕ
lows zero number = []
lows (suc n) number = number % 256 ∷ lows n (number / 256)

-- up to n bytes from a place on: fewer where the slice ends
abbrev pub part : ℕ → List ℕ → ℕ → List ℕ
part n l at = take n (drop at l)

pub record Read (l : List ℕ) (at n r : ℕ) : Type 0 where
  pub value : r ≡ low_first (part n l at)
  pub small : r < 256 ^ n

-- w bytes of each number, one after the other
unfoldable pub laid : ℕ → (ℕ → ℕ) → ℕ → List ℕ → List ℕ
laid w f zero l = l
laid w f (suc n) l = sets (laid w f n l) (w * n) (lows w (f n))

-- ---- the i-th number, float and sample in bytes, and what is laid for the i-th of a list
abbrev pub number_at_lem : List ℕ → ℕ → ℕ
number_at_lem l i = low_first (part 8 l (8 * i))

abbrev pub float_at : List ℕ → ℕ → Float
float_at l i = of_bits binary32 (low_first (part 4 l (4 * i)))

abbrev pub sample_at : List ℕ → ℕ → ℤ
sample_at l i = number_of (low_first (part 2 l (2 * i)))

abbrev pub float_bits : List Float → ℕ → ℕ
float_bits values i = to_bits binary32 (get_or values i nan)

abbrev pub sample_bits : List ℤ → ℕ → ℕ
sample_bits samples i = pattern_of (get_or samples i (pos 0))

-- ---- what the functions promise
abbrev pub NumbersSays : List ℕ → List ℕ → List ℕ → Type 0
NumbersSays l room r = r ≡ firsts (number_at_lem l) (length room)

abbrev pub FloatsSays : List ℕ → List Float → List Float → Type 0
FloatsSays l room r = r ≡ firsts (float_at l) (length room)

abbrev pub SamplesSays : List ℕ → List ℤ → List ℤ → Type 0
SamplesSays l room r = r ≡ firsts (sample_at l) (length room)

abbrev pub PutNumbersSays : List ℕ → List ℕ → List ℕ → Type 0
PutNumbersSays l numbers r = r ≡ laid 8 (λ (i : ℕ). get_or numbers i 0) (length numbers) l

abbrev pub PutFloatsSays : List ℕ → List Float → List ℕ → Type 0
PutFloatsSays l values r = r ≡ laid 4 (float_bits values) (length values) l

abbrev pub PutSamplesSays : List ℕ → List ℤ → List ℕ → Type 0
PutSamplesSays l samples r = r ≡ laid 2 (sample_bits samples) (length samples) l
