-- Document 01, 'The two programs': what send writes, by its text alone. Assumes nothing.
use Rattle.std.specs.Prelude.{◌≡◌, Bool, true, false, cond, ◌||◌, ℕ, suc, ◌+◌, ◌*◌, eqb, ℤ, length, Float}
use mathlib.Core.List.{List, [], ◌∷◌, ◌++◌, map, flatten}
use Rattle.numbers.specs.Firsts.{firsts}
use Rattle.shaping.specs.Rate.{at48}
use Rattle.given_symbols.specs.declared.Traffic.TheVariants.{Ordinary}
use Rattle.modulator.specs.Frame.{preamble, ending}
use Rattle.modulator_run.specs.Stream.{sent_at}
use Rattle.house.specs.Line.{line_feed, good_line, symbols_of_lem}
use Rattle.house.specs.Samples.{bytes_of}

-- ---- lines
abbrev pub is_feed : ℕ → Bool
is_feed byte = eqb byte line_feed

unfoldable pub has_feed_lem : List ℕ → Bool
has_feed_lem [] = false
has_feed_lem (byte ∷ rest) = is_feed byte || has_feed_lem rest

-- a byte before the first of the lines
unfoldable pub in_front : ℕ → List (List ℕ) → List (List ℕ)
in_front byte [] = (byte ∷ []) ∷ []
in_front byte (line ∷ lines) = (byte ∷ line) ∷ lines

-- a line goes up to its line feed, which is part of it; the last one may lack it
unfoldable pub lines_of : List ℕ → List (List ℕ)
lines_of [] = []
lines_of (byte ∷ rest) = cond (is_feed byte) ((byte ∷ []) ∷ lines_of rest) (in_front byte (lines_of rest))

-- "At the first bad line it stops reading": the good lines before it
unfoldable pub good_front : List (List ℕ) → List (List ℕ)
good_front [] = []
good_front (line ∷ lines) = cond (good_line line) (line ∷ good_front lines) []

abbrev pub good_lines : List ℕ → List (List ℕ)
good_lines text = good_front (lines_of text)

unfoldable pub AllGood : List (List ℕ) → Type 0
AllGood [] = Unit {0}
AllGood (line ∷ lines) = (good_line line ≡ true) × AllGood lines

-- which line is bad, if one is
pub data Bad : Type 0 where
  none : Bad
  in_line : ℕ → Bad

-- the first bad one of lines that are numbered from n on
unfoldable pub first_bad_lem : ℕ → List (List ℕ) → Bad
first_bad_lem n [] = none
first_bad_lem n (l ∷ ls) = cond (good_line l) (first_bad_lem (suc n) ls) (in_line n)

-- "`bad line N` .., from 1"
abbrev pub bad_line_lem : List ℕ → Bad
bad_line_lem text = first_bad_lem 1 (lines_of text)

-- ---- symbols, samples and bytes
abbrev pub preamble_symbols : List Float
preamble_symbols = firsts (preamble Ordinary).symbol (preamble Ordinary).count

abbrev pub end_symbols : List Float
end_symbols = firsts ending.symbol ending.count

abbrev pub line_symbols : List (List ℕ) → List Float
line_symbols lines = flatten (map symbols_of_lem lines)

-- "Send writes preamble (TxDelay 0), each line's 192 symbols .., and end of transmission." At a bad line it "still ends the transmission".
unfoldable pub symbols_sent : List ℕ → List Float
symbols_sent text = preamble_symbols ++ (line_symbols (good_lines text) ++ end_symbols)

-- all samples of a stream of symbols from a fresh start, in order
unfoldable pub stream_samples : List Float → List ℤ
stream_samples symbols = firsts (λ (i : ℕ). sent_at at48 symbols (i + 1)) (at48.p * length symbols)

abbrev pub samples_sent : List ℕ → List ℤ
samples_sent text = stream_samples (symbols_sent text)

-- "low byte first"
unfoldable pub sample_bytes : List ℤ → List ℕ
sample_bytes samples = flatten (map bytes_of samples)

abbrev pub bytes_sent : List ℕ → List ℕ
bytes_sent text = sample_bytes (samples_sent text)
