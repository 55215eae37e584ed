-- What the exports promise: the rule of acceptance, a frame as a line and back, and the link test's count. Assumes nothing.
use Rattle.std.specs.Prelude.{◌≡◌, Bool, cond, ◌&&◌, List, ℕ, leb, eqb, Float}
use Rattle.protocol.specs.declared.Kind.{Kind}
use Rattle.protocol.specs.declared.Kind.TheVariants.{Lsf, Bert, Stream, Packet}
use Rattle.bit_errors.specs.Errors.{Paper, refusal, errors, bit_errors_lem}
use Rattle.house.specs.Line.{good_line, symbols_of_lem, SymbolsLineSays}
use Rattle.house.specs.Accept.{symbol_at, accepted}
use Rattle.library_codes.specs.Codes.{refusal_code, flag_number}

-- ---- acceptance
abbrev pub is_kind : ℕ → Bool
is_kind number = leb 1 number && leb number 4

-- the kind of a number from 1 to 4
abbrev pub kind_of : ℕ → Kind
kind_of number = cond (eqb number 1) Lsf (cond (eqb number 2) Bert (cond (eqb number 3) Stream Packet))

-- "accepts an offer exactly if its first two sliced bytes are the burst's word"; a number that is no kind's accepts nothing
unfoldable pub accepts_code : ℕ → List Float → ℕ
accepts_code number symbols = cond (is_kind number) (flag_number (accepted (kind_of number) (symbol_at symbols))) 0

abbrev pub M17AcceptsSays : ℕ → List Float → ℕ → Type 0
M17AcceptsSays kind symbols r = r ≡ accepts_code kind symbols

-- ---- a line
-- "The house format is hexadecimal, one frame a line: 96 capital digits, first symbol in the high bits, then a line feed."
abbrev pub M17LineSays : List Float → List ℕ → Type 0
M17LineSays = SymbolsLineSays

-- "Any line that is not 96 capital digits and a line feed is bad"; a bad line leaves the symbols
pub record M17LineSymbolsSays (line : List ℕ) (symbols : List Float) (r : ℕ) (after : List Float) : Type 0 where
  pub answers : r ≡ flag_number (good_line line)
  pub leaves : after ≡ cond (good_line line) (symbols_of_lem line) symbols

-- ---- the link test's count
abbrev pub errors_code : Paper → ℕ
errors_code (refusal why) = refusal_code why
errors_code (errors n) = 0

abbrev pub errors_told : Paper → ℕ → ℕ
errors_told (refusal why) told = told
errors_told (errors n) told = n

-- "two 184-symbol payloads, and the exact number of differing bits"; a refused count leaves the told number
pub record M17BitErrorsSays (sent received : List Float) (told r after : ℕ) : Type 0 where
  pub answers : r ≡ errors_code (bit_errors_lem sent received)
  pub leaves : after ≡ errors_told (bit_errors_lem sent received) told
