-- The program over all of its reads: it opens, and takes a turn with what each read gives until one is the last. Assumes nothing.
use Rattle.std.specs.Prelude.{◌≡◌, true, false, cond, ℕ, ◌≤◌, ◌<◌, length, take, Float}
use mathlib.Core.List.{List, [], ◌∷◌, ◌++◌, map, flatten}
use Rattle.shaping.specs.Rate.{at48}
use Rattle.given_symbols.specs.declared.Traffic.TheVariants.{Ordinary}
use Rattle.modulator.specs.declared.ModulatorFrame.{ModulatorFrame}
use Rattle.modulator.specs.declared.ModulatorFrame.TheVariants.{Preamble, Symbols as GivenSymbols, EndOfTransmission}
use Rattle.modulator.specs.Paper.{done}
use Rattle.modulator_run.specs.Rules.{Call, provide, read}
use Rattle.modulator_run.specs.Run.{record_after}
use Rattle.house.specs.declared.Text.{Text}
use Rattle.house.specs.Line.{symbols_of_lem, no_symbols}
use Rattle.sending.specs.declared.Sending.{Sending}
use Rattle.sending.specs.Text.{lines_of, good_lines, Bad, bad_line_lem, bytes_sent}
use Rattle.sending.specs.Calls.{Left, empty_room, opened, lacking, largest, turned, named, words}

-- a read that is not the end of the input gives a byte at least, and no more than the line lacks; when the transmission has ended, nothing is read
unfoldable pub Fitting : Sending → List (List ℕ) → Type 0
Fitting s [] = Unit {0}
Fitting s (bytes ∷ reads) = (0 < length bytes) × ((length bytes ≤ lacking s) × ((turned s bytes).last ≡ false → Fitting (turned s bytes).sending reads))

-- what the turns from `s` on leave, the last with them: after the reads the input ends
unfoldable pub calls_from : Sending → List (List ℕ) → List Left
calls_from s [] = turned s [] ∷ []
calls_from s (bytes ∷ reads) = turned s bytes ∷ cond (turned s bytes).last [] (calls_from (turned s bytes).sending reads)

abbrev pub calls_over : List (List ℕ) → List Left
calls_over reads = opened ∷ calls_from opened.sending reads

-- what the turns up to now leave, where it is not known what is read next
unfoldable pub calls_until : Sending → List (List ℕ) → List Left
calls_until s [] = []
calls_until s (bytes ∷ reads) = turned s bytes ∷ cond (turned s bytes).last [] (calls_until (turned s bytes).sending reads)

-- ---- what comes of the calls
-- what a call has written
abbrev pub output : Left → List ℕ
output l = take l.length l.bytes

abbrev pub written_by : List Left → List ℕ
written_by calls = flatten (map output calls)

-- no call was refused
unfoldable pub AllDone : List Left → Type 0
AllDone [] = Unit {0}
AllDone (l ∷ calls) = (l.answer ≡ done) × AllDone calls

-- of each read all bytes went into the line
unfoldable pub AllTaken : Sending → List (List ℕ) → Type 0
AllTaken s [] = Unit {0}
AllTaken s (bytes ∷ reads) = ((turned s bytes).taken ≡ length bytes) × ((turned s bytes).last ≡ false → AllTaken (turned s bytes).sending reads)

-- the last of some calls, after another
unfoldable pub last_of : Left → List Left → Left
last_of l [] = l
last_of l (next ∷ calls) = last_of next calls

abbrev pub last_call : List (List ℕ) → Left
last_call reads = last_of opened (calls_from opened.sending reads)

abbrev pub last_until : List (List ℕ) → Left
last_until reads = last_of opened (calls_until opened.sending reads)

-- what a call tells of the line at hand, and what is said of it
abbrev pub told_of : Left → Bad
told_of l = named l.bad l.sending.number

abbrev pub last_words : List (List ℕ) → Text
last_words reads = words (told_of (last_call reads))

-- ---- the sender's calls
abbrev pub part_calls : ModulatorFrame → List Float → List Call
part_calls frame symbols = provide frame symbols ∷ read empty_room ∷ []

abbrev pub line_calls : List ℕ → List Call
line_calls line = part_calls (GivenSymbols Ordinary) (symbols_of_lem line)

-- "preamble (TxDelay 0), each line's 192 symbols .., and end of transmission", each read out before the next is given
unfoldable pub sender_calls : List (List ℕ) → List Call
sender_calls lines = part_calls (Preamble Ordinary (record { 0 = 0 })) no_symbols ++ (flatten (map line_calls lines) ++ part_calls EndOfTransmission no_symbols)

-- ---- over these reads the program writes what their text says: no call is refused, no byte is left out, the sender has had just these
-- calls, and the last turn ends the transmission and tells the first bad line, if there is one, as long as a u64 holds its number
pub record Sends (reads : List (List ℕ)) : Type 0 where
  pub written : written_by (calls_over reads) ≡ bytes_sent (flatten reads)
  pub answers : AllDone (calls_over reads)
  pub takes : AllTaken opened.sending reads
  pub sender : (last_call reads).sending.modulator ≡ record_after at48 (sender_calls (good_lines (flatten reads)))
  pub ends : (last_call reads).last ≡ true
  pub tells : length (lines_of (flatten reads)) ≤ largest → told_of (last_call reads) ≡ bad_line_lem (flatten reads)
  pub says : length (lines_of (flatten reads)) ≤ largest → last_words reads ≡ words (bad_line_lem (flatten reads))

-- one list begins with another
pub record Begins (front whole : List ℕ) : Type 0 where
  pub more : List ℕ
  pub parts : front ++ more ≡ whole
