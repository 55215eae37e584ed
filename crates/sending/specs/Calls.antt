-- What each call answers, leaves and has written. Assumes nothing.
use Rattle.std.specs.Prelude.{◌≡◌, Bool, true, false, not, cond, ◌&&◌, List, [], ◌∷◌, ◌++◌, ℕ, ◌+◌, ◌-◌, ◌*◌, min, ltb, ℤ, pos, length, take, drop, replicate, Float}
use Rattle.shaping.specs.Rate.{samples_in_lem, rate_of}
use Rattle.protocol.specs.Refusals.{bare}
use Rattle.given_symbols.specs.declared.Traffic.TheVariants.{Ordinary}
use Rattle.modulator.specs.declared.SoftModulator.{SoftModulator}
use Rattle.modulator.specs.declared.ModulatorFrame.{ModulatorFrame}
use Rattle.modulator.specs.declared.ModulatorFrame.TheVariants.{Preamble, Symbols as GivenSymbols, EndOfTransmission}
use Rattle.modulator.specs.Paper.{Paper, refusal, done, wrote, transmit_end, read_output, idle, get_frame, nothing, done_paper}
use Rattle.modulator.specs.Record.{fresh}
use Rattle.modulator.specs.Fit.{record_fit_lem, unfit_number}
use Rattle.modulator.specs.Calls.{provided}
use Rattle.modulator.specs.Calls.{Left as SenderLeft}
use Rattle.modulator.specs.Calls.{read as readInto}
use Rattle.modulator_run.specs.Pieces.{counted}
use Rattle.house.specs.declared.Program.TheVariants.{Send}
use Rattle.house.specs.declared.Text.{Text}
use Rattle.house.specs.Line.{good_line, symbols_of_lem, no_symbols}
use Rattle.house.specs.BadLine.{bad_line_lem, in_room}
use Rattle.house.specs.Trouble.{outcome_text_lem}
use Rattle.sending.specs.declared.Sending.{Sending}
use Rattle.sending.specs.declared.AfterPart.{AfterPart}
use Rattle.sending.specs.Text.{has_feed_lem, Bad, none, in_line, sample_bytes}

-- what a call leaves: the sender's answer, the record, the bytes with how many of them are to be written, how many bytes of a read
-- went into the line, whether the line at hand is bad, and whether the transmission has ended
pub record Left : Type 0 where
  pub answer : Paper
  pub sending : Sending
  pub bytes : List ℕ
  pub length : ℕ
  pub taken : ℕ
  pub bad : Bool
  pub last : Bool

abbrev pub is_refusal : Paper → Bool
is_refusal (refusal number) = true
is_refusal done = false
is_refusal (wrote n) = false
is_refusal (transmit_end n) = false
is_refusal read_output = false
is_refusal (idle state) = false
is_refusal get_frame = false
is_refusal nothing = false

-- ---- a part: a frame is given, and then as much is read as the longest frame has
abbrev pub with_modulator : SoftModulator → Sending → Sending
with_modulator m s = record { modulator = m; line = s.line; have = s.have; number = s.number }

-- room for the longest frame, the end of transmission
abbrev pub empty_room : List ℤ
empty_room = replicate 2720 (pos 0)

unfoldable pub part_of : Sending → ModulatorFrame → List Float → Bool → Bool → Left
part_of s frame symbols bad last =
    let given : SenderLeft = provided (rate_of s.modulator.rate) s.modulator frame symbols in
    let out : SenderLeft = readInto (rate_of given.modulator.rate) given.modulator empty_room in
    record {
      answer = given.answer;
      sending = with_modulator out.modulator s;
      bytes = sample_bytes out.room;
      length = 2 * counted out.answer;
      taken = 0;
      bad = bad;
      last = last;
    }

-- nothing is written
abbrev pub quiet : Paper → Sending → Bool → Left
quiet answer s bad = record { answer = answer; sending = s; bytes = replicate 5440 0; length = 0; taken = 0; bad = bad; last = false }

-- ---- "Send writes preamble (TxDelay 0)"; "The two programs .. stay at 48 kHz"
unfoldable pub starting : Sending
starting = record { modulator = fresh 48000; line = replicate 97 0; have = 0; number = 1 }

unfoldable pub opened : Left
opened = part_of starting (Preamble Ordinary (record { 0 = 0 })) no_symbols false false

-- ---- ".. each line's 192 symbols": the line at hand grows up to its 97 bytes
abbrev pub lacking : Sending → ℕ
lacking s = 97 - s.have

abbrev pub at_hand : Sending → List ℕ
at_hand s = take s.have s.line

-- of a read's bytes, those that go into the line: as many as it lacks
abbrev pub added : Sending → List ℕ → List ℕ
added s bytes = take (lacking s) bytes

-- they go after those that the line has
unfoldable pub held : Sending → List ℕ → Sending
held s bytes =
    let more : List ℕ = added s bytes in
    record { modulator = s.modulator; line = take s.have s.line ++ more ++ drop (s.have + length more) s.line; have = s.have + length more; number = s.number }

-- "from 1"; a line's number stays at the largest that a u64 holds
abbrev pub largest : ℕ
largest = 0xffff_ffff_ffff_ffff

abbrev pub next_number_lem : ℕ → ℕ
next_number_lem n = min (n + 1) largest

abbrev pub next_line : Sending → Sending
next_line s = record { modulator = s.modulator; line = s.line; have = 0; number = next_number_lem s.number }

-- "Any line that is not 96 capital digits and a line feed is bad": fewer than 97 bytes with a line feed among them, or 97 that are no
-- good line. Fewer with no line feed may still become one.
unfoldable pub judged : Sending → Left
judged s =
    cond (ltb s.have 97) (quiet done s (has_feed_lem (at_hand s)))
    (cond (good_line s.line) (part_of (next_line s) (GivenSymbols Ordinary) (symbols_of_lem s.line) false false)
    (quiet done s true))

-- ---- ".. and end of transmission"; "a last one without its line feed too": a line begun and not ended is bad
unfoldable pub closed : Sending → Left
closed s = part_of s EndOfTransmission no_symbols (ltb 0 s.have) true

-- ---- a turn
-- "At the first bad line it stops reading, still ends the transmission"
abbrev pub or_closed : Left → Left
or_closed l = cond l.bad (closed l.sending) l

-- a read that gives no bytes is the end of the input
unfoldable pub moved : Sending → List ℕ → Left
moved s [] = closed s
moved s (byte ∷ bytes) = or_closed (judged (held s (byte ∷ bytes)))

-- with how many bytes of the read went into the line
abbrev pub with_taken : ℕ → Left → Left
with_taken n l = record { answer = l.answer; sending = l.sending; bytes = l.bytes; length = l.length; taken = n; bad = l.bad; last = l.last }

-- the sender's record by itself. 15: "any rate but the two, checked first"; 1: "record unfit"
abbrev pub is_fit : SoftModulator → Bool
is_fit m = record_fit_lem (samples_in_lem m.rate) m

abbrev pub record_told : SoftModulator → Paper
record_told m = cond (is_fit m) done (refusal (bare (unfit_number m)))

-- it decides, whatever the bytes. "Every refusal returns its number only, with record and buffers as they were": then nothing is to be
-- written, and no byte is taken
unfoldable pub turned : Sending → List ℕ → Left
turned s bytes = cond (is_fit s.modulator) (with_taken (length (added s bytes)) (moved s bytes)) (quiet (record_told s.modulator) s false)

-- ---- ".. and writes `bad line N` and a line feed on standard error"
unfoldable pub named : Bool → ℕ → Bad
named bad number = cond bad (in_line number) none

unfoldable pub words : Bad → Text
words none = in_room []
words (in_line n) = in_room (bad_line_lem n)

abbrev pub is_admitted_lem : AfterPart → Bool
is_admitted_lem part = not (is_refusal (done_paper part.answer))

-- ".. and writes": where a read or a write failed or a turn was refused, why the program stops; else the words of the line at hand
unfoldable pub said_of : AfterPart → Bool → Bool → Text
said_of part read written =
    cond (read && written && is_admitted_lem part)
    (words (named part.bad part.sending.number))
    (in_room (outcome_text_lem Send read written (is_admitted_lem part)))

-- ---- what the functions promise
pub record Says (d : Left) (r : AfterPart) : Type 0 where
  pub answers : done_paper r.answer ≡ d.answer
  pub leaves : r.sending ≡ d.sending
  pub writes : r.bytes ≡ d.bytes
  pub counts : r.length ≡ d.length
  pub takes : r.taken ≡ d.taken
  pub tells : r.bad ≡ d.bad
  pub ends : r.last ≡ d.last

abbrev pub OpenSays : AfterPart → Type 0
OpenSays r = Says opened r

abbrev pub LacksSays : Sending → ℕ → Type 0
LacksSays s r = r ≡ lacking s

abbrev pub TurnSays : Sending → List ℕ → ℕ → AfterPart → Type 0
TurnSays s bytes n r = Says (turned s (take n bytes)) r

abbrev pub IsAdmittedSays : AfterPart → Bool → Type 0
IsAdmittedSays part r = r ≡ is_admitted_lem part

abbrev pub LastWordsSays : AfterPart → Bool → Bool → Text → Type 0
LastWordsSays part read written r = r ≡ said_of part read written
