-- The receiver's exports as a machine over the memory that a caller lends: what each call answers and leaves in every place. Assumes nothing.
use Rattle.std.specs.Prelude.{cond, List, [], ◌∷◌, ℕ, ◌%◌, eqb, ℤ, get_or, Float}
use Rattle.shaping.specs.Rate.{rate_of}
use Rattle.search.specs.declared.Reply.{Reply}
use Rattle.search.specs.declared.Reply.TheVariants.{Accepted, Rejected}
use Rattle.demodulator.specs.declared.SoftDemodulator.{SoftDemodulator}
use Rattle.demodulator.specs.Record.{assembled}
use Rattle.demodulator.specs.Calls.{Paper, refusal, nothing, frame, done, carrier, Left}
use Rattle.demodulator.specs.Feed.{Stretch, fed_into}
use Rattle.demodulator.specs.Singles.{reply, query, left}
use Rattle.library_codes.specs.Codes.{refusal_code, kind_number, flag_number}
use Rattle.library_layout.specs.Layout.{record_code_lem, control_in, numbers_of_lem, levels_of}

-- ---- the memory of a receiver
pub record Memory : Type 0 where
  pub window : List ℤ
  pub ring : List Float
  pub numbers : List ℕ
  pub levels : List Float

abbrev pub memory_at : List ℤ → List Float → List ℕ → List Float → Memory
memory_at window ring numbers levels = record { window = window; ring = ring; numbers = numbers; levels = levels }

-- the record that it is
abbrev pub record_in : Memory → SoftDemodulator
record_in m =
    let n = m.numbers in
    assembled (get_or n 0 0 % 65536) m.window (get_or n 1 0) m.ring (get_or n 2 0) (control_in n m.levels)

-- and a record, laid out in it
abbrev pub laid_out : SoftDemodulator → Memory
laid_out d =
    memory_at d.filter_win d.rx_win (numbers_of_lem d.rate d.filter_cursor d.rx_cursor d.control) (levels_of d.control)

-- ---- the calls
-- what is lent with a stretch besides its samples: the room for symbols, the five numbers that are told, and the gain
pub record Lent : Type 0 where
  pub room : List Float
  pub told : List ℕ
  pub gain : List Float

abbrev pub lent_as : List Float → List ℕ → List Float → Lent
lent_as room told gain = record { room = room; told = told; gain = gain }

-- a stretch of samples; a reply, by its number; the carrier query
pub data Export : Type 0 where
  feeds : List ℤ → Lent → Export
  replies : ℕ → Export
  asks : Export

abbrev pub none_lent : Lent
none_lent = lent_as [] [] []

abbrev pub lent_with : Export → Lent
lent_with (feeds xs lent) = lent
lent_with (replies accepted) = none_lent
lent_with asks = none_lent

-- 0 rejects, any other number accepts
abbrev pub reply_of : ℕ → Reply
reply_of accepted = cond (eqb accepted 0) Rejected Accepted

-- what the call on a record answers and leaves
abbrev singly : Left → Stretch SoftDemodulator
singly l = record { answer = l.answer; fed = 0; state = l.demodulator; room = l.room }

unfoldable pub called : SoftDemodulator → Export → Stretch SoftDemodulator
called d (feeds xs lent) = fed_into (rate_of d.rate) d xs lent.room
called d (replies accepted) = singly (left d (reply (reply_of accepted)))
called d asks = singly (left d query)

-- ---- answers as numbers
-- 100 and the refusal's number; an offer's kind, 1 to 4; the carrier, 0 or 1
abbrev pub paper_code : Paper → ℕ
paper_code (refusal why) = refusal_code why
paper_code nothing = 0
paper_code (frame o) = kind_number o.kind
paper_code done = 0
paper_code (carrier there) = flag_number there

-- how many samples went in, and of an offer its sample, where it was taken, its age and its mark
abbrev pub told_after : Paper → ℕ → List ℕ → List ℕ
told_after (refusal why) fed told = told
told_after nothing fed told = fed ∷ 0 ∷ 0 ∷ 0 ∷ 0 ∷ []
told_after (frame o) fed told = fed ∷ o.sample ∷ o.taken_at ∷ o.age ∷ flag_number o.replaced ∷ []
told_after done fed told = told
told_after (carrier there) fed told = told

abbrev pub gain_after : Paper → List Float → List Float
gain_after (refusal why) gain = gain
gain_after nothing gain = gain
gain_after (frame o) gain = o.gain ∷ []
gain_after done gain = gain
gain_after (carrier there) gain = gain

abbrev pub lent_after : Stretch SoftDemodulator → Lent → Lent
lent_after s lent = lent_as s.room (told_after s.answer s.fed lent.told) (gain_after s.answer lent.gain)

-- "Every refusal returns its number only, with record and buffers as they were"; the carrier query writes nothing
abbrev pub laid_after : Paper → Memory → SoftDemodulator → Memory
laid_after (refusal why) m d = m
laid_after nothing m d = laid_out d
laid_after (frame o) m d = laid_out d
laid_after done m d = laid_out d
laid_after (carrier there) m d = m

-- ---- the machine
-- what a call is answered with: its code, and what the lent places then hold
pub record Coded : Type 0 where
  pub code : ℕ
  pub lent : Lent

abbrev pub coded_as : ℕ → Lent → Coded
coded_as code lent = record { code = code; lent = lent }

abbrev pub coded : Export → Stretch SoftDemodulator → Coded
coded e s = coded_as (paper_code s.answer) (lent_after s (lent_with e))

-- numbers that are no receiver's are refused before all else
unfoldable pub memory_says : Memory → Export → Coded
memory_says m e =
    cond (eqb (record_code_lem m.numbers) 0) (coded e (called (record_in m) e)) (coded_as (record_code_lem m.numbers) (lent_with e))

unfoldable pub memory_next : Memory → Export → Memory
memory_next m e =
    cond (eqb (record_code_lem m.numbers) 0) (laid_after (called (record_in m) e).answer m (called (record_in m) e).state) m
