-- What the functions inside ask and promise. Assumes nothing.
use Rattle.protocol.specs.declared.Refusal.{Refusal}
use Rattle.std.specs.Prelude.{◌≡◌, Bool, true, false, cond, ℕ, ◌-◌, ◌*◌, ◌≤◌, eqb, ltb, ℤ, length, take, drop, Float, Option, Some, None, Result, Ok, Err}
use mathlib.Core.List.{List, ◌++◌, flat_map}
use Rattle.machine.specs.Runs.{answers}
use Rattle.search.specs.declared.Reply.{Reply}
use Rattle.search.specs.declared.Reply.TheVariants.{Accepted, Rejected}
use Rattle.demodulator.specs.declared.Offer.{Offer}
use Rattle.demodulator.specs.declared.SoftDemodulator.{SoftDemodulator}
use Rattle.demodulator.specs.Calls.{Paper, nothing, heard_paper}
use Rattle.demodulator.specs.Feed.{Stretch as FedStretch}
use Rattle.house.specs.Line.{line_of}
use Rattle.listening.specs.Listener.{listener, own_record}
use Rattle.listening.specs.Verdict.{verdict}
use Rattle.listening.specs.Listen.{stretch_of, listed_at_end, left_by_stretch, settled_paper}
use Rattle.receiving.specs.declared.pairs.Paired.{Paired}
use Rattle.receiving.specs.declared.pairs.Part.{Part}
use Rattle.receiving.specs.declared.windows.Heard.{Heard}
use Rattle.receiving.specs.Pairs.{samples_of, odd_of, waiting}
use Rattle.receiving.specs.Text.{if_accepted, lines_of, Batch, batch_of, refusal_in, told_to}
use Rattle.receiving.specs.Hear.{most_samples, empty_told, receipt_paper}

-- ---- an answer, as the code looks at it
abbrev pub is_admitted_lem : Result Unit Refusal → Bool
is_admitted_lem (Err why) = false
is_admitted_lem (Ok _) = true

-- a refusal counts only where no sample went in before
abbrev pub refused_after : ℕ → Paper → Paper
refused_after fed answer = cond (eqb fed 0) (refusal_in answer) nothing

-- ---- bytes
abbrev pub looks_at : ℕ → ℕ → ℕ
looks_at bytes places = cond (ltb places 97) 0 (cond (ltb bytes (2 * most_samples)) bytes (2 * most_samples))

-- the samples are at the front of their room
pub record PairsUp (odd : Option ℕ) (bytes : List ℕ) (room : List ℤ) (r : Paired) (after : List ℤ) : Type 0 where
  pub same_room : length after ≡ length room
  pub count : r.count ≤ length room
  pub samples : take r.count after ≡ samples_of (waiting odd ++ bytes)
  pub left_over : r.odd ≡ odd_of (waiting odd ++ bytes)

-- where none waits
abbrev pub PairsWhole : List ℕ → List ℤ → Paired → List ℤ → Type 0
PairsWhole = PairsUp None

pub record ConsumesPart (odd : Option ℕ) (fed : ℕ) (r : Part) : Type 0 where
  pub bytes : r.consumed ≡ 2 * fed - length (waiting odd)
  pub held : r.odd ≡ cond (eqb fed 0) odd None

-- ---- lines
-- a text at the front of a room
abbrev pub in_front : List ℕ → List ℕ → List ℕ
in_front text room = text ++ drop (length text) room

-- the line of an offer that was accepted
abbrev pub is_accepted_lem : Option Reply → Bool
is_accepted_lem None = false
is_accepted_lem (Some Accepted) = true
is_accepted_lem (Some Rejected) = false

abbrev pub line_for : Option Reply → List Float → List ℕ
line_for settled window = flat_map (λ (reply : Reply). if_accepted reply (line_of window)) (settled_paper settled)

pub record PutsLine (settled : Option Reply) (window : List Float) (room : List ℕ) (r : ℕ) (after : List ℕ) : Type 0 where
  pub counts : r ≡ length (line_for settled window)
  pub writes : after ≡ in_front (line_for settled window) room

-- the line of the offer that a stretch ends with, if there is one
abbrev pub line_of_stretch : FedStretch SoftDemodulator → List ℕ
line_of_stretch f = lines_of (listed_at_end f)

-- a stretch of samples, and what its answer leads to
pub record HearsStretch (m : SoftDemodulator) (xs : List ℤ) (room : List ℕ) (r : Heard (Result (Option Offer) Refusal)) (after : List ℕ) : Type 0 where
  pub answers : heard_paper r.answer ≡ (stretch_of m xs).answer
  pub feeds : r.fed ≡ (stretch_of m xs).fed
  pub counts : r.written ≡ length (line_of_stretch (stretch_of m xs))
  pub leaves : r.demodulator ≡ left_by_stretch (stretch_of m xs)
  pub writes : after ≡ in_front (line_of_stretch (stretch_of m xs)) room

-- ---- all samples: what the call is told, and what they come to
abbrev pub record_told : SoftDemodulator → List ℤ → Paper
record_told m xs = told_to (empty_told m) (answers (listener own_record verdict) m xs)

abbrev pub record_batch : SoftDemodulator → List ℤ → ℕ → Batch SoftDemodulator
record_batch = batch_of own_record

-- no more than pairs of bytes make, and none without room for a line
pub record Roomy (xs : List ℤ) (lines : List ℕ) : Type 0 where
  pub few : length xs ≤ most_samples
  pub room : 1 ≤ length xs → 97 ≤ length lines

pub record HearsAll (m : SoftDemodulator) (xs : List ℤ) (lines : List ℕ) (r : Heard (Result Unit Refusal)) (after : List ℕ) : Type 0 where
  pub answers : receipt_paper r.answer ≡ record_told m xs
  pub feeds : r.fed ≡ (record_batch m xs (length lines)).count
  pub counts : r.written ≡ length (record_batch m xs (length lines)).text
  pub leaves : r.demodulator ≡ (record_batch m xs (length lines)).state
  pub writes : after ≡ in_front (record_batch m xs (length lines)).text lines
