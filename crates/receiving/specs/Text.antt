-- Document 01, 'The two programs': what receive makes of a list of samples. Over any receiver. Assumes nothing.
use Rattle.std.specs.Prelude.{cond, ◌||◌, ℕ, ◌+◌, ◌-◌, ltb, ℤ, length, take}
use mathlib.Core.List.{List, [], ◌∷◌, flat_map}
use Rattle.machine.specs.Runs.{Machine, run, answers}
use Rattle.search.specs.declared.Reply.{Reply}
use Rattle.search.specs.declared.Reply.TheVariants.{Accepted, Rejected}
use Rattle.demodulator.specs.Calls.{Paper, nothing, is_refusal}
use Rattle.demodulator.specs.Singles.{Single, Said}
use Rattle.house.specs.Line.{line_of}
use Rattle.listening.specs.Listener.{Listed, listed_in, listener, offers}
use Rattle.listening.specs.Verdict.{verdict}

-- "and writes accepted windows": one line each
unfoldable pub if_accepted : Reply → List ℕ → List ℕ
if_accepted Accepted line = line
if_accepted Rejected line = []

unfoldable pub lines_of : List Listed → List ℕ
lines_of = flat_map (λ (o : Listed). if_accepted o.reply (line_of o.symbols))

abbrev pub text_from : {S : Type 0} → Machine S Single Said → S → List ℤ → List ℕ
text_from m s xs = lines_of (offers m verdict s xs)

-- ---- a call with samples and room for so many bytes of lines
-- as many samples go in, by what each is answered with, as find room for a line, 97 bytes, and would not be refused
unfoldable pub go_in : List Said → ℕ → ℕ
go_in [] places = 0
go_in (a ∷ later) places = cond (ltb places 97 || is_refusal a.answer) 0 (go_in later (places - length (lines_of (listed_in verdict a))) + 1)

-- how many go in, the text of these, and the receiver after them
pub record Batch (S : Type 0) : Type 0 where
  pub count : ℕ
  pub text : List ℕ
  pub state : S

unfoldable pub batch_of : {S : Type 0} → Machine S Single Said → S → List ℤ → ℕ → Batch S
batch_of m s xs places =
    let n : ℕ = go_in (answers (listener m verdict) s xs) places in
    record { count = n; text = text_from m s (take n xs); state = run (listener m verdict) s (take n xs) }

-- the refusal that an answer is, or nothing
abbrev pub refusal_in : Paper → Paper
refusal_in a = cond (is_refusal a) a nothing

-- "Every refusal returns its number only, with record and buffers as they were": as in `feed`, only the first sample can be refused,
-- and what a call that gives none is answered with is given
unfoldable pub told_to : Paper → List Said → Paper
told_to empty [] = empty
told_to empty (a ∷ later) = refusal_in a.answer
