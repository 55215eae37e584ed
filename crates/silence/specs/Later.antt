-- Document 02 h): "sample numbers apart, which differ by a constant": what is the same d samples later. Assumes nothing.
use Rattle.std.specs.Prelude.{List, ◌++◌, ℕ, ◌+◌, ℤ, length, Option, Some, None}
use Rattle.search.specs.declared.Candidate.{Candidate}
use Rattle.search.specs.declared.Candidate.TheVariants.{Nothing, Held}
use Rattle.search.specs.declared.Control.{Control}
use Rattle.demodulator.specs.declared.Offer.{Offer}
use Rattle.demodulator.specs.Calls.{Paper, refusal, nothing, frame, done, carrier}
use Rattle.demodulator_run.specs.Rules.{Said, History, After}
use Rattle.demodulator_run.specs.Calls.{Told}

-- ---- answers
-- an offer has two sample numbers: its own, and that of the sample at which its candidate was taken
abbrev pub later_offer : ℕ → Offer → Offer
later_offer d o = record {
  kind = o.kind;
  sample = o.sample + d;
  taken_at = o.taken_at + d;
  age = o.age;
  replaced = o.replaced;
  gain = o.gain;
}

-- no other answer has one
unfoldable pub later_paper : ℕ → Paper → Paper
later_paper d (frame o) = frame (later_offer d o)
later_paper d (refusal why) = refusal why
later_paper d nothing = nothing
later_paper d done = done
later_paper d (carrier there) = carrier there

abbrev pub later_said : ℕ → Said → Said
later_said d s = record { answer = later_paper d s.answer; room = s.room }

-- how many samples of a stretch went in, and what its room holds, are the same
abbrev pub later_told : ℕ → Told → Told
later_told d t = record { answer = later_paper d t.answer; fed = t.fed; room = t.room }

-- ---- what is kept between calls
unfoldable pub later_candidate : ℕ → Candidate → Candidate
later_candidate d Nothing = Nothing
later_candidate d (Held kind age diff gain shift since) = Held kind age diff gain shift (since + d)

unfoldable pub later_timer : ℕ → Option ℕ → Option ℕ
later_timer d None = None
later_timer d (Some end) = Some (end + d)

abbrev pub later_control : ℕ → Control → Control
later_control d c = record {
  candidate = later_candidate d c.candidate;
  wait = c.wait;
  dcd = later_timer d c.dcd;
  owed = c.owed;
  sample = c.sample + d;
}

-- a history that follows other samples, and what a call then comes to
abbrev pub later_history : List ℤ → History → History
later_history pre k = record { samples = pre ++ k.samples; control = later_control (length pre) k.control }

abbrev pub later_after : List ℤ → After → After
later_after pre a = record { said = later_said (length pre) a.said; history = later_history pre a.history }
