-- A stretch with its line, and a call that gives no sample, as the code settles them. Assumes nothing.
use Rattle.std.specs.Prelude.{Option, Some, None, Result}
use Rattle.protocol.specs.declared.Refusal.{Refusal}
use mathlib.Core.Path.{◌≡◌, refl, ap, ◌∙◌}
use mathlib.Core.Bool.{Bool, true, false, cond, false≢true, true≢false}
use mathlib.Core.List.{List, [], ◌∷◌, ◌++◌, append-nil, flat_map}
use Prim.Native.Nat.{ℕ}
use native.Mathlib.Omega.{arith}
use lib.IntN.{ℤ}
use lib.ListN.{length, drop}
use lib.Ieee.{Float}
use Rattle.machine.specs.Runs.{run, answers}
use Rattle.shaping.specs.Rate.{samples_in_lem}
use Rattle.protocol.specs.Refusals.{bare}
use Rattle.search.specs.declared.Reply.{Reply}
use Rattle.search.specs.declared.Reply.TheVariants.{Accepted, Rejected}
use Rattle.demodulator.specs.declared.SoftDemodulator.{SoftDemodulator}
use Rattle.demodulator.specs.Fit.{unfit_number, record_fit_lem}
use Rattle.demodulator.specs.Calls.{Paper, refusal, nothing, frame, done, carrier}
use Rattle.demodulator.specs.Feed.{fed}
use Rattle.house.specs.Line.{line_of}
use Rattle.listening.specs.declared.Listened.{Listened}
use Rattle.listening.specs.Listener.{listed_of}
use Rattle.listening.specs.Verdict.{verdict}
use Rattle.listening.specs.Listen.{stretch_of, replies_in, ListenSays}
use Rattle.receiving.specs.Text.{if_accepted, lines_of, go_in, batch_of, refusal_in, told_to}
use Rattle.receiving.specs.Hear.{receipt_paper}
use Rattle.receiving.specs.Parts.{in_front, is_accepted_lem, line_for, PutsLine, line_of_stretch, HearsStretch, HearsAll}
use Rattle.receiving.proofs.Lines.{length_line}

-- ---- an offer: its line by what it was settled with
module _ (window : List Float) where
  line_accepted : (s : Option Reply) → is_accepted_lem s ≡ true → line_for s window ≡ line_of window
  unfolding if_accepted flat_map
  line_accepted None e = absurd (false≢true e)
  line_accepted (Some Accepted) e = append-nil (line_of window)
  line_accepted (Some Rejected) e = absurd (false≢true e)

  line_none : (s : Option Reply) → is_accepted_lem s ≡ false → line_for s window ≡ []
  unfolding if_accepted flat_map
  line_none None e = refl
  line_none (Some Accepted) e = absurd (true≢false e)
  line_none (Some Rejected) e = refl

  module _ (s : Option Reply) (room : List ℕ) where
    pub puts_accepted : (after : List ℕ) → is_accepted_lem s ≡ true → after ≡ line_of window ++ drop 97 room → PutsLine s window room 97 after
    puts_accepted after good w = record {
      counts = rw (line_accepted s good, length_line window) refl;
      writes = rw (line_accepted s good, length_line window) w;
    }

    pub puts_nothing : is_accepted_lem s ≡ false → PutsLine s window room 0 room
    puts_nothing bad = record { counts = rw (line_none s bad) refl; writes = rw (line_none s bad) refl }

-- ---- a stretch
-- the line by the replies is the line by the list
line_listed : (a : Paper) (window : List Float) → flat_map (λ (reply : Reply). if_accepted reply (line_of window)) (replies_in (listed_of verdict a window)) ≡ lines_of (listed_of verdict a window)
unfolding listed_of lines_of flat_map
line_listed (frame o) window = refl
line_listed (refusal number) window = refl
line_listed nothing window = refl
line_listed done window = refl
line_listed (carrier there) window = refl

module _ (m : SoftDemodulator) (xs : List ℤ) (r : Listened) (says : ListenSays m xs r) where
  line_heard : line_for r.settled r.window ≡ line_of_stretch (stretch_of m xs)
  line_heard = rw (says.settles, says.shows) (line_listed (stretch_of m xs).answer (stretch_of m xs).room)

  pub hears_stretch : (room : List ℕ) (written : ℕ) (after : List ℕ) → PutsLine r.settled r.window room written after
      → HearsStretch m xs room (record { answer = r.answer; fed = r.fed; written = written; demodulator = r.demodulator }) after
  hears_stretch room written after puts = record {
    answers = says.answers;
    feeds = says.feeds;
    counts = puts.counts ∙ ap length line_heard;
    leaves = says.leaves;
    writes = puts.writes ∙ ap (λ (l : List ℕ). in_front l room) line_heard;
  }

-- ---- no sample: the call is refused where the record is unfit, and leaves all as it was
by_fitness : (b : Bool) (number : ℕ) → refusal_in (cond b nothing (refusal (bare number))) ≡ cond b nothing (refusal (bare number))
by_fitness true number = refl
by_fitness false number = refl

pub hears_nothing : (m : SoftDemodulator) (xs : List ℤ) (lines : List ℕ) (answer : Result Unit Refusal) → length xs ≡ 0
    → receipt_paper answer ≡ refusal_in (stretch_of m xs).answer
    → HearsAll m xs lines (record { answer = answer; fed = 0; written = 0; demodulator = m }) lines
unfolding fed batch_of run answers go_in lines_of flat_map told_to
hears_nothing m [] lines answer e tells = record {
  answers = tells ∙ by_fitness (record_fit_lem (samples_in_lem m.rate) m) (unfit_number m);
  feeds = refl;
  counts = refl;
  leaves = refl;
  writes = refl;
}
hears_nothing m (x ∷ xs) lines answer e tells = absurd (omega arith)
