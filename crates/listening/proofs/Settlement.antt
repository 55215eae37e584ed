-- A stretch, its offer and the reply to it, as the code settles them. Assumes nothing.
use Rattle.std.specs.Prelude.{Option, Some, None, Ok, Err}
use mathlib.Core.Path.{◌≡◌, refl, ap, ◌∙◌}
use mathlib.Core.Bool.{true, false}
use mathlib.Core.List.{List, [], map}
use lib.IntN.{ℤ}
use lib.Ieee.{Float}
use Rattle.machine.specs.Runs.{run}
use Rattle.shaping.specs.Rate.{samples_in_lem}
use Rattle.protocol.specs.declared.Kind.{Kind}
use Rattle.protocol.specs.declared.Refusal.{Refusal}
use Rattle.search.specs.declared.Reply.{Reply}
use Rattle.search.specs.declared.Reply.TheVariants.{Accepted, Rejected}
use Rattle.demodulator.specs.declared.SoftDemodulator.{SoftDemodulator}
use Rattle.demodulator.specs.declared.Offer.{Offer}
use Rattle.demodulator.specs.declared.AfterStretch.{AfterStretch}
use Rattle.demodulator.specs.Calls.{Paper, heard_paper, answered}
use Rattle.demodulator.specs.Singles.{blank, left_at}
use Rattle.demodulator.specs.Feed.{FeedSays}
use Rattle.house.specs.Accept.{accepted, symbol_at}
use Rattle.listening.specs.declared.Listened.{Listened}
use Rattle.listening.specs.Listener.{listed_of, reply_to, own_record}
use Rattle.listening.specs.Verdict.{verdict}
use Rattle.listening.specs.Listen.{replies_in, settled_paper, ListenSays}

-- ---- the rule
module _ (kind : Kind) (window : List Float) where
  pub judged_good : accepted kind (symbol_at window) ≡ true → Accepted ≡ verdict kind window
  unfolding verdict
  judged_good good = rw good

  pub judged_bad : accepted kind (symbol_at window) ≡ false → Rejected ≡ verdict kind window
  unfolding verdict
  judged_bad bad = rw bad

-- ---- a stretch: its answer and room, in the promise's words
module _ (m : SoftDemodulator) (xs : List ℤ) (r : AfterStretch) (window : List Float) (says : FeedSays m xs blank r window) where
  abbrev given : Option Reply → SoftDemodulator → Listened
  given s next = record { answer = r.answer; settled = s; fed = r.fed; window = window; timer = r.demodulator.control.dcd; demodulator = next }

  in_words : (a : Paper) → heard_paper r.answer ≡ a → (s : Option Reply) (next : SoftDemodulator)
      → settled_paper s ≡ replies_in (listed_of verdict a window) → next ≡ run own_record r.demodulator (map reply_to (listed_of verdict a window))
      → ListenSays m xs (given s next)
  in_words a e s next p l = record {
    answers = says.answers;
    settles = p ∙ rw (← e, says.answers, says.writes);
    feeds = says.counts;
    shows = says.writes;
    times = ap (λ (d : SoftDemodulator). d.control.dcd) says.leaves;
    leaves = l ∙ rw (← e, says.answers, says.leaves, says.writes);
  }

  pub listens_refused : (why : Refusal) → r.answer ≡ Err why → ListenSays m xs (given None r.demodulator)
  unfolding listed_of run
  listens_refused why e = in_words (heard_paper (Err why)) (rw e refl) None r.demodulator refl refl

  pub listens_quiet : r.answer ≡ Ok None → ListenSays m xs (given None r.demodulator)
  unfolding listed_of run
  listens_quiet e = in_words (heard_paper (Ok None)) (rw e refl) None r.demodulator refl refl

  pub listens_offered : (o : Offer) → r.answer ≡ Ok (Some o) → (reply : Reply) → reply ≡ verdict o.kind window → (next : SoftDemodulator)
      → next ≡ (answered (samples_in_lem r.demodulator.rate) r.demodulator reply []).demodulator → ListenSays m xs (given (Some reply) next)
  unfolding listed_of run left_at
  listens_offered o e reply judged next l = in_words (heard_paper (Ok (Some o))) (rw e refl) (Some reply) next (rw judged) (l ∙ rw judged)
