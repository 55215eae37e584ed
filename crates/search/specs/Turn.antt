-- Document 01, 'The receiver': what a sample and a reply do to the control. A sample's turn reads no value;
-- what it comes to is over p and the eight values that the correlator is given then. Assumes nothing.
use Rattle.std.specs.Prelude.{Bool, true, false, cond, ℕ, ◌+◌, ◌-◌, ltb, Float, Some, None, Option}
use Rattle.search.specs.declared.Candidate.TheVariants.{Nothing}
use Rattle.search.specs.declared.Waiting.{Waiting}
use Rattle.search.specs.declared.Control.{Control}
use Rattle.search.specs.declared.Shown.{Shown}
use Rattle.search.specs.declared.Turn.{Turn}
use Rattle.search.specs.declared.Turn.TheVariants.{Rest, Offer, Look}
use Rattle.search.specs.declared.Reply.{Reply}
use Rattle.search.specs.declared.Reply.TheVariants.{Accepted, Rejected}
use Rattle.search.specs.TakenBurst.{TakenBurst, held_by, shown_of}
use Rattle.search.specs.Search.{searched}

-- ---- "store, count, clear the carrier timer if the count is above its end"
unfoldable pub cleared : ℕ → Option ℕ → Option ℕ
cleared count None = None
cleared count (Some end) = cond (ltb end count) None (Some end)

-- the count of a sample's number n
abbrev pub counted_to : ℕ → Control → Control
counted_to n c = record { candidate = c.candidate; wait = c.wait; dcd = cleared n c.dcd; owed = c.owed; sample = n }

abbrev pub counted : Control → Control
counted c = counted_to (c.sample + 1) c

-- ---- the wait
-- "take one from it"
abbrev pub nearer : Waiting → Waiting
nearer w = record { left = w.left - 1; age = w.age; replaced = w.replaced }

abbrev pub waiting_on : Waiting → Control → Control
waiting_on w c = record { candidate = c.candidate; wait = Some w; dcd = c.dcd; owed = c.owed; sample = c.sample }

abbrev pub freed : Control → Control
freed c = record { candidate = Nothing; wait = None; dcd = c.dcd; owed = c.owed; sample = c.sample }

abbrev pub owing : Bool → Control → Control
owing owed c = record { candidate = c.candidate; wait = c.wait; dcd = c.dcd; owed = owed; sample = c.sample }

-- ---- the turn of a sample: it rests, its frame is offered, or it is searched
-- "At 0 the wait and the candidate are removed and a frame is due."; document 02 b): "a due sample is now always an offer"
unfoldable pub due_turn : Option TakenBurst → Waiting → Control → Turn
due_turn None w c = Look c
due_turn (Some t) w c = Offer (shown_of t w.age w.replaced) (owing true c)

-- "If a wait is held, take one from it; while more than 0 is left the sample is finished, with no search."
unfoldable pub waited_turn : Option Waiting → Control → Turn
waited_turn None c = Look c
waited_turn (Some w) c = cond (ltb 1 w.left) (Rest (waiting_on (nearer w) c)) (due_turn (held_by c) w (freed c))

-- of the sample whose number is n
abbrev pub turn_of : ℕ → Control → Turn
turn_of n c = waited_turn c.wait (counted_to n c)

-- ---- what a sample comes to: nothing for the caller, or an offer, with what it shows
pub data Outcome : Type 0 where
  quiet : Control → Outcome
  offer : Shown → Control → Outcome

abbrev pub comes_to : ℕ → (ℕ → Float) → Turn → Outcome
comes_to p v (Rest c) = quiet c
comes_to p v (Offer shown c) = offer shown c
comes_to p v (Look c) = quiet (searched p v c)

-- the control then, whichever it is
abbrev pub control_of : Outcome → Control
control_of (quiet c) = c
control_of (offer shown c) = c

-- once it is stored: `v` are the eight values then
unfoldable pub sampled : ℕ → (ℕ → Float) → Control → Outcome
sampled p v c = comes_to p v (turn_of (c.sample + 1) c)

-- ---- a reply
-- "Accepted: the sample is finished. Rejected: the search runs for that same sample."
unfoldable pub replied : ℕ → (ℕ → Float) → Reply → Control → Control
replied p v Accepted c = owing false c
replied p v Rejected c = searched p v (owing false c)
