-- What listening to samples up to an offer answers and leaves, on any record. Assumes nothing.
use Rattle.demodulator.specs.declared.Offer.{Offer}
use Rattle.protocol.specs.declared.Refusal.{Refusal}
use Rattle.std.specs.Prelude.{◌≡◌, Bool, true, false, List, [], ◌∷◌, map, ℤ, Option, Some, None, Result}
use Rattle.machine.specs.Runs.{run}
use Rattle.shaping.specs.Rate.{rate_of}
use Rattle.search.specs.declared.Reply.{Reply}
use Rattle.demodulator.specs.declared.SoftDemodulator.{SoftDemodulator}
use Rattle.demodulator.specs.Calls.{Paper, refusal, nothing, frame, done, carrier, heard_paper}
use Rattle.demodulator.specs.Feed.{Stretch, fed_into}
use Rattle.demodulator.specs.Singles.{blank}
use Rattle.listening.specs.declared.Listened.{Listened}
use Rattle.listening.specs.Listener.{Listed, listed_of, reply_to, own_record}
use Rattle.listening.specs.Verdict.{verdict}

unfoldable pub is_offer : Paper → Bool
is_offer (frame o) = true
is_offer (refusal number) = false
is_offer nothing = false
is_offer done = false
is_offer (carrier there) = false

-- ---- samples up to an offer, or up to one that would be refused
abbrev pub stretch_of : SoftDemodulator → List ℤ → Stretch SoftDemodulator
stretch_of m xs = fed_into (rate_of m.rate) m xs blank

-- the offer that they end with, if there is one, and the record after its reply
abbrev pub listed_at_end : Stretch SoftDemodulator → List Listed
listed_at_end f = listed_of verdict f.answer f.room

abbrev pub left_by_stretch : Stretch SoftDemodulator → SoftDemodulator
left_by_stretch f = run own_record f.state (map reply_to (listed_at_end f))

-- ---- on paper: the replies that were given, one or none
abbrev pub replies_in : List Listed → List Reply
replies_in = map (λ (o : Listed). o.reply)

abbrev pub settled_paper : Option Reply → List Reply
settled_paper None = []
settled_paper (Some reply) = reply ∷ []

-- ---- what the functions promise
abbrev pub IsOfferedSays : Result (Option Offer) Refusal → Bool → Type 0
IsOfferedSays answer r = r ≡ is_offer (heard_paper answer)

pub record ListenSays (m : SoftDemodulator) (xs : List ℤ) (r : Listened) : Type 0 where
  pub answers : heard_paper r.answer ≡ (stretch_of m xs).answer
  pub settles : settled_paper r.settled ≡ replies_in (listed_at_end (stretch_of m xs))
  pub feeds : r.fed ≡ (stretch_of m xs).fed
  pub shows : r.window ≡ (stretch_of m xs).room
  pub times : r.timer ≡ (stretch_of m xs).state.control.dcd
  pub leaves : r.demodulator ≡ left_by_stretch (stretch_of m xs)
