-- Document 02 i): "run a fresh receiver over the part that starts after that stretch". Over the record. Assumes nothing.
use Rattle.std.specs.Prelude.{◌≡◌, Bool, true, false, cond, List, ℕ, ltb, ℤ, Float, Some, None, Option}
use Rattle.demodulator.specs.declared.Offer.{Offer}
use Rattle.demodulator.specs.Record.{fresh}
use Rattle.demodulator.specs.Calls.{Paper, refusal, nothing, frame, done, carrier}
use Rattle.listening.specs.Listener.{Listed, offers, own_record}
use Rattle.listening.specs.Verdict.{verdict}
use Rattle.replay.specs.declared.part.First.{First}
use Rattle.replay.specs.FullRun.{first_from}

abbrev pub is_found_lem : Option Offer → Bool
is_found_lem None = false
is_found_lem (Some o) = true

-- an answer that is an offer "due at or after the asked sample"
unfoldable pub found_from : ℕ → Paper → Option Offer
found_from a (frame o) = cond (ltb o.sample a) None (Some o)
found_from a (refusal why) = None
found_from a nothing = None
found_from a done = None
found_from a (carrier there) = None

-- ---- what is found: no offer, or one with its symbols
pub data Finding : Type 0 where
  none_due : Finding
  due : Offer → List Float → Finding

unfoldable pub finding : Option Listed → Finding
finding None = none_due
finding (Some o) = due o.due o.symbols

abbrev pub found_in : Option Offer → List Float → Finding
found_in None window = none_due
found_in (Some o) window = due o window

abbrev pub FirstIn : ℕ → List ℤ → ℕ → First → Type 0
FirstIn rate xs a r = found_in r.found r.window ≡ finding (first_from a (offers own_record verdict (fresh rate) xs))
