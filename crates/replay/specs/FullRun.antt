-- Document 02 i): "The answer is the first offer due at or after the asked sample .. it must be the full run's." Assumes nothing.
use Rattle.std.specs.Prelude.{cond, List, [], ◌∷◌, ℕ, ltb, ℤ, Option, None, Some}
use Rattle.shaping.specs.Rate.{Rate}
use Rattle.demodulator_run.specs.Rules.{start}
use Rattle.silence.specs.Later.{later_offer}
use Rattle.listening.specs.Listener.{Listed, offers}
use Rattle.listening.specs.Verdict.{verdict}
use Rattle.listening.specs.Rules.{rules_at}

-- "Replies follow the receive program's rule": the list of all offers of the recording from a fresh start, in their order
abbrev pub all_offers : Rate → List ℤ → List Listed
all_offers R xs = offers (rules_at R) verdict start xs

-- "the first offer due at or after the asked sample", accepted or rejected
unfoldable pub first_from : ℕ → List Listed → Option Listed
first_from a [] = None
first_from a (o ∷ later) = cond (ltb o.due.sample a) (first_from a later) (Some o)

-- ---- "its number in the recording", of an offer in a part that begins after d samples
abbrev pub later_listed : ℕ → Listed → Listed
later_listed d o = record { due = later_offer d o.due; symbols = o.symbols; reply = o.reply }

unfoldable pub later_found : ℕ → Option Listed → Option Listed
later_found d None = None
later_found d (Some o) = Some (later_listed d o)
