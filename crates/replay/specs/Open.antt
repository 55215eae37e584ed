-- Document 02 i): what opening a replay answers, and what the room then holds. The full run decides, and no pause is named. Assumes nothing.
use Rattle.protocol.specs.declared.Refusal.{Refusal}
use Rattle.std.specs.Prelude.{◌≡◌, not, cond, ◌||◌, List, ◌++◌, ℕ, ◌^◌, eqb, ltb, ℤ, length, drop, Float, Some, None, Result, Ok, Err, Option}
use Rattle.shaping.specs.Rate.{rate_fit, rate_of}
use Rattle.protocol.specs.Refusals.{PaperRefusal, bare, on_paper}
use Rattle.demodulator.specs.declared.Offer.{Offer}
use Rattle.listening.specs.Listener.{Listed}
use Rattle.replay.specs.FullRun.{all_offers, first_from}

-- ---- the answer on paper
pub data Paper : Type 0 where
  refusal : PaperRefusal → Paper
  no_offer : Paper
  offered : Offer → Paper

abbrev pub opened_paper : Result (Option Offer) Refusal → Paper
opened_paper (Err why) = refusal (on_paper why)
opened_paper (Ok None) = no_offer
opened_paper (Ok (Some o)) = offered o

-- ---- what the call leaves
pub record Left : Type 0 where
  pub answer : Paper
  pub room : List Float

abbrev pub refused : ℕ → List Float → Left
refused number room = record { answer = refusal (bare number); room = room }

-- "with kind, symbols and its number in the recording, or that there is none"; "The room is written only with that offer", its first 192
-- places only
unfoldable pub shows : Option Listed → List Float → Left
shows None room = record { answer = no_offer; room = room }
shows (Some o) room = record { answer = offered o.due; room = o.symbols ++ drop 192 room }

-- k): "15, any rate but the two, checked first". i): "4 for the room, as before; 5, a recording above 2^63 samples; 14, sample number 0
-- or beyond the recording's end"
unfoldable pub opened : ℕ → List ℤ → ℕ → List Float → Left
opened rate xs a room =
    cond (not (rate_fit rate)) (refused 15 room)
    (cond (ltb (length room) 192) (refused 4 room)
    (cond (ltb (2 ^ 63) (length xs)) (refused 5 room)
    (cond (eqb a 0 || ltb (length xs) a) (refused 14 room)
    (shows (first_from a (all_offers (rate_of rate) xs)) room))))

-- ---- what the function promises
pub record OpenSays (rate : ℕ) (xs : List ℤ) (a : ℕ) (room : List Float) (r : Result (Option Offer) Refusal) (after : List Float) : Type 0 where
  pub answers : opened_paper r ≡ (opened rate xs a room).answer
  pub writes : after ≡ (opened rate xs a room).room
