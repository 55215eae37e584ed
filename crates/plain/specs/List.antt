-- Document 02 g): the list of offers of a recording and a list of replies, over any receiver of single calls "fed sample by sample". Assumes nothing.
use mathlib.Core.List.{List, [], ◌∷◌, flat_map}
use Rattle.std.specs.Prelude.{ℤ, Float}
use Rattle.machine.specs.Runs.{Machine}
use Rattle.search.specs.declared.Reply.{Reply}
use Rattle.demodulator.specs.declared.Offer.{Offer}
use Rattle.demodulator.specs.Calls.{Paper, refusal, nothing, frame, done, carrier}
use Rattle.demodulator.specs.Singles.{Single, sample, reply, Said, blank}

-- "It lists each offer with kind, sample number and symbols."; the offer also has what document 02 j) has it report, and its gain
pub record Entry : Type 0 where
  pub due : Offer
  pub symbols : List Float

-- by a sample's answer and its room: an offer is listed, and then what comes after its reply; after any other answer the next sample is given
unfoldable pub offer_then : Paper → List Float → (goes_on_lem after : List Entry) → List Entry
offer_then (frame o) room goes_on_lem after = record { due = o; symbols = room } ∷ after
offer_then (refusal number) room goes_on_lem after = goes_on_lem
offer_then nothing room goes_on_lem after = goes_on_lem
offer_then done room goes_on_lem after = goes_on_lem
offer_then (carrier there) room goes_on_lem after = goes_on_lem

-- the calls after a sample: the same choice
unfoldable pub calls_then : Paper → (goes_on_lem after : List Single) → List Single
calls_then (frame o) goes_on_lem after = after
calls_then (refusal number) goes_on_lem after = goes_on_lem
calls_then nothing goes_on_lem after = goes_on_lem
calls_then done goes_on_lem after = goes_on_lem
calls_then (carrier there) goes_on_lem after = goes_on_lem

module _ {S : Type 0} (m : Machine S Single Said) where
  abbrev heard : S → ℤ → Said
  heard s x = m.says s (sample x blank)

  abbrev next : S → ℤ → S
  next s x = m.next s (sample x blank)

  -- "a list of replies shorter than the offers ends both at the first unanswered offer, which is listed; replies left over are unread"
  unfoldable pub list_from : S → List ℤ → List Reply → List Entry
  list_from s [] rs = []
  list_from s (x ∷ xs) [] = offer_then (heard s x).answer (heard s x).room (list_from (next s x) xs []) []
  list_from s (x ∷ xs) (r ∷ rs) =
      offer_then (heard s x).answer (heard s x).room (list_from (next s x) xs (r ∷ rs)) (list_from (m.next (next s x) (reply r)) xs rs)

  -- the calls that are made: each sample, and after an offer its reply, up to the first offer that has none
  unfoldable pub calls_from : S → List ℤ → List Reply → List Single
  calls_from s [] rs = []
  calls_from s (x ∷ xs) [] = sample x blank ∷ calls_then (heard s x).answer (calls_from (next s x) xs []) []
  calls_from s (x ∷ xs) (r ∷ rs) =
      sample x blank ∷ calls_then (heard s x).answer (calls_from (next s x) xs (r ∷ rs)) (reply r ∷ calls_from (m.next (next s x) (reply r)) xs rs)

-- the offers among the answers to calls, each with the room that it wrote
abbrev pub entry_of : Said → List Entry
entry_of a = offer_then a.answer a.room [] []

abbrev pub entries_in : List Said → List Entry
entries_in = flat_map entry_of
