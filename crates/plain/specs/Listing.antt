-- Document 02 g): what the slow engine answers, and what the lent rooms then hold. Assumes nothing.
use Rattle.protocol.specs.declared.Refusal.{Refusal}
use Rattle.std.specs.Prelude.{◌≡◌, Bool, not, cond, ◌||◌, ℕ, ◌+◌, ◌*◌, ◌≤◌, ltb, ℤ, length, take, drop, Float, Result, Ok, Err}
use mathlib.Core.List.{List, ◌++◌, map, flat_map}
use Rattle.shaping.specs.Rate.{rate_fit}
use Rattle.protocol.specs.Refusals.{PaperRefusal, bare, on_paper}
use Rattle.demodulator.specs.Record.{fresh}
use Rattle.demodulator_run.specs.Rules.{start, single_rules}
use Rattle.demodulator_run.specs.Run.{single_receiver}
use Rattle.plain.specs.List.{Entry, list_from}
use Rattle.plain.specs.Values.{longest}
use Rattle.plain.specs.Rest.{reply_of, numbers_of_lem}

-- "It must be equal to the first receiver fed sample by sample": the list of a fresh record of the rate, by the definitions that its own calls promise
unfoldable pub first_list : ℕ → List ℤ → List Bool → List Entry
first_list rate xs replies = list_from single_receiver (fresh rate) xs (map reply_of replies)

-- "written from the rules": the same list by the rules over all samples, from a fresh start
unfoldable pub rules_list : List Float → ℕ → List ℤ → List Bool → List Entry
rules_list table p xs replies = list_from (single_rules table p) start xs (map reply_of replies)

-- an offer takes five numbers and 192 symbols
unfoldable pub numbers_in : List Entry → List ℕ
numbers_in = flat_map (λ (e : Entry). numbers_of_lem e.due)

unfoldable pub symbols_in : List Entry → List Float
symbols_in = flat_map (λ (e : Entry). e.symbols)

-- ---- the paper's answers: a refusal, or how many offers are listed
pub data Paper : Type 0 where
  refusal : PaperRefusal → Paper
  listed : ℕ → Paper

abbrev pub listing_paper : Result ℕ Refusal → Paper
listing_paper (Err why) = refusal (on_paper why)
listing_paper (Ok count) = listed count

-- ---- what a call leaves
pub record Left : Type 0 where
  pub answer : Paper
  pub numbers : List ℕ
  pub symbols : List Float

-- "Every refusal returns its number only, with record and buffers as they were."
abbrev pub refused : ℕ → List ℕ → List Float → Left
refused number numbers symbols = record { answer = refusal (bare number); numbers = numbers; symbols = symbols }

-- 13: "room for the list too small, exactly when some offer would not fit"
abbrev pub too_small : ℕ → List ℕ → List Float → Bool
too_small count numbers symbols = ltb (length numbers) (5 * count) || ltb (length symbols) (192 * count)

-- the list from the front of both rooms on, their rest as it was
unfoldable pub shows : List Entry → List ℕ → List Float → Left
shows es numbers symbols =
    cond (too_small (length es) numbers symbols) (refused 13 numbers symbols)
    (record {
      answer = listed (length es);
      numbers = numbers_in es ++ drop (5 * length es) numbers;
      symbols = symbols_in es ++ drop (192 * length es) symbols;
    })

-- 15: "any rate but the two, checked first"; 12: "recording too long"
unfoldable pub listing : ℕ → List ℤ → List Bool → List ℕ → List Float → Left
listing rate xs replies numbers symbols =
    cond (not (rate_fit rate)) (refused 15 numbers symbols)
    (cond (ltb longest (length xs)) (refused 12 numbers symbols)
    (shows (first_list rate xs replies) numbers symbols))

-- ---- what the functions promise
pub record Leaves (l : Left) (r : Result ℕ Refusal) (numbers : List ℕ) (symbols : List Float) : Type 0 where
  pub answers : listing_paper r ≡ l.answer
  pub numbered : numbers ≡ l.numbers
  pub written : symbols ≡ l.symbols

abbrev pub ListOffersSays : ℕ → List ℤ → List Bool → List ℕ → List Float → Result ℕ Refusal → List ℕ → List Float → Type 0
ListOffersSays rate xs replies numbers symbols = Leaves (listing rate xs replies numbers symbols)

-- ---- what the parts that write ask for and leave
-- room for so many offers
abbrev pub Roomy : ℕ → List ℕ → List Float → Type 0
Roomy count numbers symbols = (5 * count ≤ length numbers) × (192 * count ≤ length symbols)

-- one entry, written after `count` others
pub record WritesOne (count : ℕ) (e : Entry) (numbers : List ℕ) (symbols : List Float) (numbers' : List ℕ) (symbols' : List Float) : Type 0 where
  pub numbered : numbers' ≡ take (5 * count) numbers ++ (numbers_of_lem e.due ++ drop (5 * count + 5) numbers)
  pub written : symbols' ≡ take (192 * count) symbols ++ (e.symbols ++ drop (192 * count + 192) symbols)

-- the list, written at the front of the rooms
pub record WritesAll (es : List Entry) (numbers : List ℕ) (symbols : List Float) (numbers' : List ℕ) (symbols' : List Float) : Type 0 where
  pub numbered : numbers' ≡ numbers_in es ++ drop (5 * length es) numbers
  pub written : symbols' ≡ symbols_in es ++ drop (192 * length es) symbols
