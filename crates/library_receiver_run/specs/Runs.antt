-- The receiver's exports over a list of calls on one memory: the machine, the rules' own calls, and what a caller reads. Assumes nothing.
use Rattle.std.specs.Prelude.{◌≡◌, cond, ◌&&◌, List, [], ◌∷◌, ◌++◌, leb, eqb, get_or}
use Rattle.std.specs.Float.{nan}
use Rattle.machine.specs.Runs.{Machine}
use Rattle.demodulator.specs.declared.Offer.{Offer}
use Rattle.demodulator_run.specs.Rules.{reply, query}
use Rattle.demodulator_run.specs.Calls.{Call, one, stretch, Told}
use Rattle.library_layout.specs.Layout.{kind_at}
use Rattle.library_receiver.specs.Memory.{Memory, lent_as, Export, feeds, replies, asks, lent_with, reply_of, paper_code, told_after, gain_after, Coded, coded_as, memory_says, memory_next}
use Rattle.library_receiver.specs.Promises.{Says}

-- each call is given the memory that the one before it left
abbrev pub memory : Machine Memory Export Coded
memory = record { next = memory_next; says = memory_says }

-- ---- as the rules and the record are called
abbrev pub call_of : Export → Call
call_of (feeds xs lent) = stretch xs lent.room
call_of (replies accepted) = one (reply (reply_of accepted))
call_of asks = one query

-- and their answers, as an export gives them
abbrev pub coded_told : Export → Told → Coded
coded_told e t =
    coded_as (paper_code t.answer)
    (lent_as t.room (told_after t.answer t.fed (lent_with e).told) (gain_after t.answer (lent_with e).gain))

unfoldable pub coded_all : List Export → List Told → List Coded
coded_all [] ts = []
coded_all (e ∷ es) [] = []
coded_all (e ∷ es) (t ∷ ts) = coded_told e t ∷ coded_all es ts

-- ---- calls one after the other, each with what its export promises, on the memory that the one before it left
pub data Chain : Memory → List Export → List Coded → Memory → Type 0 where
  ends : (m : Memory) → Chain m [] [] m
  calls : (m n after : Memory) (e : Export) (es : List Export) (a : Coded) (ys : List Coded) → Says m e a n → Chain n es ys after
      → Chain m (e ∷ es) (a ∷ ys) after

-- ---- "with record and buffers as they were"
pub record Untouched (m : Memory) (e : Export) (a : Coded) (after : Memory) : Type 0 where
  pub memory : after ≡ m
  pub lent : a.lent ≡ lent_with e

-- ---- the offers that a caller reads from codes, told numbers and gains: of stretches alone, since a query's code is 0 or 1
abbrev pub offer_told : Coded → Offer
offer_told a = record {
  kind = kind_at a.code;
  sample = get_or a.lent.told 1 0;
  taken_at = get_or a.lent.told 2 0;
  age = get_or a.lent.told 3 0;
  replaced = eqb (get_or a.lent.told 4 0) 1;
  gain = get_or a.lent.gain 0 nan;
}

unfoldable pub offer_read : Export → Coded → List Offer
offer_read (feeds xs lent) a = cond (leb 1 a.code && leb a.code 4) (offer_told a ∷ []) []
offer_read (replies accepted) a = []
offer_read asks a = []

unfoldable pub offers_read : List Export → List Coded → List Offer
offers_read [] ys = []
offers_read (e ∷ es) [] = []
offers_read (e ∷ es) (a ∷ ys) = offer_read e a ++ offers_read es ys
