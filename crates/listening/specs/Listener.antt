-- Document 01, 'The receiver', as a caller listens to it: each sample in turn, and each offer replied to before the next one.
-- Over any receiver of single calls and any rule of reply. Assumes nothing.
use mathlib.Core.List.{List, [], ◌∷◌, ◌++◌, map, flat_map}
use Rattle.std.specs.Prelude.{ℤ, Float}
use Rattle.machine.specs.Runs.{Machine, run, answers}
use Rattle.protocol.specs.declared.Kind.{Kind}
use Rattle.search.specs.declared.Reply.{Reply}
use Rattle.demodulator.specs.declared.SoftDemodulator.{SoftDemodulator}
use Rattle.demodulator.specs.declared.Offer.{Offer}
use Rattle.demodulator.specs.Calls.{Paper, refusal, nothing, frame, done, carrier}
use Rattle.demodulator.specs.Singles.{Single, sample, reply, blank, Said, left, said_by}

-- "is offered: the kind, the sample number d, and symbol i .. for i = 0 to 191. The caller replies."
pub record Listed : Type 0 where
  -- the kind, and the sample at which it is due
  pub due : Offer
  pub symbols : List Float
  pub reply : Reply

abbrev pub Rule : Type 0
Rule = Kind → List Float → Reply

-- the offer that an answer is, with the room that it wrote: one, or none
unfoldable pub listed_of : Rule → Paper → List Float → List Listed
listed_of rule (frame o) room = record { due = o; symbols = room; reply = rule o.kind room } ∷ []
listed_of rule (refusal number) room = []
listed_of rule nothing room = []
listed_of rule done room = []
listed_of rule (carrier there) room = []

abbrev pub listed_in : Rule → Said → List Listed
listed_in rule a = listed_of rule a.answer a.room

abbrev pub reply_to : Listed → Single
reply_to o = reply o.reply

module _ {S : Type 0} (m : Machine S Single Said) (rule : Rule) where
  -- the calls that a sample comes to: it, and the reply to its offer
  abbrev pub calls_at : S → ℤ → List Single
  calls_at s x = sample x blank ∷ map reply_to (listed_in rule (m.says s (sample x blank)))

  -- the receiver with its rule, as a machine that is given samples only: no "sample given while a reply is owed"
  abbrev pub listener : Machine S ℤ Said
  listener = record { next = λ s x. run m s (calls_at s x); says = λ s x. m.says s (sample x blank) }

  -- the list of all offers
  abbrev pub offers : S → List ℤ → List Listed
  offers s xs = flat_map (listed_in rule) (answers listener s xs)

  -- and of all calls: each sample, and after an offer its reply
  unfoldable pub calls : S → List ℤ → List Single
  calls s [] = []
  calls s (x ∷ xs) = calls_at s x ++ calls (run m s (calls_at s x)) xs

-- ---- the record as such a receiver: each call is at the rate that it says
abbrev pub own_record : Machine SoftDemodulator Single Said
own_record = record { next = λ m c. (left m c).demodulator; says = λ m c. said_by (left m c) }
