-- Document 01, 'The receiver', over the list of all calls since a fresh start, oldest first: no ring, no cursor. Over p, the samples in a symbol, and the table of taps. Assumes nothing.
use Rattle.std.specs.Prelude.{not, cond, List, [], ◌∷◌, ◌++◌, ℕ, ◌^◌, eqb, ltb, ℤ, length, Float}
use Rattle.numbers.specs.Firsts.{written}
use Rattle.machine.specs.Runs.{Machine, run, answers}
use Rattle.protocol.specs.Refusals.{bare}
use Rattle.search.specs.declared.Control.{Control}
use Rattle.search.specs.declared.Reply.{Reply}
use Rattle.search.specs.Turn.{Outcome, quiet, offer, sampled, replied}
use Rattle.demodulator.specs.Spans.{eight, symbol_at}
use Rattle.demodulator.specs.Record.{fresh_control}
use Rattle.demodulator.specs.Calls.{refusal, nothing, frame, done, carrier, offer_of, timer_held}
pub use Rattle.demodulator.specs.Singles.{Single, sample, reply, query, Said}
use Rattle.demodulator_run.specs.Filter.{ago}

-- what has come of the calls so far: the admitted samples, oldest first, and the control
pub record History : Type 0 where
  pub samples : List ℤ
  pub control : Control

pub record After : Type 0 where
  pub said : Said
  pub history : History

-- "Samples before the first are 0."
abbrev pub start : History
start = record { samples = []; control = fresh_control }

-- "Every refusal returns its number only, with record and buffers as they were."
abbrev pub refused : ℕ → List Float → History → After
refused number room h = record { said = record { answer = refusal (bare number); room = room }; history = h }

module _ (table : List Float) (p : ℕ) where
  -- a due frame "is offered: the kind, the sample number d, and symbol i"; "Symbol room is written only by an offer, first 192 places only"
  -- what an admitted sample comes to: xs are all the samples, it among them
  unfoldable pub settled : List ℤ → List Float → Outcome → After
  settled xs room (quiet c) = record { said = record { answer = nothing; room = room }; history = record { samples = xs; control = c } }
  settled xs room (offer shown c) = record {
    said = record { answer = frame (offer_of shown c.sample); room = written (symbol_at p shown (ago table p xs)) 192 room };
    history = record { samples = xs; control = c };
  }

  -- "Each sample: store, count, clear the carrier timer if the count is above its end."
  abbrev pub admitted : History → ℤ → List Float → After
  admitted h x room =
      let xs : List ℤ = h.samples ++ (x ∷ []) in
      settled xs room (sampled p (eight p (ago table p xs)) h.control)

  -- 2 "sample given while a reply is owed"; 4 "room for symbols below 192 (checked on every sample)"; 5 "sample given at count 2^63"
  unfoldable pub given : History → ℤ → List Float → After
  given h x room =
      cond h.control.owed (refused 2 room h)
      (cond (ltb (length room) 192) (refused 4 room h)
      (cond (eqb h.control.sample (2 ^ 63)) (refused 5 room h)
      (admitted h x room)))

  -- "Accepted: the sample is finished. Rejected: the search runs for that same sample." 3 "reply given while none is owed"
  unfoldable pub answered : History → Reply → After
  answered h r =
      cond (not h.control.owed) (refused 3 [] h)
      (record {
        said = record { answer = done; room = [] };
        history = record { samples = h.samples; control = replied p (eight p (ago table p h.samples)) r h.control };
      })

  -- "Carrier detect is yes exactly while the timer is held."
  unfoldable pub single : History → Single → After
  single h (sample x room) = given h x room
  single h (reply r) = answered h r
  single h query = record { said = record { answer = carrier (timer_held h.control.dcd); room = [] }; history = h }

-- ---- the rules as a machine over single calls, and its runs from a fresh start
abbrev pub single_rules : List Float → ℕ → Machine History Single Said
single_rules table p = record { next = λ h c. (single table p h c).history; says = λ h c. (single table p h c).said }

abbrev pub history_all : List Float → ℕ → List Single → History
history_all table p cs = run (single_rules table p) start cs

abbrev pub said_all : List Float → ℕ → List Single → List Said
said_all table p cs = answers (single_rules table p) start cs
