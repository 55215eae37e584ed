-- What each call answers at a rate, and what it leaves: the record, and the room for symbols. Assumes nothing.
use Rattle.demodulator.specs.declared.After.{After}
use Rattle.protocol.specs.declared.Refusal.{Refusal}
use Rattle.std.specs.Prelude.{◌≡◌, Bool, true, false, not, cond, List, [], ℕ, ◌^◌, eqb, ltb, ℤ, length, Float, Option, Some, None, is_some, Result, Ok, Err}
use Rattle.numbers.specs.Firsts.{written}
use Rattle.shaping.specs.Rate.{Rate, rate_fit, samples_in_lem, rate_of}
use Rattle.protocol.specs.Refusals.{PaperRefusal, bare, on_paper}
use Rattle.search.specs.declared.Shown.{Shown}
use Rattle.search.specs.declared.Reply.{Reply}
use Rattle.search.specs.Turn.{Outcome, quiet, offer, sampled, replied}
use Rattle.demodulator.specs.declared.SoftDemodulator.{SoftDemodulator}
use Rattle.demodulator.specs.declared.Offer.{Offer}
use Rattle.demodulator.specs.Spans.{eight, symbol_at}
use Rattle.demodulator.specs.Record.{back, fresh, stored, with_control}
use Rattle.demodulator.specs.Fit.{unfit_number, record_fit_lem, fit_for_sample_lem, fit_for_reply_lem}

-- ---- the paper's answers: a refusal, or the paper's values
pub data Paper : Type 0 where
  refusal : PaperRefusal → Paper
  nothing : Paper
  frame : Offer → Paper
  done : Paper
  carrier : Bool → Paper

-- "Every refusal returns its number only"
abbrev pub is_refusal : Paper → Bool
is_refusal (refusal why) = true
is_refusal nothing = false
is_refusal (frame o) = false
is_refusal done = false
is_refusal (carrier held) = false

abbrev pub done_paper : Result Unit Refusal → Paper
done_paper (Err why) = refusal (on_paper why)
done_paper (Ok _) = done

abbrev pub heard_paper : Result (Option Offer) Refusal → Paper
heard_paper (Err why) = refusal (on_paper why)
heard_paper (Ok None) = nothing
heard_paper (Ok (Some o)) = frame o

abbrev pub carrier_paper : Result Bool Refusal → Paper
carrier_paper (Err why) = refusal (on_paper why)
carrier_paper (Ok there) = carrier there

-- ---- what a call leaves
pub record Left : Type 0 where
  pub answer : Paper
  pub demodulator : SoftDemodulator
  pub room : List Float

-- "Every refusal returns its number only, with record and buffers as they were."
abbrev pub refused : ℕ → SoftDemodulator → List Float → Left
refused number m room = record { answer = refusal (bare number); demodulator = m; room = room }

-- ---- a sample
-- "the kind, the sample number d"; document 02 j): where it was taken, "the age at which the wait was set", and the mark; l): "the offers' .. gain"
abbrev pub offer_of : Shown → ℕ → Offer
offer_of shown d = record { kind = shown.kind; sample = d; taken_at = shown.taken_at; age = shown.age; replaced = shown.replaced; gain = shown.gain }

-- ".. and symbol i": "Symbol room is written only by an offer, first 192 places only"
abbrev pub finished : ℕ → SoftDemodulator → List Float → Outcome → Left
finished p m room (quiet c) = record { answer = nothing; demodulator = with_control c m; room = room }
finished p m room (offer shown c) = record { answer = frame (offer_of shown c.sample); demodulator = with_control c m; room = written (symbol_at p shown (back p m)) 192 room }

unfoldable pub admitted_by : Rate → SoftDemodulator → ℤ → List Float → Left
admitted_by R m x room = finished R.p (stored R m x) room (sampled R.p (eight R.p (back R.p (stored R m x))) m.control)

-- 15 "any rate but the two, checked first"; 1 "record unfit"; 2 "sample given while a reply is owed"; 4 "room for symbols below 192 (checked on every sample)"; 5 "sample given at count 2^63"; the smallest first
unfoldable pub demodulated : Rate → SoftDemodulator → ℤ → List Float → Left
demodulated R m x room =
    cond (not (fit_for_sample_lem R.p m)) (refused (unfit_number m) m room)
    (cond m.control.owed (refused 2 m room)
    (cond (ltb (length room) 192) (refused 4 m room)
    (cond (eqb m.control.sample (2 ^ 63)) (refused 5 m room)
    (admitted_by R m x room))))

-- ---- a reply
abbrev pub reply_leaves : ℕ → SoftDemodulator → Reply → SoftDemodulator
reply_leaves p m reply = with_control (replied p (eight p (back p m)) reply m.control) m

-- 15; 1 "record unfit"; 3 "reply given while none is owed"
unfoldable pub answered : ℕ → SoftDemodulator → Reply → List Float → Left
answered p m reply room =
    cond (not (fit_for_reply_lem p m)) (refused (unfit_number m) m room)
    (cond (not m.control.owed) (refused 3 m room)
    (record { answer = done; demodulator = reply_leaves p m reply; room = room }))

-- ---- the carrier
-- "Carrier detect is yes exactly while the timer is held."
abbrev pub timer_held : Option ℕ → Bool
timer_held timer = is_some timer

unfoldable pub detected : ℕ → SoftDemodulator → Paper
detected p m = cond (not (record_fit_lem p m)) (refusal (bare (unfit_number m))) (carrier (timer_held m.control.dcd))

-- ---- a fresh record
-- A rate that is none is refused too; beside the refusal comes the record, which every call then refuses.
unfoldable pub made : ℕ → Left
made rate = record { answer = cond (rate_fit rate) done (refusal (bare 15)); demodulator = fresh rate; room = [] }

-- ---- what the functions promise: each call is at the record's own rate
pub record NewSays (rate : ℕ) (r : After Unit) : Type 0 where
  pub answers : done_paper r.answer ≡ (made rate).answer
  pub leaves : r.demodulator ≡ (made rate).demodulator

-- what a sample promises at a rate
pub record DemodAt (R : Rate) (m : SoftDemodulator) (x : ℤ) (room : List Float) (r : After (Option Offer)) (after : List Float) : Type 0 where
  pub answers : heard_paper r.answer ≡ (demodulated R m x room).answer
  pub leaves : r.demodulator ≡ (demodulated R m x room).demodulator
  pub writes : after ≡ (demodulated R m x room).room

abbrev pub DemodSays : SoftDemodulator → ℤ → List Float → After (Option Offer) → List Float → Type 0
DemodSays m = DemodAt (rate_of m.rate) m

pub record ReplySays (m : SoftDemodulator) (reply : Reply) (r : After Unit) : Type 0 where
  pub answers : done_paper r.answer ≡ (answered (samples_in_lem m.rate) m reply []).answer
  pub leaves : r.demodulator ≡ (answered (samples_in_lem m.rate) m reply []).demodulator

abbrev pub DataCarrierDetectSays : SoftDemodulator → Result Bool Refusal → Type 0
DataCarrierDetectSays m r = carrier_paper r ≡ detected (samples_in_lem m.rate) m
