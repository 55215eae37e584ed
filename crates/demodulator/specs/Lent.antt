-- A call over a window and a ring that the caller lends promises what the call on the record does, of the record that the parts make. Assumes nothing.
use Rattle.demodulator.specs.declared.After.{After}
use Rattle.demodulator.specs.declared.Offer.{Offer}
use Rattle.protocol.specs.declared.Refusal.{Refusal}
use Rattle.std.specs.Prelude.{List, ℕ, ℤ, Float, Bool, Option, Result}
use Rattle.search.specs.declared.Control.{Control}
use Rattle.search.specs.declared.Reply.{Reply}
use Rattle.demodulator.specs.declared.AfterStretch.{AfterStretch}
use Rattle.demodulator.specs.declared.lent.FedLent.{FedLent}
use Rattle.demodulator.specs.declared.lent.RepliedLent.{RepliedLent}
use Rattle.demodulator.specs.Record.{assembled}
use Rattle.demodulator.specs.Calls.{ReplySays, DataCarrierDetectSays}
use Rattle.demodulator.specs.Feed.{FeedSays}

-- "with record and buffers as they were": no sample went in
abbrev pub kept_parts : Result (Option Offer) Refusal → ℕ → ℕ → Control → FedLent
kept_parts answer windowCursor ringCursor c =
    record { answer = answer; fed = 0; filter_cursor = windowCursor; rx_cursor = ringCursor; control = c }

-- what a stretch leaves, with the window and the ring as they are lent
abbrev pub stretch_of : ℕ → List ℤ → List Float → FedLent → AfterStretch
stretch_of rate window ring r =
    record { answer = r.answer; fed = r.fed; demodulator = assembled rate window r.filter_cursor ring r.rx_cursor r.control }

-- what a reply leaves: of the record the control alone changes
abbrev pub reply_of : ℕ → List ℤ → List Float → ℕ → ℕ → RepliedLent → After Unit
reply_of rate window ring windowCursor ringCursor r =
    record { answer = r.answer; demodulator = assembled rate window windowCursor ring ringCursor r.control }

-- ---- what the functions promise: window, ring and room after the call are the last three
abbrev pub FeedLentSays : ℕ → List ℤ → List Float → ℕ → ℕ → Control → List ℤ → List Float
    → FedLent → List ℤ → List Float → List Float → Type 0
FeedLentSays rate window ring windowCursor ringCursor c xs room r window' ring' room' =
    FeedSays (assembled rate window windowCursor ring ringCursor c) xs room (stretch_of rate window' ring' r) room'

abbrev pub ReplyLentSays : ℕ → List ℤ → List Float → ℕ → ℕ → Control → Reply → RepliedLent → Type 0
ReplyLentSays rate window ring windowCursor ringCursor c reply r =
    ReplySays (assembled rate window windowCursor ring ringCursor c) reply (reply_of rate window ring windowCursor ringCursor r)

-- "Carrier detect is yes exactly while the timer is held": the ring is not asked for, and the answer is the same whatever it holds
abbrev pub CarrierLentSays : ℕ → List ℤ → ℕ → ℕ → Control → Result Bool Refusal → Type 0
CarrierLentSays rate window windowCursor ringCursor c r =
    (ring : List Float) → DataCarrierDetectSays (assembled rate window windowCursor ring ringCursor c) r
