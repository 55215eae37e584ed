-- What a call for a seat answers and leaves: "Open, feed, reply, close", and the receiver's query of the carrier. Assumes nothing.
use Rattle.protocol.specs.declared.Refusal.{Refusal}
use Rattle.std.specs.Prelude.{◌≡◌, Bool, cond, List, [], ℕ, ltb, ℤ, Float, Result}
use Rattle.shaping.specs.Rate.{rate_of, rate_fit, samples_in_lem}
use Rattle.protocol.specs.Refusals.{bare}
use Rattle.search.specs.declared.Reply.{Reply}
use Rattle.demodulator.specs.declared.SoftDemodulator.{SoftDemodulator}
use Rattle.demodulator.specs.Fit.{record_fit_lem, unfit_number}
use Rattle.demodulator.specs.Calls.{Paper, refusal, done, heard_paper, done_paper, carrier_paper, Left, answered, detected}
use Rattle.demodulator.specs.Feed.{Stretch, fed_into}
use Rattle.desk.specs.declared.Desk.{Desk}
use Rattle.desk.specs.declared.Fed.{Fed}
use Rattle.desk.specs.declared.exercise.After.{After}
use Rattle.desk.specs.Desk.{is_open, receiver_at, with_receiver, started, shut_at}
use Rattle.desk.specs.Passage.{no_such_seat, seat_is_open, Entered, turned, goes, entered}

-- ---- feed: the samples go to the seat's receiver, and its answer, count and room are the call's
pub record SeatFed : Type 0 where
  pub answer : Paper
  pub fed : ℕ
  pub desk : Desk
  pub room : List Float

abbrev pub fed_at : Desk → ℕ → Stretch SoftDemodulator → SeatFed
fed_at d s f = record { answer = f.answer; fed = f.fed; desk = with_receiver s f.state d; room = f.room }

abbrev pub fed_by : Desk → ℕ → List ℤ → List Float → Entered → SeatFed
fed_by d s xs room (turned why) = record { answer = why; fed = 0; desk = d; room = room }
fed_by d s xs room goes = fed_at d s (fed_into (rate_of (receiver_at d s).rate) (receiver_at d s) xs room)

abbrev pub seat_fed : Desk → ℕ → List ℤ → List Float → SeatFed
seat_fed d s xs room = fed_by d s xs room (entered d.opened s)

pub record DeskFeedSays (d : Desk) (s : ℕ) (xs : List ℤ) (room : List Float) (r : Fed) (next : Desk) (after : List Float) : Type 0 where
  pub answers : heard_paper r.answer ≡ (seat_fed d s xs room).answer
  pub counts : r.fed ≡ (seat_fed d s xs room).fed
  pub leaves : next ≡ (seat_fed d s xs room).desk
  pub writes : after ≡ (seat_fed d s xs room).room

-- ---- reply
pub record SeatLeft : Type 0 where
  pub answer : Paper
  pub desk : Desk

abbrev pub reply_at : Desk → ℕ → Left → SeatLeft
reply_at d s l = record { answer = l.answer; desk = with_receiver s l.demodulator d }

abbrev pub replied_by : Desk → ℕ → Reply → Entered → SeatLeft
replied_by d s reply (turned why) = record { answer = why; desk = d }
replied_by d s reply goes = reply_at d s (answered (samples_in_lem (receiver_at d s).rate) (receiver_at d s) reply [])

abbrev pub seat_replied : Desk → ℕ → Reply → SeatLeft
seat_replied d s reply = replied_by d s reply (entered d.opened s)

pub record DeskReplySays (d : Desk) (s : ℕ) (reply : Reply) (r : Result Unit Refusal) (next : Desk) : Type 0 where
  pub answers : done_paper r ≡ (seat_replied d s reply).answer
  pub leaves : next ≡ (seat_replied d s reply).desk

-- ---- open: "Open states the rate and checks no record"; 18, 20, then 15
unfoldable pub open_answer : Desk → ℕ → ℕ → Paper
open_answer d s rate = cond (ltb 7 s) no_such_seat (cond (is_open d.opened s) seat_is_open (cond (rate_fit rate) done (refusal (bare 15))))

unfoldable pub open_leaves : Desk → ℕ → ℕ → Desk
open_leaves d s rate = cond (ltb 7 s) d (cond (is_open d.opened s) d (cond (rate_fit rate) (started s rate d) d))

pub record Opens (d : Desk) (s rate : ℕ) (r : After) : Type 0 where
  pub answers : done_paper r.answer ≡ open_answer d s rate
  pub leaves : r.desk ≡ open_leaves d s rate

abbrev pub DeskOpenSays : Desk → ℕ → ℕ → Result Unit Refusal → Desk → Type 0
DeskOpenSays d s rate r next = Opens d s rate (record { answer = r; desk = next })

-- ---- close: "the others only their own seat's"; "a call that gives neither tests no filtered value"
abbrev pub seat_fit : Desk → ℕ → Bool
seat_fit d s = record_fit_lem (samples_in_lem (receiver_at d s).rate) (receiver_at d s)

abbrev pub closed_by : Desk → ℕ → Entered → SeatLeft
closed_by d s (turned why) = record { answer = why; desk = d }
closed_by d s goes = record {
  answer = cond (seat_fit d s) done (refusal (bare (unfit_number (receiver_at d s))));
  desk = cond (seat_fit d s) (shut_at s d) d;
}

abbrev pub seat_shut : Desk → ℕ → SeatLeft
seat_shut d s = closed_by d s (entered d.opened s)

pub record Closes (d : Desk) (s : ℕ) (r : After) : Type 0 where
  pub answers : done_paper r.answer ≡ (seat_shut d s).answer
  pub leaves : r.desk ≡ (seat_shut d s).desk

abbrev pub DeskCloseSays : Desk → ℕ → Result Unit Refusal → Desk → Type 0
DeskCloseSays d s r next = Closes d s (record { answer = r; desk = next })

-- ---- the query of the carrier
abbrev pub detected_by : Desk → ℕ → Entered → Paper
detected_by d s (turned why) = why
detected_by d s goes = detected (samples_in_lem (receiver_at d s).rate) (receiver_at d s)

abbrev pub DeskCarrierSays : Desk → ℕ → Result Bool Refusal → Type 0
DeskCarrierSays d s r = carrier_paper r ≡ detected_by d s (entered d.opened s)
