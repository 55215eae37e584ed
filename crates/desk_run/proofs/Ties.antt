-- What each function promises is what the desk machine says and leaves, whatever the desk: so the theorems over lists of calls are about what the functions do. Assumes nothing.
use Rattle.std.specs.Prelude.{Option, Result}
use Rattle.protocol.specs.declared.Refusal.{Refusal}
use mathlib.Core.Path.{◌≡◌, refl, sym, ap, ◌∙◌}
use mathlib.Core.Bool.{Bool, true, false, not, cond}
use mathlib.Core.List.{List, []}
use Prim.Native.Nat.{ℕ}
use lib.Dec.{ltb}
use lib.IntN.{ℤ}
use lib.ListN.{set}
use lib.Seq.{set-get_or}
use lib.Ieee.{Float}
use Rattle.shaping.specs.Rate.{rate_fit, samples_in_lem}
use Rattle.protocol.specs.Refusals.{bare}
use Rattle.search.specs.declared.Reply.{Reply}
use Rattle.demodulator.specs.declared.SoftDemodulator.{SoftDemodulator}
use Rattle.demodulator.specs.Fit.{fit_for_reply_lem, unfit_number}
use Rattle.demodulator.specs.Calls.{Paper, refusal, done, done_paper, heard_paper, carrier_paper, made, refused, answered}
use Rattle.demodulator_run.specs.Rules.{reply, query}
use Rattle.demodulator_run.specs.Run.{left_at}
use Rattle.demodulator_run.specs.Calls.{Call, one, stretch, Told, receiver, record_next, told_by}
use Rattle.desk.specs.declared.Desk.{Desk}
use Rattle.desk.specs.declared.Fed.{Fed}
use Rattle.desk.specs.declared.Line.{Line}
use Rattle.desk.specs.Desk as D
use Rattle.desk.specs.Desk.{is_open, receiver_at, shut_at, blank}
use Rattle.desk.specs.Passage.{Entered, turned, goes, entered, no_such_seat, seat_closed}
use Rattle.desk.specs.Calls.{SeatFed, fed_by, DeskFeedSays, replied_by, DeskReplySays, open_answer, open_leaves, DeskOpenSays, closed_by, seat_fit, DeskCloseSays, detected_by, DeskCarrierSays}
use Rattle.desk.specs.Listing.{listed_paper, DeskListSays}
use Rattle.desk_run.specs.Seat.{opening, giving, closing, seat_says, seat_next, started, with_receiver, told, turned_away}
use Rattle.desk_run.specs.Desk.{DeskCall, at, listing, DeskTold, seat_told, list_told_lem, seat_of, with_seat, desk_says, desk_next, outside}
use Rattle.desk_run.proofs.SeatRun.{put_back}

-- what is answered, and what is left
abbrev Tied : Desk → DeskCall → DeskTold → Desk → Type 0
Tied d c a next = (a ≡ desk_says d c) × (next ≡ desk_next d c)

abbrev by : Bool → Bool → Entered
by far is = cond far (turned no_such_seat) (cond is goes (turned seat_closed))

-- no room is lent with a reply
room_by : (unfit idle : Bool) (m after : SoftDemodulator)
    → (cond unfit (refused (unfit_number m) m []) (cond idle (refused 3 m []) (record { answer = done; demodulator = after; room = [] }))).room ≡ []
room_by true idle m after = refl
room_by false true m after = refl
room_by false false m after = refl

reply_room : (p : ℕ) (m : SoftDemodulator) (rp : Reply) → (answered p m rp []).room ≡ []
unfolding answered
reply_room p m rp = room_by (not (fit_for_reply_lem p m)) (not m.control.owed) m _

module _ (d : Desk) (s : ℕ) where
  -- a receiver that is put into an open seat
  in_open : (m : SoftDemodulator) → is_open d.opened s ≡ true → D.with_receiver s m d ≡ with_seat s (with_receiver m) d
  in_open m o =
      let p : d.opened ≡ set d.opened s true = sym (ap (set d.opened s) (sym o) ∙ set-get_or d.opened s false) in
      λ i. record { opened = p i; receivers = set d.receivers s m }

  -- ---- a call that goes to the receiver
  module _ (c : Call) (tells : Entered → Told) (leaves : Entered → Desk)
      (tells-far : tells (turned no_such_seat) ≡ outside (giving c)) (tells-shut : tells (turned seat_closed) ≡ turned_away seat_closed c) (tells-goes : tells goes ≡ receiver.says (receiver_at d s) c)
      (leaves-turned : (why : Paper) → leaves (turned why) ≡ d) (leaves-goes : leaves goes ≡ D.with_receiver s (receiver.next (receiver_at d s) c) d) where
    tells_by : (far is : Bool) → tells (by far is) ≡ cond far (outside (giving c)) (cond is (receiver.says (receiver_at d s) c) (turned_away seat_closed c))
    tells_by true is = tells-far
    tells_by false true = tells-goes
    tells_by false false = tells-shut

    leaves_by : (far is : Bool) → is_open d.opened s ≡ is → leaves (by far is) ≡ cond far d (with_seat s (cond is (with_receiver (receiver.next (receiver_at d s) c)) (seat_of d s)) d)
    leaves_by true is o = leaves-turned no_such_seat
    leaves_by false true o = leaves-goes ∙ in_open (receiver.next (receiver_at d s) c) o
    leaves_by false false o = leaves-turned seat_closed ∙ sym (put_back d s)

    given_tied : Tied d (at s (giving c)) (seat_told (tells (entered d.opened s))) (leaves (entered d.opened s))
    unfolding entered desk_says desk_next seat_says seat_next
    given_tied = (ap seat_told (tells_by (ltb 7 s) (is_open d.opened s)), leaves_by (ltb 7 s) (is_open d.opened s) refl)

  -- ---- feed
  module _ (xs : List ℤ) (room : List Float) where
    abbrev fed_told : SeatFed → Told
    fed_told f = record { answer = f.answer; fed = f.fed; room = f.room }

    fed_tied : Tied d (at s (giving (stretch xs room))) (seat_told (fed_told (fed_by d s xs room (entered d.opened s)))) (fed_by d s xs room (entered d.opened s)).desk
    unfolding told_by record_next
    fed_tied = given_tied (stretch xs room) (λ e. fed_told (fed_by d s xs room e)) (λ e. (fed_by d s xs room e).desk) refl refl refl (λ why. refl) refl

    pub feed_tied : (r : Fed) (next : Desk) (after : List Float) → DeskFeedSays d s xs room r next after
        → Tied d (at s (giving (stretch xs room))) (seat_told (record { answer = heard_paper r.answer; fed = r.fed; room = after })) next
    feed_tied r next after p =
        let a = p.answers in
        let n = p.counts in
        let w = p.writes in
        let same : ◌≡◌ {A = Told} (record { answer = heard_paper r.answer; fed = r.fed; room = after }) (fed_told (fed_by d s xs room (entered d.opened s))) = λ i. record { answer = a i; fed = n i; room = w i } in
        (ap seat_told same ∙ fed_tied.0, p.leaves ∙ fed_tied.1)

  -- ---- reply
  pub reply_tied : (rp : Reply) (r : Result Unit Refusal) (next : Desk) → DeskReplySays d s rp r next → Tied d (at s (giving (one (reply rp)))) (seat_told (told (done_paper r))) next
  unfolding told_by record_next left_at
  reply_tied rp r next p =
      let m = receiver_at d s in
      let none = sym (reply_room (samples_in_lem m.rate) m rp) in
      let k = given_tied (one (reply rp)) (λ e. told (replied_by d s rp e).answer) (λ e. (replied_by d s rp e).desk) refl refl (λ i. record { answer = (answered (samples_in_lem m.rate) m rp []).answer; fed = 0; room = none i }) (λ why. refl) refl in
      (ap (λ (x : Paper). seat_told (told x)) p.answers ∙ k.0, p.leaves ∙ k.1)

  -- ---- the carrier query: the desk is lent to be read, and stays
  pub carrier_tied : (r : Result Bool Refusal) → DeskCarrierSays d s r → Tied d (at s (giving (one query))) (seat_told (told (carrier_paper r))) d
  unfolding told_by record_next left_at
  carrier_tied r p =
      let kept = sym (set-get_or d.receivers s blank) in
      let k = given_tied (one query) (λ e. told (detected_by d s e)) (λ e. d) refl refl refl (λ why. refl) (λ i. record { opened = d.opened; receivers = kept i }) in
      (ap (λ (x : Paper). seat_told (told x)) p ∙ k.0, k.1)

  told_by_lem : (far : Bool) (a b : Paper) → told (cond far a b) ≡ cond far (told a) (told b)
  told_by_lem true a b = refl
  told_by_lem false a b = refl

  -- ---- open
  module _ (rate : ℕ) where
    open_by : (far is f : Bool) → cond far d (cond is d (cond f (D.started s rate d) d)) ≡ cond far d (with_seat s (cond is (seat_of d s) (cond f (started rate) (seat_of d s))) d)
    open_by true is f = refl
    open_by false true f = sym (put_back d s)
    open_by false false true = refl
    open_by false false false = sym (put_back d s)

    pub open_tied : (r : Result Unit Refusal) (next : Desk) → DeskOpenSays d s rate r next → Tied d (at s (opening rate)) (seat_told (told (done_paper r))) next
    unfolding open_answer open_leaves desk_says desk_next seat_says seat_next made
    open_tied r next p = (
      ap (λ (x : Paper). seat_told (told x)) p.answers ∙ ap seat_told (told_by_lem (ltb 7 s) no_such_seat _),
      p.leaves ∙ open_by (ltb 7 s) (is_open d.opened s) (rate_fit rate),
    )

  -- ---- close
  shut_by : (f : Bool) → cond f (shut_at s d) d ≡ with_seat s (cond f (record { opened = false; receiver = receiver_at d s }) (seat_of d s)) d
  shut_by true = let kept = sym (set-get_or d.receivers s blank) in λ i. record { opened = set d.opened s false; receivers = kept i }
  shut_by false = sym (put_back d s)

  close_says_by : (far is : Bool) → told (closed_by d s (by far is)).answer ≡ cond far (told no_such_seat) (told (cond is (cond (seat_fit d s) done (refusal (bare (unfit_number (receiver_at d s))))) seat_closed))
  close_says_by true is = refl
  close_says_by false true = refl
  close_says_by false false = refl

  close_leaves_by : (far is : Bool) → (closed_by d s (by far is)).desk ≡ cond far d (with_seat s (cond is (cond (seat_fit d s) (record { opened = false; receiver = receiver_at d s }) (seat_of d s)) (seat_of d s)) d)
  close_leaves_by true is = refl
  close_leaves_by false true = shut_by (seat_fit d s)
  close_leaves_by false false = sym (put_back d s)

  pub close_tied : (r : Result Unit Refusal) (next : Desk) → DeskCloseSays d s r next → Tied d (at s closing) (seat_told (told (done_paper r))) next
  unfolding entered desk_says desk_next seat_says seat_next
  close_tied r next p = (
    ap (λ (x : Paper). seat_told (told x)) p.answers ∙ ap seat_told (close_says_by (ltb 7 s) (is_open d.opened s)),
    p.leaves ∙ close_leaves_by (ltb 7 s) (is_open d.opened s),
  )

-- ---- the listing
pub list_tied : (d : Desk) (r : Result (List (Option Line)) Refusal) → DeskListSays d r → Tied d listing (list_told_lem (listed_paper r)) d
unfolding desk_says desk_next
list_tied d r p = (ap list_told_lem p, refl)
