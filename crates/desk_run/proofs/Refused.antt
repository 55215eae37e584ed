-- "Every refusal returns its number only, with record and buffers as they were": of a seat and of the desk, whatever they hold. Assumes nothing.
use mathlib.Core.Path.{◌≡◌, refl, sym, ap, ◌∙◌, subst}
use mathlib.Core.Bool.{Bool, true, false, not, cond}
use mathlib.Core.List.{List}
use Prim.Native.Nat.{ℕ}
use lib.Dec.{T, ltb}
use lib.Ieee.{Float}
use Rattle.shaping.specs.Rate.{rate_of, rate_fit}
use Rattle.protocol.specs.Refusals.{PaperRefusal, bare}
use Rattle.demodulator.specs.Calls.{Paper, refusal, done, is_refusal, made}
use Rattle.demodulator_run.specs.Rules.{sample, reply, query}
use Rattle.demodulator_run.specs.Calls.{Call, one, stretch, Told, receiver}
use Rattle.demodulator_run.proofs.Refused.{lent_with, refused_record}
use Rattle.desk.specs.declared.Desk.{Desk}
use Rattle.desk.specs.Passage.{seat_closed, seat_is_open}
use Rattle.desk_run.specs.Seat.{Seat, SeatCall, opening, giving, closing, seat_says, seat_next, started, with_receiver, told, turned_away, fit, room_of, room_for}
use Rattle.desk_run.specs.Desk.{DeskCall, at, listing, seat_told, seat_of, with_seat, desk_says, desk_next, outside, RefusedBy}
use Rattle.desk_run.proofs.SeatRun.{put_back}

done_not : {A : Type 0} (why : PaperRefusal) → done ≡ refusal why → A
done_not why e = absurd (subst T (sym (ap is_refusal e)) tt)

-- "its number only"
abbrev only : PaperRefusal → List Float → Told
only why room = record { answer = refusal why; fed = 0; room = room }

same_room : (c : Call) → lent_with c ≡ room_of c
same_room (one (sample x room)) = refl
same_room (one (reply r)) = refl
same_room (one query) = refl
same_room (stretch xs room) = refl

-- ---- a seat
module _ (s : Seat) (why : PaperRefusal) where
  open_kept : (b f : Bool) (x : Seat) → cond b seat_is_open (cond f done (refusal (bare 15))) ≡ refusal why → cond b s (cond f x s) ≡ s
  open_kept true f x e = refl
  open_kept false true x e = done_not why e
  open_kept false false x e = refl

  close_kept : (b f : Bool) (x : Seat) (n : ℕ) → cond b (cond f done (refusal (bare n))) seat_closed ≡ refusal why → cond b (cond f x s) s ≡ s
  close_kept true true x n e = done_not why e
  close_kept true false x n e = refl
  close_kept false f x n e = refl

  give_kept : (c : Call) (b : Bool) (t : Told) → s.opened ≡ b → (cond b (receiver.says s.receiver c) t).answer ≡ refusal why
      → cond b (with_receiver (receiver.next s.receiver c)) s ≡ s
  give_kept c true t o e =
      let p = sym o in
      let k = (refused_record (rate_of s.receiver.rate) s.receiver c why e).0 in
      λ i. record { opened = p i; receiver = k i }
  give_kept c false t o e = refl

  pub seat_kept : (c : SeatCall) → (seat_says s c).answer ≡ refusal why → seat_next s c ≡ s
  unfolding seat_says seat_next made
  seat_kept (opening rate) e = open_kept s.opened (rate_fit rate) (started rate) e
  seat_kept (giving c) e = give_kept c s.opened _ refl e
  seat_kept closing e = close_kept s.opened (fit s.receiver) _ _ e

  give_only : (c : Call) (b : Bool) → (cond b (receiver.says s.receiver c) (turned_away seat_closed c)).answer ≡ refusal why
      → cond b (receiver.says s.receiver c) (turned_away seat_closed c) ≡ only why (room_of c)
  give_only c true e = (refused_record (rate_of s.receiver.rate) s.receiver c why e).1 ∙ ap (only why) (same_room c)
  give_only c false e = λ i. record { answer = e i; fed = 0; room = room_of c }

  pub seat_only : (c : SeatCall) → (seat_says s c).answer ≡ refusal why → seat_says s c ≡ only why (room_for c)
  unfolding seat_says
  seat_only (opening rate) e = ap told e
  seat_only (giving c) e = give_only c s.opened e
  seat_only closing e = ap told e

-- ---- the desk
kept_at : (d : Desk) (t : ℕ) (c : SeatCall) (why : PaperRefusal) (b : Bool) → (cond b (outside c) (seat_says (seat_of d t) c)).answer ≡ refusal why
    → cond b d (with_seat t (seat_next (seat_of d t) c) d) ≡ d
kept_at d t c why true e = refl
kept_at d t c why false e = ap (λ (x : Seat). with_seat t x d) (seat_kept (seat_of d t) why c e) ∙ put_back d t

-- a refused call leaves the desk as it was
pub desk_kept : (d : Desk) (c : DeskCall) (why : PaperRefusal) → RefusedBy (desk_says d c) why → desk_next d c ≡ d
unfolding desk_says desk_next RefusedBy
desk_kept d (at t c) why e = kept_at d t c why (ltb 7 t) e
desk_kept d listing why e = refl

outside_only : (c : SeatCall) (why : PaperRefusal) → (outside c).answer ≡ refusal why → outside c ≡ only why (room_for c)
outside_only (opening rate) why e = ap told e
outside_only (giving c) why e = λ i. record { answer = e i; fed = 0; room = room_of c }
outside_only closing why e = ap told e

only_at : (d : Desk) (s : ℕ) (c : SeatCall) (why : PaperRefusal) (b : Bool) → (cond b (outside c) (seat_says (seat_of d s) c)).answer ≡ refusal why
    → cond b (outside c) (seat_says (seat_of d s) c) ≡ only why (room_for c)
only_at d s c why true e = outside_only c why e
only_at d s c why false e = seat_only (seat_of d s) why c e

-- and it is answered with its number only: no sample is counted, and the room is as it was
pub number_only : (d : Desk) (s : ℕ) (c : SeatCall) (why : PaperRefusal) → RefusedBy (desk_says d (at s c)) why → desk_says d (at s c) ≡ seat_told (only why (room_for c))
unfolding desk_says RefusedBy
number_only d s c why e = ap seat_told (only_at d s c why (ltb 7 s) e)
