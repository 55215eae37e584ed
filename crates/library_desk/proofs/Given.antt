-- The receiver's calls at an open seat: what the receiver's export promises of the seat's part is what the desk's promises of the desk. Assumes nothing.
use mathlib.Core.Path.{◌≡◌, refl, sym, ap, ◌∙◌}
use mathlib.Core.Bool.{Bool, true, false, cond}
use mathlib.Core.List.{List, []}
use Prim.Native.Nat.{ℕ, zero, suc, ◌<◌}
use native.Mathlib.Omega.{arith}
use borrow.Author.Tests.{eqb-true, eqb-false}
use lib.Dec.{eqb}
use lib.IntN.{ℤ}
use lib.ListN.{set}
use lib.Seq.{set-get_or}
use lib.Ieee.{Float}
use Rattle.demodulator.specs.declared.SoftDemodulator.{SoftDemodulator}
use Rattle.demodulator.specs.Calls.{Paper, refusal, nothing, frame, done, carrier, is_refusal}
use Rattle.demodulator.specs.Feed.{Stretch}
use Rattle.demodulator.specs.Singles.{reply, query, left_at}
use Rattle.demodulator_run.specs.Calls.{Call, one, stretch, Told, receiver, record_next, told_by}
use Rattle.desk.specs.Passage.{seat_closed}
use Rattle.desk_run.specs.Seat.{Seat, giving, seat_says, seat_next, with_receiver, turned_away, room_of}
use Rattle.desk_run.specs.Desk.{at, seat_told}
use Rattle.library_layout.specs.Layout.{record_code_lem}
use Rattle.library_receiver.specs.Memory as Receiver
use Rattle.library_receiver.specs.Promises as Promises
use Rattle.library_desk.specs.Memory.{Memory, memory_at, numbers_at, flag_at, part_at, with_part, open_in, receiver_in, seat_in}
use Rattle.library_desk.specs.Passage.{no_desk}
use Rattle.library_desk.specs.Calls.{Export, export_of, coded_as, coded, Says}
use Rattle.library_desk.specs.Calls.{left_at as left_in}
use Rattle.library_desk.proofs.InSeat.{in_seat, put_back, no_desk_lem, recast, by_seat}
use Rattle.library_desk.proofs.Entry.{open_code, gives, read_code}

-- ---- what is laid out in a seat's part after a call is what the desk's machine leaves there
kept_if : (m : Memory) (s : ℕ) (a : Paper) (d : SoftDemodulator)
    → with_part s (Receiver.laid_after a (part_at m s) d) m ≡ cond (is_refusal a) m (with_part s (Receiver.laid_after a (part_at m s) d) m)
kept_if m s (refusal why) d = put_back m s
kept_if m s nothing d = refl
kept_if m s (frame o) d = refl
kept_if m s done d = refl
kept_if m s (carrier there) d = refl

positive : (k : ℕ) → (k ≡ 0 → ⊥) → 0 < k
positive zero differs = absurd (differs refl)
positive (suc k) differs = omega arith

-- the answer and the state of a receiver's call, in one
abbrev pub both : SoftDemodulator → Call → Stretch SoftDemodulator
both d c = record { answer = (receiver.says d c).answer; fed = (receiver.says d c).fed; state = receiver.next d c; room = (receiver.says d c).room }

module _ (m : Memory) (s : ℕ) (l : s < 8) (flag : flag_at m s ≡ 1) where
  abbrev d : SoftDemodulator
  d = receiver_in m s

  abbrev rc : ℕ
  rc = record_code_lem (numbers_at m s)

  is_open : open_in m s ≡ true
  is_open = ap (λ (k : ℕ). eqb k 1) flag

  says_given : (c : Call) → seat_says (seat_in m s) (giving c) ≡ receiver.says d c
  unfolding seat_says
  says_given c = ap (λ (b : Bool). cond b (receiver.says d c) (turned_away seat_closed c)) is_open

  next_given : (c : Call) → seat_next (seat_in m s) (giving c) ≡ with_receiver (receiver.next d c)
  unfolding seat_next
  next_given c = ap (λ (b : Bool). cond b (with_receiver (receiver.next d c)) (seat_in m s)) is_open

  code_is : (c : Call) → no_desk m (at s (giving c)) ≡ rc
  code_is c = read_code m s l (gives c) ∙ open_code (flag_at m s) (numbers_at m s) flag

  left_is : (c : Call) → left_in m s (giving c) ≡ with_part s (Receiver.laid_after (both d c).answer (part_at m s) (both d c).state) m
  left_is c =
      ap (λ (x : Seat). with_part s (Receiver.laid_after (seat_says x (giving c)).answer (part_at m s) (seat_next x (giving c)).receiver) m) (in_seat m s l)
      ∙ (λ i. with_part s (Receiver.laid_after (says_given c i).answer (part_at m s) (next_given c i).receiver) m)

  module _ (c : Call) (e : Receiver.Export) (told : List ℕ) (gain : List Float) (alike : Receiver.called d e ≡ both d c) (lent : Receiver.lent_with e ≡ Receiver.lent_as (room_of c) told gain)
      (code : ℕ) (room' : List Float) (told' : List ℕ) (gain' : List Float) (after : Receiver.Memory)
      (p : Promises.Says (part_at m s) e (Receiver.coded_as code (Receiver.lent_as room' told' gain')) after) where
    abbrev by : Export
    by = export_of (at s (giving c)) told gain []

    abbrev a : Paper
    a = (both d c).answer

    given_by : (b : Bool) → eqb rc 0 ≡ b → Says m by (coded_as code room' told' gain' []) (with_part s after m)
    unfolding Receiver.memory_says Receiver.memory_next
    given_by true good =
        let said : Receiver.coded_as code (Receiver.lent_as room' told' gain') ≡ Receiver.coded e (Receiver.called d e)
        = p.answers ∙ ap (λ (b : Bool). cond b (Receiver.coded e (Receiver.called d e)) (Receiver.coded_as rc (Receiver.lent_with e))) good in
        let told-so = said ∙ (λ i. Receiver.coded_as (Receiver.paper_code (alike i).answer) (Receiver.lent_after (alike i) (lent i))) in
        let laid : after ≡ Receiver.laid_after a (part_at m s) (both d c).state
        = p.leaves ∙ ap (λ (b : Bool). cond b (Receiver.laid_after (Receiver.called d e).answer (part_at m s) (Receiver.called d e).state) (part_at m s)) good
        ∙ ap (λ (x : Stretch SoftDemodulator). Receiver.laid_after x.answer (part_at m s) x.state) alike in
        recast (by_seat m s told gain [] l (giving c) (code_is c ∙ eqb-true rc 0 good))
        ((λ i. coded_as (told-so i).code (told-so i).lent.room (told-so i).lent.told (told-so i).lent.gain []) ∙ sym (ap (λ (t : Told). coded by (seat_told t)) (says_given c)))
        (ap (λ (x : Receiver.Memory). with_part s x m) laid ∙ kept_if m s a (both d c).state
        ∙ sym ((λ i. cond (is_refusal (says_given c i).answer) m (left_in m s (giving c))) ∙ ap (λ (x : Memory). cond (is_refusal a) m x) (left_is c)))
    given_by false bad =
        let some : 0 < rc = positive rc (eqb-false rc 0 bad) in
        let said : Receiver.coded_as code (Receiver.lent_as room' told' gain') ≡ Receiver.coded_as rc (Receiver.lent_as (room_of c) told gain)
        = p.answers ∙ ap (λ (b : Bool). cond b (Receiver.coded e (Receiver.called d e)) (Receiver.coded_as rc (Receiver.lent_with e))) bad ∙ ap (Receiver.coded_as rc) lent in
        let kept : after ≡ part_at m s
        = p.leaves ∙ ap (λ (b : Bool). cond b (Receiver.laid_after (Receiver.called d e).answer (part_at m s) (Receiver.called d e).state) (part_at m s)) bad in
        recast (no_desk_lem m by rc (code_is c) some)
        (λ i. coded_as (said i).code (said i).lent.room (said i).lent.told (said i).lent.gain [])
        (ap (λ (x : Receiver.Memory). with_part s x m) kept ∙ put_back m s)

    given_says : Says m by (coded_as code room' told' gain' []) (with_part s after m)
    given_says = given_by (eqb rc 0) refl

  -- ---- the three
  pub FeedSays : (xs : List ℤ) (room : List Float) (told : List ℕ) (gain : List Float) (code : ℕ) (room' : List Float) (told' : List ℕ) (gain' : List Float) (after : Receiver.Memory)
      → Promises.M17ReceiverFeedSays (part_at m s) xs (Receiver.lent_as room told gain) code after (Receiver.lent_as room' told' gain')
      → Says m (export_of (at s (giving (stretch xs room))) told gain []) (coded_as code room' told' gain' []) (with_part s after m)
  unfolding Receiver.called told_by record_next
  FeedSays xs room told gain code room' told' gain' after p =
      given_says (stretch xs room) (Receiver.feeds xs (Receiver.lent_as room told gain)) told gain refl refl code room' told' gain' after p

  pub ReplySays : (accepted code : ℕ) (n' : List ℕ) (l' : List Float)
      → Promises.M17ReceiverReplySays (part_at m s) accepted code (Receiver.memory_at (part_at m s).window (part_at m s).ring n' l')
      → Says m (export_of (at s (giving (one (reply (Receiver.reply_of accepted))))) [] [] []) (coded_as code [] [] [] [])
      (memory_at m.windows m.rings (set m.numbers s n') (set m.levels s l') m.opened)
  unfolding Receiver.called told_by record_next left_at
  ReplySays accepted code n' l' p =
      let w = sym (set-get_or m.windows s []) in
      let f = sym (set-get_or m.rings s []) in
      let k = given_says (one (reply (Receiver.reply_of accepted))) (Receiver.replies accepted) [] [] refl refl code [] [] [] _ p in
      recast k refl (λ i. memory_at (w i) (f i) (set m.numbers s n') (set m.levels s l') m.opened)

  pub carrier_says : (code : ℕ) → Promises.M17ReceiverCarrierSays (part_at m s).window (part_at m s).numbers (part_at m s).levels code
      → Says m (export_of (at s (giving (one query))) [] [] []) (coded_as code [] [] [] []) m
  unfolding Receiver.called told_by record_next left_at
  carrier_says code p =
      recast (given_says (one query) Receiver.asks [] [] refl refl code [] [] [] (part_at m s) (p (part_at m s).ring)) refl (sym (put_back m s))
