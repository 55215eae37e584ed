-- An open and a close: what their exports promise. Assumes nothing.
use mathlib.Core.Path.{◌≡◌, refl, sym, ap, ◌∙◌}
use mathlib.Core.Bool.{Bool, true, false, not, cond}
use mathlib.Core.List.{[]}
use Prim.Native.Nat.{ℕ, zero, suc, ◌≤◌, ◌<◌}
use native.Mathlib.Omega.{arith}
use borrow.Author.Tests.{lt-ltb, le-ltb, eqb-true, eq-eqb}
use lib.Dec.{ltb, eqb}
use Rattle.shaping.specs.Rate.{rate_fit, samples_in_lem}
use Rattle.protocol.specs.Refusals.{bare}
use Rattle.demodulator.specs.declared.SoftDemodulator.{SoftDemodulator}
use Rattle.demodulator.specs.Record.{fresh}
use Rattle.demodulator.specs.Fit.{record_fit_lem, unfit_number}
use Rattle.demodulator.specs.Calls.{Paper, refusal, done, carrier, is_refusal, timer_held, made, detected}
use Rattle.demodulator.specs.Singles.{left_at}
use Rattle.desk.specs.Passage.{seat_closed, seat_is_open}
use Rattle.desk_run.specs.Seat.{opening, closing, seat_says, told, fit}
use Rattle.desk_run.specs.Desk.{at, seat_told}
use Rattle.library_codes.specs.Codes.{refusal_code, flag_number}
use Rattle.library_layout.specs.Layout.{record_code_lem}
use Rattle.library_layout.proofs.RecordCode.{code_tells, code_none}
use Rattle.library_receiver.specs.Memory as Receiver
use Rattle.library_receiver.specs.Promises as Promises
use Rattle.library_desk.specs.Memory.{Memory, numbers_at, flag_at, part_at, with_part, with_flag, open_in, receiver_in, seat_in}
use Rattle.library_desk.specs.Passage.{no_desk}
use Rattle.library_desk.specs.Listing.{asked_code}
use Rattle.library_desk.specs.Calls.{Export, export_of, coded_as, coded, Says}
use Rattle.library_desk.proofs.InSeat.{put_back, no_desk_lem, recast, refused, admitted}
use Rattle.library_desk.proofs.Entry.{open_code, closes, read_code}

pub zero_flag : (flag : ℕ) → flag ≤ 1 → (flag ≡ 1 → ⊥) → flag ≡ 0
zero_flag zero few other = refl
zero_flag (suc zero) few other = absurd (other refl)
zero_flag (suc (suc k)) few other = absurd (omega arith)

-- ---- an open
module _ (m : Memory) (s : ℕ) (l : s < 8) (rate : ℕ) where
  abbrev e : Export
  e = export_of (at s (opening rate)) [] [] []

  code_by : (b : Bool) → ltb 1 (flag_at m s) ≡ b → no_desk m (at s (opening rate)) ≡ cond b 101 0
  unfolding no_desk
  code_by b far = let low = le-ltb 7 s (omega arith) in λ i. cond (low i) 0 (cond (far i) 101 0)

  pub open_stray : 1 < flag_at m s → Says m e (coded_as 101 [] [] [] []) m
  open_stray far = no_desk_lem m e 101 (code_by true (lt-ltb 1 (flag_at m s) far)) (omega arith)

  abbrev By : Bool → Bool → Paper
  By is fits = cond is seat_is_open (cond fits done (refusal (bare 15)))

  says_by : (is fits : Bool) → open_in m s ≡ is → rate_fit rate ≡ fits → seat_says (seat_in m s) (opening rate) ≡ told (By is fits)
  unfolding seat_says made
  says_by is fits o r = λ i. told (By (o i) (r i))

  pub open_open : flag_at m s ≡ 1 → Says m e (coded_as 120 [] [] [] []) m
  open_open flag =
      refused m s [] [] [] l (opening rate) (code_by false (le-ltb 1 (flag_at m s) (omega (arith, flag)))) (bare 20)
      (λ i. (says_by true (rate_fit rate) (ap (λ (k : ℕ). eqb k 1) flag) refl i).answer)

  module _ (flag : flag_at m s ≡ 0) (code : ℕ) (after : Receiver.Memory) (p : Promises.M17ReceiverNewSays (part_at m s) rate code after) where
    is_desk : no_desk m (at s (opening rate)) ≡ 0
    is_desk = code_by false (le-ltb 1 (flag_at m s) (omega (arith, flag)))

    said : (fits : Bool) → rate_fit rate ≡ fits → seat_says (seat_in m s) (opening rate) ≡ told (By false fits)
    said fits r = says_by false fits (ap (λ (k : ℕ). eqb k 1) flag) r

    open_refused_by : (fits : Bool) → rate_fit rate ≡ fits → 100 ≤ code → Says m e (coded_as code [] [] [] []) (with_part s after m)
    open_refused_by true r big =
        let z : code ≡ 0 = p.answers ∙ ap (λ (b : Bool). cond b 0 115) r in
        absurd (omega (arith, z, big))
    open_refused_by false r big =
        let z : code ≡ 115 = p.answers ∙ ap (λ (b : Bool). cond b 0 115) r in
        let kept : after ≡ part_at m s = p.leaves ∙ ap (λ (b : Bool). cond b (Receiver.laid_out (fresh rate)) (part_at m s)) r in
        recast (refused m s [] [] [] l (opening rate) is_desk (bare 15) (λ i. (said false r i).answer))
        (λ i. coded_as (z i) [] [] [] []) (ap (λ (x : Receiver.Memory). with_part s x m) kept ∙ put_back m s)

    pub open_refused : 100 ≤ code → Says m e (coded_as code [] [] [] []) (with_part s after m)
    open_refused big = open_refused_by (rate_fit rate) refl big

    open_done_by : (fits : Bool) → rate_fit rate ≡ fits → code < 100 → Says m e (coded_as 0 [] [] [] []) (with_flag s 1 (with_part s after m))
    open_done_by true r few =
        let laid : after ≡ Receiver.laid_out (fresh rate) = p.leaves ∙ ap (λ (b : Bool). cond b (Receiver.laid_out (fresh rate)) (part_at m s)) r in
        let t = said true r in
        recast (admitted m s [] [] [] l (opening rate) is_desk (λ i. is_refusal (t i).answer))
        (sym (λ i. coded e (seat_told (t i)))) (ap (λ (x : Receiver.Memory). with_flag s 1 (with_part s x m)) laid)
    open_done_by false r few =
        let z : code ≡ 115 = p.answers ∙ ap (λ (b : Bool). cond b 0 115) r in
        absurd (omega (arith, z, few))

    pub open_done : code < 100 → Says m e (coded_as 0 [] [] [] []) (with_flag s 1 (with_part s after m))
    open_done few = open_done_by (rate_fit rate) refl few

-- ---- the code of the carrier query, of any part
module _ (p : Receiver.Memory) where
  abbrev r : SoftDemodulator
  r = Receiver.record_in p

  abbrev fits : Bool
  fits = record_fit_lem (samples_in_lem r.rate) r

  abbrev Asked : Bool → Receiver.Coded
  Asked b = cond b (Receiver.coded Receiver.asks (Receiver.called r Receiver.asks)) (Receiver.coded_as (record_code_lem p.numbers) Receiver.none_lent)

  asked_by : (b : Bool) → eqb (record_code_lem p.numbers) 0 ≡ b → asked_code p ≡ (Asked b).code
  unfolding Receiver.memory_says
  asked_by b e = λ i. (Asked (e i)).code

  detected_by : (f : Bool) → fits ≡ f → detected (samples_in_lem r.rate) r ≡ cond (not f) (refusal (bare (unfit_number r))) (carrier (timer_held r.control.dcd))
  unfolding detected
  detected_by f e = λ i. cond (not (e i)) (refusal (bare (unfit_number r))) (carrier (timer_held r.control.dcd))

  pub asked_refused : record_code_lem p.numbers ≡ 0 → fits ≡ false → asked_code p ≡ refusal_code (bare (unfit_number r))
  unfolding Receiver.called left_at
  asked_refused z f = asked_by true (eq-eqb (record_code_lem p.numbers) 0 z) ∙ ap Receiver.paper_code (detected_by false f)

  pub asked_fit : record_code_lem p.numbers ≡ 0 → fits ≡ true → asked_code p ≡ flag_number (timer_held r.control.dcd)
  unfolding Receiver.called left_at
  asked_fit z f = asked_by true (eq-eqb (record_code_lem p.numbers) 0 z) ∙ ap Receiver.paper_code (detected_by true f)

  pub asked_none : eqb (record_code_lem p.numbers) 0 ≡ false → asked_code p ≡ record_code_lem p.numbers
  asked_none z = asked_by false z

pub flag_few : (b : Bool) → flag_number b < 100
flag_few true = omega arith
flag_few false = omega arith

-- ---- a close
module _ (m : Memory) (s : ℕ) (l : s < 8) (flag : flag_at m s ≡ 1) where
  abbrev d : SoftDemodulator
  d = receiver_in m s

  abbrev rc : ℕ
  rc = record_code_lem (numbers_at m s)

  abbrev ends : Export
  ends = export_of (at s closing) [] [] []

  code_is : no_desk m (at s closing) ≡ rc
  code_is = read_code m s l closes ∙ open_code (flag_at m s) (numbers_at m s) flag

  abbrev Shut : Bool → Paper
  Shut f = cond f done (refusal (bare (unfit_number d)))

  close_told : (f : Bool) → fit d ≡ f → seat_says (seat_in m s) closing ≡ told (Shut f)
  unfolding seat_says
  close_told f e = let o : open_in m s ≡ true = ap (λ (k : ℕ). eqb k 1) flag in λ i. told (cond (o i) (Shut (e i)) seat_closed)

  module _ (code : ℕ) (is : code ≡ asked_code (part_at m s)) where
    close_refused_by : (b f : Bool) → eqb rc 0 ≡ b → fit d ≡ f → 100 ≤ code → Says m ends (coded_as code [] [] [] []) m
    close_refused_by true false good f big =
        let z = eqb-true rc 0 good in
        let number = is ∙ asked_refused (part_at m s) z f in
        recast (refused m s [] [] [] l closing (code_is ∙ z) (bare (unfit_number d)) (λ i. (close_told false f i).answer)) (λ i. coded_as (number i) [] [] [] []) refl
    close_refused_by true true good f big =
        let number = is ∙ asked_fit (part_at m s) (eqb-true rc 0 good) f in
        absurd (omega (arith, big, number, flag_few (timer_held d.control.dcd)))
    close_refused_by false f bad e big =
        let number = is ∙ asked_none (part_at m s) bad in
        recast (no_desk_lem m ends rc code_is (omega (arith, big, number))) (λ i. coded_as (number i) [] [] [] []) refl

    pub close_refused : 100 ≤ code → Says m ends (coded_as code [] [] [] []) m
    close_refused big = close_refused_by (eqb rc 0) (fit d) refl refl big

    close_done_by : (b f : Bool) → eqb rc 0 ≡ b → fit d ≡ f → code < 100 → Says m ends (coded_as 0 [] [] [] []) (with_flag s 0 m)
    close_done_by true false good f few =
        let number = is ∙ asked_refused (part_at m s) (eqb-true rc 0 good) f in
        absurd (omega (arith, few, number))
    close_done_by true true good f few =
        let t = close_told true f in
        recast (admitted m s [] [] [] l closing (code_is ∙ eqb-true rc 0 good) (λ i. is_refusal (t i).answer)) (sym (λ i. coded ends (seat_told (t i)))) refl
    close_done_by false f bad e few =
        let number = is ∙ asked_none (part_at m s) bad in
        let k = code_tells (numbers_at m s) (omega (arith, few, number)) in
        let z = code_none (numbers_at m s) k.0 k.1 in
        absurd (never_both bad z)
      where
        never_both : eqb rc 0 ≡ false → rc ≡ 0 → ⊥
        never_both differs z = let y : ◌≡◌ {A = Bool} true false = sym (ap (λ (k : ℕ). eqb k 0) z) ∙ differs in let w : ◌≡◌ {A = ℕ} 1 0 = ap (λ (b : Bool). cond b 1 0) y in omega (arith, w)

    pub close_done : code < 100 → Says m ends (coded_as 0 [] [] [] []) (with_flag s 0 m)
    close_done few = close_done_by (eqb rc 0) (fit d) refl refl few
