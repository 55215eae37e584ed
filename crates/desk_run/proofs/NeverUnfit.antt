-- From a fresh desk no call is refused with 1, none but an open with 15, and the listing is exactly the eight seats by their own calls. Assumes nothing.
use mathlib.Core.Path.{◌≡◌, refl, sym, ap, ◌∙◌, subst}
use mathlib.Core.Bool.{Bool, true, false, not, ◌&&◌, cond}
use mathlib.Core.List.{List, [], ◌∷◌}
use Prim.Native.Nat.{ℕ, zero, suc, ◌<◌}
use native.Mathlib.Omega.{arith}
use lib.Dec.{T, eqb, ltb}
use borrow.Author.Tests.{eqb-false, ltb-false}
use Rattle.numbers.specs.Below.{any_below}
use Rattle.numbers.proofs.Below.{any_more}
use Rattle.machine.specs.Runs.{run, Each}
use Rattle.shaping.specs.Rate.{rate_fit}
use Rattle.protocol.specs.Refusals.{PaperRefusal, bare, number_of}
use Rattle.demodulator.specs.Fit.{unfit_number}
use Rattle.demodulator.specs.Calls.{Paper, refusal, nothing, frame, done, carrier, is_refusal, made}
use Rattle.demodulator_run.specs.Calls.{Call, Told, receiver, Given}
use Rattle.desk.specs.declared.Desk.{Desk}
use Rattle.desk.specs.Desk.{fresh_desk, is_open, receiver_at}
use Rattle.desk.specs.Passage.{no_such_seat, seat_closed, seat_is_open}
use Rattle.desk.specs.Listing.{PaperLine, PaperList, refused_list, lines, any_strange, any_unfit, lines_at, listed}
use Rattle.desk_run.specs.Seat.{Seat, SeatCall, opening, giving, closing, seat, seat_says, fit, SeatGiven}
use Rattle.desk_run.specs.Desk.{DeskCall, at, listing, list_told_lem, desk, seat_of, desk_says, outside, DeskGiven, Whole, RefusedBy, Opening}
use Rattle.desk_run.specs.OwnCalls.{line_by, own_line, own_lines}
use Rattle.desk_run.proofs.SeatRun.{seat_run}
use Rattle.desk_run.proofs.OpenSeats.{Exercised, Sits, rate_fit_lem, record_fit_law, never_either, Good, good_fresh, good_run}

-- ---- an answer that is not refused with a number
number_in : Paper → ℕ
number_in (refusal why) = number_of why
number_in nothing = 0
number_in (frame o) = 0
number_in done = 0
number_in (carrier there) = 0

abbrev Never : ℕ → Paper → Type 0
Never n a = a ≡ refusal (bare n) → ⊥

never_other : (k n : ℕ) → eqb k n ≡ false → Never n (refusal (bare k))
unfolding number_in
never_other k n ne e = eqb-false k n ne (ap number_in e)

never_done : (n : ℕ) → Never n done
never_done n e = subst T (sym (ap is_refusal e)) tt

never_cond : (n : ℕ) (b : Bool) (a c : Paper) → Never n a → Never n c → Never n (cond b a c)
never_cond n true a c p q = p
never_cond n false a c p q = q

-- ---- a seat's
module _ (x : Seat) (sits : Sits x) where
  give_never : (n : ℕ) (c : Call) (t : Told) → ((s : Exercised x.receiver) → Never n (receiver.says x.receiver c).answer) → Never n t.answer
      → (b : Bool) → x.opened ≡ b → Never n (cond b (receiver.says x.receiver c) t).answer
  unfolding Sits
  give_never n c t p q true o = p (sits o)
  give_never n c t p q false o = q

  close_never : (n : ℕ) → Never n seat_closed → (b : Bool) → x.opened ≡ b
      → Never n (cond b (cond (fit x.receiver) done (refusal (bare (unfit_number x.receiver)))) seat_closed)
  unfolding Sits
  close_never n q true o =
      subst (λ (f : Bool). Never n (cond f done (refusal (bare (unfit_number x.receiver))))) (sym (record_fit_law x.receiver (sits o))) (never_done n)
  close_never n q false o = q

  seat_never_one : (c : SeatCall) → SeatGiven c → Never 1 (seat_says x c).answer
  unfolding seat_says SeatGiven made
  seat_never_one (opening rate) g =
      never_cond 1 x.opened seat_is_open (cond (rate_fit rate) done (refusal (bare 15))) (never_other 20 1 refl)
      (never_cond 1 (rate_fit rate) done (refusal (bare 15)) (never_done 1) (never_other 15 1 refl))
  seat_never_one (giving c) g = give_never 1 c _ (λ s. (never_either x.receiver s c g).0) (never_other 19 1 refl) x.opened refl
  seat_never_one closing g = close_never 1 (never_other 19 1 refl) x.opened refl

  give_fifteen : (c : Call) → Given c → Never 15 (seat_says x (giving c)).answer
  unfolding seat_says
  give_fifteen c g = give_never 15 c _ (λ s. (never_either x.receiver s c g).1) (never_other 19 15 refl) x.opened refl

  close_fifteen : Never 15 (seat_says x closing).answer
  unfolding seat_says
  close_fifteen = close_never 15 (never_other 19 15 refl) x.opened refl

-- ---- the listing's two tests
none_any : (n : ℕ) (t : ℕ → Bool) → ((i : ℕ) → i < n → t i ≡ false) → any_below n t ≡ false
unfolding any_below
none_any zero t h = refl
none_any (suc n) t h = any_more n t (none_any n t (λ i l. h i (omega arith))) (h n (omega arith))

fit_if_open : (flag f : Bool) → (flag ≡ true → f ≡ true) → (flag && not f) ≡ false
fit_if_open true f h = rw (h refl) refl
fit_if_open false f h = refl

module _ (d : Desk) (g : Good d) where
  none_strange : any_strange d ≡ false
  unfolding any_strange Sits
  none_strange = none_any 8 _ (λ s l. fit_if_open (is_open d.opened s) (rate_fit (receiver_at d s).rate) (λ o. rate_fit_lem (receiver_at d s) (g.sit s l o)))

  none_unfit : any_unfit d ≡ false
  unfolding any_unfit Sits
  none_unfit = none_any 8 _ (λ s l. fit_if_open (is_open d.opened s) (fit (receiver_at d s)) (λ o. record_fit_law (receiver_at d s) (g.sit s l o)))

  listed_good : listed d ≡ lines (lines_at d)
  unfolding listed
  listed_good =
      ap (λ (b : Bool). cond b (refused_list (bare 15)) (cond (any_unfit d) (refused_list (bare 1)) (lines (lines_at d)))) none_strange
      ∙ ap (λ (b : Bool). cond b (refused_list (bare 1)) (lines (lines_at d))) none_unfit

IsLines : PaperList → Type 0
IsLines (refused_list n) = ⊥
IsLines (lines ls) = Unit {0}

-- ---- every list of calls from a fresh desk, and one call more
module _ (cs : List DeskCall) (given : Each DeskGiven cs) where
  abbrev D : Desk
  D = run desk fresh_desk cs

  good : Good D
  good = good_run cs given fresh_desk good_fresh

  own_line_lem : (s : ℕ) → s < 8 → line_by (seat_of D s) ≡ own_line cs s
  unfolding Whole
  own_line_lem s l = ap line_by (seat_run s l cs fresh_desk (refl, refl))

  own_lines_lem : lines_at D ≡ own_lines cs
  own_lines_lem =
      let e0 = own_line_lem 0 (omega arith) in
      let e1 = own_line_lem 1 (omega arith) in
      let e2 = own_line_lem 2 (omega arith) in
      let e3 = own_line_lem 3 (omega arith) in
      let e4 = own_line_lem 4 (omega arith) in
      let e5 = own_line_lem 5 (omega arith) in
      let e6 = own_line_lem 6 (omega arith) in
      let e7 = own_line_lem 7 (omega arith) in
      λ i. e0 i ∷ e1 i ∷ e2 i ∷ e3 i ∷ e4 i ∷ e5 i ∷ e6 i ∷ e7 i ∷ []

  -- "the listing gives each seat closed, or open with its count and whether a reply is owed"
  pub desk_listed : desk_says D listing ≡ list_told_lem (lines (own_lines cs))
  unfolding desk_says
  desk_listed = ap list_told_lem (listed_good D good) ∙ ap (λ (ls : List PaperLine). list_told_lem (lines ls)) own_lines_lem

  list_never : (why : PaperRefusal) → listed D ≡ refused_list why → ⊥
  unfolding IsLines
  list_never why e = subst IsLines (sym (listed_good D good) ∙ e) tt

  at_never : (n s : ℕ) (c : SeatCall) (b : Bool) → ltb 7 s ≡ b → Never n no_such_seat → (s < 8 → Never n (seat_says (seat_of D s) c).answer)
      → Never n (cond b (outside c) (seat_says (seat_of D s) c)).answer
  at_never n s (opening rate) true o far near = far
  at_never n s (giving c) true o far near = far
  at_never n s closing true o far near = far
  at_never n s c false o far near = near (let low = ltb-false 7 s o in omega (arith, low))

  -- no call is refused with 1
  pub desk_never_one : (c : DeskCall) → DeskGiven c → RefusedBy (desk_says D c) (bare 1) → ⊥
  unfolding desk_says RefusedBy DeskGiven
  desk_never_one (at s c) g e = at_never 1 s c (ltb 7 s) refl (never_other 18 1 refl) (λ l. seat_never_one (seat_of D s) (good.sit s l) c g) e
  desk_never_one listing g e = list_never (bare 1) e

  -- and what is refused with 15 is an open
  pub desk_fifteen : (c : DeskCall) → DeskGiven c → RefusedBy (desk_says D c) (bare 15) → Opening c
  unfolding desk_says RefusedBy DeskGiven SeatGiven Opening
  desk_fifteen (at s (opening rate)) g e = tt
  desk_fifteen (at s (giving c)) g e = at_never 15 s (giving c) (ltb 7 s) refl (never_other 18 15 refl) (λ l. give_fifteen (seat_of D s) (good.sit s l) c g) e
  desk_fifteen (at s closing) g e = at_never 15 s closing (ltb 7 s) refl (never_other 18 15 refl) (λ l. close_fifteen (seat_of D s) (good.sit s l)) e
  desk_fifteen listing g e = list_never (bare 15) e
