-- Of a seat's record, and of the answers to it, only its own calls decide: over every list of desk calls, from every desk, reached or made up. Assumes nothing.
use mathlib.Core.Path.{◌≡◌, refl, sym, ap, ◌∙◌, subst}
use mathlib.Core.Bool.{Bool, true, false, cond}
use mathlib.Core.List.{List, [], ◌∷◌, ◌++◌}
use Prim.Native.Nat.{ℕ, ◌<◌}
use lib.Dec.{ltb, eqb}
use lib.ListN.{length, length-set}
use lib.Seq.{get_or-set_same, get_or-set_other, set-get_or}
use native.Mathlib.Omega.{arith}
use borrow.Author.Tests.{le-ltb, eq-eqb, eqb-true, eqb-false}
use Rattle.machine.specs.Runs.{run, answers}
use Rattle.machine.proofs.Parts.{run_joined, answers_joined}
use Rattle.demodulator_run.specs.Calls.{Told}
use Rattle.desk.specs.declared.Desk.{Desk}
use Rattle.desk.specs.Desk.{blank}
use Rattle.desk_run.specs.Seat.{Seat, SeatCall, seat, seat_says, seat_next}
use Rattle.desk_run.specs.Desk.{DeskCall, at, listing, seat_of, with_seat, outside, desk_says, desk_next, desk, Whole}
use Rattle.desk_run.specs.OwnCalls.{own_call, own_calls, own_told, own_answers, alone}

-- ---- one seat of the record
seat_same : (d : Desk) → Whole d → (s : ℕ) → s < 8 → (x : Seat) → seat_of (with_seat s x d) s ≡ x
unfolding Whole
seat_same d w s l x =
    let p = get_or-set_same d.opened s x.opened false (omega (arith, w.0, l)) in
    let q = get_or-set_same d.receivers s x.receiver blank (omega (arith, w.1, l)) in
    λ i. record { opened = p i; receiver = q i }

seat_other : (d : Desk) (s t : ℕ) (x : Seat) → (t ≡ s → ⊥) → seat_of (with_seat t x d) s ≡ seat_of d s
seat_other d s t x ne =
    let p = get_or-set_other d.opened t s x.opened false (λ q. ne (sym q)) in
    let q = get_or-set_other d.receivers t s x.receiver blank (λ q. ne (sym q)) in
    λ i. record { opened = p i; receiver = q i }

pub put_back : (d : Desk) (s : ℕ) → with_seat s (seat_of d s) d ≡ d
put_back d s =
    let p = set-get_or d.opened s false in
    let q = set-get_or d.receivers s blank in
    λ i. record { opened = p i; receivers = q i }

-- ---- one call: what it leaves of a seat, and what is said to that seat
set_own : (d : Desk) → Whole d → (s t : ℕ) (c : SeatCall) → s < 8 → t ≡ s → seat_of (desk_next d (at t c)) s ≡ seat_next (seat_of d s) c
unfolding desk_next
set_own d w s t c l e =
    subst (λ (u : ℕ). seat_of (cond (ltb 7 u) d (with_seat u (seat_next (seat_of d u) c) d)) s ≡ seat_next (seat_of d s) c) (sym e)
    (ap (λ (b : Bool). seat_of (cond b d (with_seat s (seat_next (seat_of d s) c) d)) s) (le-ltb 7 s (omega (arith, l))) ∙ seat_same d w s l (seat_next (seat_of d s) c))

set_other : (d : Desk) (s t : ℕ) (c : SeatCall) (b : Bool) → (t ≡ s → ⊥) → seat_of (cond b d (with_seat t (seat_next (seat_of d t) c) d)) s ≡ seat_of d s
set_other d s t c true ne = refl
set_other d s t c false ne = seat_other d s t (seat_next (seat_of d t) c) ne

-- the other seats are as they were
pub others_kept : (d : Desk) (s t : ℕ) (c : SeatCall) → (t ≡ s → ⊥) → seat_of (desk_next d (at t c)) s ≡ seat_of d s
unfolding desk_next
others_kept d s t c ne = set_other d s t c (ltb 7 t) ne

module _ (d : Desk) (w : Whole d) (s : ℕ) (l : s < 8) where
  next_at : (t : ℕ) (c : SeatCall) (b : Bool) → eqb t s ≡ b → seat_of (desk_next d (at t c)) s ≡ run seat (seat_of d s) (cond b (c ∷ []) [])
  unfolding run
  next_at t c true e = set_own d w s t c l (eqb-true t s e)
  next_at t c false e = others_kept d s t c (eqb-false t s e)

  pub next_own : (c : DeskCall) → seat_of (desk_next d c) s ≡ run seat (seat_of d s) (own_call s c)
  unfolding run desk_next
  next_own (at t c) = next_at t c (eqb t s) refl
  next_own listing = refl

  says_at : (t : ℕ) (c : SeatCall) (b : Bool) → eqb t s ≡ b
      → cond b (cond (ltb 7 t) (outside c) (seat_says (seat_of d t) c) ∷ []) [] ≡ answers seat (seat_of d s) (cond b (c ∷ []) [])
  unfolding answers
  says_at t c true e =
      subst (λ (u : ℕ). cond (ltb 7 u) (outside c) (seat_says (seat_of d u) c) ∷ [] ≡ seat_says (seat_of d s) c ∷ []) (sym (eqb-true t s e))
      (ap (λ (b : Bool). cond b (outside c) (seat_says (seat_of d s) c) ∷ []) (le-ltb 7 s (omega (arith, l))))
  says_at t c false e = refl

  pub says_own : (c : DeskCall) → own_told s c (desk_says d c) ≡ answers seat (seat_of d s) (own_call s c)
  unfolding answers desk_says
  says_own (at t c) = says_at t c (eqb t s) refl
  says_own listing = refl

-- ---- every desk has eight seats, and keeps them
whole_at : (d : Desk) → Whole d → (t : ℕ) (x : Seat) (b : Bool) → Whole (cond b d (with_seat t x d))
unfolding Whole
whole_at d w t x true = w
whole_at d w t x false = (length-set d.opened t x.opened ∙ w.0, length-set d.receivers t x.receiver ∙ w.1)

pub whole_next : (d : Desk) → Whole d → (c : DeskCall) → Whole (desk_next d c)
unfolding desk_next
whole_next d w (at t c) = whole_at d w t (seat_next (seat_of d t) c) (ltb 7 t)
whole_next d w listing = w

-- ---- every list of calls
pub seat_run : (s : ℕ) → s < 8 → (cs : List DeskCall) (d : Desk) → Whole d → seat_of (run desk d cs) s ≡ run seat (seat_of d s) (own_calls s cs)
unfolding run own_calls
seat_run s l [] d w = refl
seat_run s l (c ∷ cs) d w =
    seat_run s l cs (desk_next d c) (whole_next d w c) ∙ ap (λ (x : Seat). run seat x (own_calls s cs)) (next_own d w s l c)
    ∙ sym (run_joined seat (own_call s c) (own_calls s cs) (seat_of d s))

pub seat_answers : (s : ℕ) → s < 8 → (cs : List DeskCall) (d : Desk) → Whole d → own_answers s cs (answers desk d cs) ≡ answers seat (seat_of d s) (own_calls s cs)
unfolding answers own_calls own_answers
seat_answers s l [] d w = refl
seat_answers s l (c ∷ cs) d w =
    let later = seat_answers s l cs (desk_next d c) (whole_next d w c) ∙ ap (λ (x : Seat). answers seat x (own_calls s cs)) (next_own d w s l c) in
    ap (λ (x : List Told). x ++ own_answers s cs (answers desk (desk_next d c) cs)) (says_own d w s l c)
    ∙ ap (λ (x : List Told). answers seat (seat_of d s) (own_call s c) ++ x) later
    ∙ sym (answers_joined seat (own_call s c) (own_calls s cs) (seat_of d s))

-- ---- one seat's calls alone
pub own_alone : (s : ℕ) (us : List SeatCall) → own_calls s (alone s us) ≡ us
unfolding own_calls
own_alone s [] = refl
own_alone s (u ∷ us) =
    ap (λ (b : Bool). cond b (u ∷ []) [] ++ own_calls s (alone s us)) (eq-eqb s s refl) ∙ ap (λ (l : List SeatCall). u ∷ l) (own_alone s us)
