-- The entry to a seat's receiver: 119 for a closed seat, 101 for a flag that is neither 0 nor 1. Assumes nothing.
use mathlib.Core.Path.{◌≡◌, refl, ap, ◌∙◌}
use mathlib.Core.Bool.{Bool, true, false, cond}
use mathlib.Core.List.{List}
use Prim.Native.Nat.{ℕ, zero, suc, ◌≤◌, ◌<◌}
use native.Mathlib.Omega.{arith}
use borrow.Author.Tests.{lt-ltb, le-ltb, ne_eqb}
use lib.Dec.{ltb, eqb}
use lib.Ieee.{Float}
use Rattle.protocol.specs.Refusals.{bare}
use Rattle.demodulator.specs.Calls.{refusal}
use Rattle.demodulator_run.specs.Calls.{Call}
use Rattle.desk_run.specs.Seat.{SeatCall, giving, closing, seat_says}
use Rattle.desk_run.specs.Desk.{at}
use Rattle.library_layout.specs.Layout.{record_code_lem}
use Rattle.library_desk.specs.Memory.{Memory, numbers_at, flag_at, open_in, seat_in}
use Rattle.library_desk.specs.Passage.{stray_code, stray_at, no_desk, turn_code}
use Rattle.library_desk.specs.Calls.{Export, export_of, untouched, Says}
use Rattle.library_desk.proofs.InSeat.{no_desk_lem, refused}

pub below : {s : ℕ} → s ≤ 7 → s < 8
below l = omega arith

-- ---- what the code of the entry tells
pub data Turned (flag code : ℕ) : Type 0 where
  shut : flag ≡ 0 → code ≡ 119 → Turned flag code
  stray : 1 < flag → code ≡ 101 → Turned flag code
  goes : flag ≡ 1 → code ≡ 0 → Turned flag code

pub turned_by : (flag : ℕ) → Turned flag (turn_code flag)
unfolding turn_code
turned_by zero = shut refl refl
turned_by (suc zero) = goes refl refl
turned_by (suc (suc k)) =
    let far : ltb 1 (suc (suc k)) ≡ true = lt-ltb 1 (suc (suc k)) (omega arith) in
    let none : eqb (suc (suc k)) 0 ≡ false = ne_eqb (suc (suc k)) 0 (λ e. omega (arith, e)) in
    stray (omega arith) (λ i. cond (none i) 119 (cond (far i) 101 0))

-- ---- the codes of a flag
pub shut_code : (flag : ℕ) (n : List ℕ) → flag ≡ 0 → stray_code flag n ≡ 0
unfolding stray_code
shut_code flag n e = ap (λ (k : ℕ). cond (ltb 1 k) 101 (cond (eqb k 1) (record_code_lem n) 0)) e

pub open_code : (flag : ℕ) (n : List ℕ) → flag ≡ 1 → stray_code flag n ≡ record_code_lem n
unfolding stray_code
open_code flag n e = ap (λ (k : ℕ). cond (ltb 1 k) 101 (cond (eqb k 1) (record_code_lem n) 0)) e

pub stray_code_lem : (flag : ℕ) (n : List ℕ) → 1 < flag → stray_code flag n ≡ 101
unfolding stray_code
stray_code_lem flag n l = ap (λ (b : Bool). cond b 101 (cond (eqb flag 1) (record_code_lem n) 0)) (lt-ltb 1 flag l)

-- a call that reads its seat's record
pub data Reading : SeatCall → Type 0 where
  gives : (c : Call) → Reading (giving c)
  closes : Reading closing

module _ (m : Memory) (s : ℕ) (l : s < 8) where
  pub read_code : {c : SeatCall} → Reading c → no_desk m (at s c) ≡ stray_at m s
  unfolding no_desk
  read_code (gives c) = ap (λ (b : Bool). cond b 0 (stray_at m s)) (le-ltb 7 s (omega arith))
  read_code closes = ap (λ (b : Bool). cond b 0 (stray_at m s)) (le-ltb 7 s (omega arith))

  shut_says : {c : SeatCall} → Reading c → open_in m s ≡ false → (seat_says (seat_in m s) c).answer ≡ refusal (bare 19)
  unfolding seat_says
  shut_says (gives c) e = rw e refl
  shut_says closes e = rw e refl

  module _ {c : SeatCall} (r : Reading c) (told : List ℕ) (gain : List Float) (rows : List ℕ) where
    abbrev e : Export
    e = export_of (at s c) told gain rows

    by_turn : (code : ℕ) → Turned (flag_at m s) code → 0 < code → Says m e (untouched code e) m
    by_turn code (shut flag is) some =
        rw is (refused m s told gain rows l c (read_code r ∙ shut_code (flag_at m s) (numbers_at m s) flag) (bare 19) (shut_says r (ap (λ (k : ℕ). eqb k 1) flag)))
    by_turn code (stray far is) some = rw is (no_desk_lem m e 101 (read_code r ∙ stray_code_lem (flag_at m s) (numbers_at m s) far) (omega arith))
    by_turn code (goes flag is) some = absurd (omega arith)

    pub turned_away : (code : ℕ) → code ≡ turn_code (flag_at m s) → 0 < code → Says m e (untouched code e) m
    turned_away code is some = by_turn code (rw is (turned_by (flag_at m s))) some

goes_by : (flag code : ℕ) → Turned flag code → code ≤ 0 → flag ≡ 1
goes_by flag code (shut z is) few = absurd (omega arith)
goes_by flag code (stray far is) few = absurd (omega arith)
goes_by flag code (goes e is) few = e

pub goes_on : (flag code : ℕ) → code ≡ turn_code flag → code ≤ 0 → flag ≡ 1
goes_on flag code is few = goes_by flag code (rw is (turned_by flag)) few
