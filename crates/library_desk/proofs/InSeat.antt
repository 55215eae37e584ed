-- What the machine over memory says and leaves of a call for one seat, by what the desk's rules say of that seat. Assumes nothing.
use mathlib.Core.Path.{◌≡◌, refl, sym, ap, ◌∙◌}
use mathlib.Core.Bool.{Bool, true, false, cond}
use mathlib.Core.List.{List, []}
use Prim.Native.Nat.{ℕ, zero, suc, ◌<◌}
use native.Mathlib.Omega.{arith}
use borrow.Author.Tests.{lt-ltb, le-ltb, eq-eqb, ne_eqb}
use lib.Dec.{ltb, eqb}
use lib.ListN.{get_or}
use lib.Seq.{set-get_or}
use lib.Ieee.{Float}
use Rattle.protocol.specs.Refusals.{PaperRefusal}
use Rattle.demodulator.specs.Calls.{Paper, refusal, is_refusal}
use Rattle.demodulator_run.specs.Calls.{Told}
use Rattle.desk.specs.Desk.{blank}
use Rattle.desk_run.specs.Seat.{Seat, SeatCall, opening, giving, closing, seat_says}
use Rattle.desk_run.specs.Desk.{at, DeskTold, seat_told, outside, seat_of, desk_says}
use Rattle.desk_run.proofs.Refused.{seat_only}
use Rattle.library_codes.specs.Codes.{refusal_code}
use Rattle.library_desk.specs.Memory.{Memory, memory_at, flag_at, part_at, with_part, open_in, receiver_in, seat_in, eight, desk_in}
use Rattle.library_desk.specs.Passage.{stray_at, no_desk}
use Rattle.library_desk.specs.Calls.{Export, export_of, Coded, coded, refuses, untouched, left_at, left_by, memory_says, memory_next, Says}

-- ---- a seat of the desk that the memory makes
pub eight_at : {A : Type 0} (f : ℕ → A) (d : A) (s : ℕ) → s < 8 → get_or (eight f) s d ≡ f s
eight_at f d zero l = refl
eight_at f d (suc zero) l = refl
eight_at f d (suc (suc zero)) l = refl
eight_at f d (suc (suc (suc zero))) l = refl
eight_at f d (suc (suc (suc (suc zero)))) l = refl
eight_at f d (suc (suc (suc (suc (suc zero))))) l = refl
eight_at f d (suc (suc (suc (suc (suc (suc zero)))))) l = refl
eight_at f d (suc (suc (suc (suc (suc (suc (suc zero))))))) l = refl
eight_at f d (suc (suc (suc (suc (suc (suc (suc (suc s)))))))) l = absurd (omega arith)

pub in_seat : (m : Memory) (s : ℕ) → s < 8 → seat_of (desk_in m) s ≡ seat_in m s
unfolding desk_in
in_seat m s l =
    let p = eight_at (open_in m) false s l in
    let q = eight_at (receiver_in m) blank s l in
    λ i. record { opened = p i; receiver = q i }

pub says_in : (m : Memory) (s : ℕ) → s < 8 → (c : SeatCall) → desk_says (desk_in m) (at s c) ≡ seat_told (seat_says (seat_in m s) c)
unfolding desk_says
says_in m s l c =
    ap (λ (b : Bool). seat_told (cond b (outside c) (seat_says (seat_of (desk_in m) s) c))) (le-ltb 7 s (omega arith))
    ∙ ap (λ (x : Seat). seat_told (seat_says x c)) (in_seat m s l)

-- a part that is put back where it was
pub put_back : (m : Memory) (s : ℕ) → with_part s (part_at m s) m ≡ m
put_back m s =
    let w = set-get_or m.windows s [] in
    let f = set-get_or m.rings s [] in
    let n = set-get_or m.numbers s [] in
    let l = set-get_or m.levels s [] in
    λ i. memory_at (w i) (f i) (n i) (l i) m.opened

-- ---- by whether the memory is a desk, and whether the desk refuses
module _ (m : Memory) (e : Export) where
  pub no_desk_lem : (code : ℕ) → no_desk m e.call ≡ code → 0 < code → Says m e (untouched code e) m
  unfolding memory_says memory_next
  no_desk_lem code is some =
      let z : eqb (no_desk m e.call) 0 ≡ false = ne_eqb (no_desk m e.call) 0 (λ x. omega (arith, is, x, some)) in
      record {
        answers = sym (λ i. cond (z i) (coded e (desk_says (desk_in m) e.call)) (untouched (is i) e));
        leaves = sym (λ i. cond (z i) (cond (refuses (desk_says (desk_in m) e.call)) m (left_by m e.call)) m);
      }

  pub by_desk : no_desk m e.call ≡ 0 → (t : DeskTold) → desk_says (desk_in m) e.call ≡ t → Says m e (coded e t) (cond (refuses t) m (left_by m e.call))
  unfolding memory_says memory_next
  by_desk is t said =
      let z : eqb (no_desk m e.call) 0 ≡ true = eq-eqb (no_desk m e.call) 0 is in
      record {
        answers = sym (λ i. cond (z i) (coded e (said i)) (untouched (no_desk m e.call) e));
        leaves = sym (λ i. cond (z i) (cond (refuses (said i)) m (left_by m e.call)) m);
      }

pub recast : {m after next : Memory} {e : Export} {a b : Coded} → Says m e a after → b ≡ a → next ≡ after → Says m e b next
recast p code left = record { answers = code ∙ p.answers; leaves = left ∙ p.leaves }

-- ---- a call for one seat
module _ (m : Memory) (s : ℕ) (told : List ℕ) (gain : List Float) (rows : List ℕ) where
  abbrev by : SeatCall → Export
  by c = export_of (at s c) told gain rows

  far_desk : ltb 7 s ≡ true → (c : SeatCall) → no_desk m (at s c) ≡ 0
  unfolding no_desk
  far_desk e (opening rate) = ap (λ (b : Bool). cond b 0 (cond (ltb 1 (flag_at m s)) 101 0)) e
  far_desk e (giving c) = ap (λ (b : Bool). cond b 0 (stray_at m s)) e
  far_desk e closing = ap (λ (b : Bool). cond b 0 (stray_at m s)) e

  far_told : (c : SeatCall) → (untouched 118 (by c) ≡ coded (by c) (seat_told (outside c))) × (refuses (seat_told (outside c)) ≡ true)
  far_told (opening rate) = (refl, refl)
  far_told (giving c) = (refl, refl)
  far_told closing = (refl, refl)

  -- 18 "seat above 7"
  pub far : 7 < s → (c : SeatCall) → Says m (by c) (untouched 118 (by c)) m
  unfolding desk_says
  far l c =
      let e = lt-ltb 7 s l in
      let t = far_told c in
      recast (by_desk m (by c) (far_desk e c) (seat_told (outside c)) (ap (λ (b : Bool). seat_told (cond b (outside c) (seat_says (seat_of (desk_in m) s) c))) e))
      t.0 (sym (ap (λ (b : Bool). cond b m (left_by m (at s c))) t.1))

  module _ (l : s < 8) (c : SeatCall) (is : no_desk m (at s c) ≡ 0) where
    abbrev t : Told
    t = seat_says (seat_in m s) c

    pub by_seat : Says m (by c) (coded (by c) (seat_told t)) (cond (is_refusal t.answer) m (left_at m s c))
    by_seat = by_desk m (by c) is (seat_told t) (says_in m s l c)

    pub refused : (why : PaperRefusal) → t.answer ≡ refusal why → Says m (by c) (untouched (refusal_code why) (by c)) m
    refused why e =
        let only = seat_only (seat_in m s) why c e in
        recast by_seat (sym (ap (λ (x : Told). coded (by c) (seat_told x)) only)) (sym (ap (λ (a : Paper). cond (is_refusal a) m (left_at m s c)) e))

    pub admitted : is_refusal t.answer ≡ false → Says m (by c) (coded (by c) (seat_told t)) (left_at m s c)
    admitted e = recast by_seat refl (sym (ap (λ (b : Bool). cond b m (left_at m s c)) e))
