-- The listing: what its export promises, from its tests of the eight seats. Assumes nothing.
use mathlib.Core.Path.{◌≡◌, refl, sym, ap, ◌∙◌}
use mathlib.Core.Bool.{Bool, true, false, cond, ◌||◌}
use mathlib.Core.List.{List, [], ◌∷◌, ◌++◌}
use Prim.Native.Nat.{ℕ}
use native.Mathlib.Omega.{arith}
use lib.Dec.{eqb}
use lib.ListN.{get_or}
use Rattle.numbers.specs.Below.{any_below}
use Rattle.protocol.specs.Refusals.{bare}
use Rattle.desk.specs.Listing.{PaperList, shut, busy, refused_list, lines, lines_at, strange, unfit, any_strange, any_unfit}
use Rattle.desk.proofs.ListLaws.{listed_by}
use Rattle.desk_run.specs.Desk.{listing, list_told_lem, desk_says}
use Rattle.library_codes.specs.Codes.{flag_number}
use Rattle.library_desk.specs.Memory.{Memory, numbers_at, flag_at, part_at, open_in, receiver_in, desk_in}
use Rattle.library_desk.specs.Passage.{stray_at, no_desk}
use Rattle.library_desk.specs.Listing.{line_numbers, lines_numbers, line_in, three_of, lines_in, seat_code, SeatsTested}
use Rattle.library_desk.specs.Calls.{Export, export_of, coded_as, Says}
use Rattle.library_desk.proofs.InSeat.{no_desk_lem, by_desk, recast}
use Rattle.library_desk.proofs.SeatTests.{seat_tells, any_split, any_none, any_same}

-- ---- a seat's three numbers
line_with : (b : Bool) (count : ℕ) (owed : Bool) (rest other : List ℕ) → rest ≡ other
    → three_of (cond b (record { opened = 1; count = count; owed = flag_number owed }) (record { opened = 0; count = 0; owed = 0 })) rest
    ≡ line_numbers (cond b (busy count owed) shut) ++ other
line_with true count owed rest other e = λ i. 1 ∷ count ∷ flag_number owed ∷ e i
line_with false count owed rest other e = λ i. 0 ∷ 0 ∷ 0 ∷ e i

module _ (m : Memory) (before : List ℕ) where
  abbrev e : Export
  e = export_of listing [] [] before

  line : (s : ℕ) (rest other : List ℕ) → rest ≡ other → three_of (line_in (flag_at m s) (numbers_at m s)) rest
      ≡ line_numbers (cond (eqb (flag_at m s) 1) (busy (get_or (numbers_at m s) 3 0) (eqb (get_or (numbers_at m s) 13 0) 1)) shut) ++ other
  line s rest other e = line_with (eqb (flag_at m s) 1) (get_or (numbers_at m s) 3 0) (eqb (get_or (numbers_at m s) 13 0) 1) rest other e

  lines_are : lines_in m.numbers m.opened ≡ lines_numbers (lines_at (desk_in m))
  unfolding desk_in lines_numbers
  lines_are = line 0 _ _ (line 1 _ _ (line 2 _ _ (line 3 _ _ (line 4 _ _ (line 5 _ _ (line 6 _ _ (line 7 _ _ refl)))))))

  -- ---- the eight seats
  abbrev Fifteen : ℕ → Bool
  Fifteen s = eqb (stray_at m s) 115

  abbrev One : ℕ → Bool
  One s = eqb (stray_at m s) 101

  abbrev Unfit : ℕ → Bool
  Unfit s = unfit (open_in m s) (receiver_in m s)

  strange_is : any_strange (desk_in m) ≡ any_below 8 (λ (s : ℕ). strange (open_in m s) (receiver_in m s))
  unfolding any_strange desk_in any_below
  strange_is = refl

  unfit_is : any_unfit (desk_in m) ≡ any_below 8 Unfit
  unfolding any_unfit desk_in any_below
  unfit_is = refl

  abbrev By : Bool → Bool → PaperList
  By s u = cond s (refused_list (bare 15)) (cond u (refused_list (bare 1)) (lines (lines_at (desk_in m))))

  module _ (strange? unfit? : Bool) (t : SeatsTested m.windows m.numbers m.levels m.opened 8 strange? unfit?) where
    fifteen_is : strange? ≡ any_below 8 Fifteen
    fifteen_is = t.any_strange_lem m.rings ∙ any_same (λ (s : ℕ). eqb (seat_code (flag_at m s) (part_at m s)) 115) Fifteen Fifteen Fifteen (λ s. (seat_tells (part_at m s) (flag_at m s)).fifteen) 8

    pub list_strange : strange? ≡ true → Says m e (coded_as 115 [] [] [] before) m
    unfolding no_desk
    list_strange is =
        let a = sym fifteen_is ∙ is in
        no_desk_lem m e 115 (ap (λ (b : Bool). cond b 115 (cond (any_below 8 One) 101 0)) a) (omega arith)

    module _ (fine : strange? ≡ false) where
      none : any_below 8 Fifteen ≡ false
      none = sym fifteen_is ∙ fine

      ones_are : unfit? ≡ (any_below 8 One || any_below 8 Unfit)
      ones_are = t.any_unfit_lem m.rings ∙ any_split Fifteen One (λ (s : ℕ). eqb (seat_code (flag_at m s) (part_at m s)) 101) Unfit (λ s. (seat_tells (part_at m s) (flag_at m s)).one) 8 none

      code_by : (b : Bool) → any_below 8 One ≡ b → no_desk m listing ≡ cond b 101 0
      unfolding no_desk
      code_by b o = λ i. cond (none i) 115 (cond (o i) 101 0)

      said : any_below 8 One ≡ false → (u : Bool) → any_below 8 Unfit ≡ u → desk_says (desk_in m) listing ≡ list_told_lem (By false u)
      unfolding desk_says
      said o u is =
          let s = strange_is ∙ any_none Fifteen One (λ (s : ℕ). strange (open_in m s) (receiver_in m s)) Unfit (λ s. (seat_tells (part_at m s) (flag_at m s)).fit_rate) 8 none o in
          ap list_told_lem (sym (listed_by (desk_in m) false u s (unfit_is ∙ is)))

      refused_by : (o u : Bool) → any_below 8 One ≡ o → any_below 8 Unfit ≡ u → (o || u) ≡ true → Says m e (coded_as 101 [] [] [] before) m
      refused_by true u a b w = no_desk_lem m e 101 (code_by true a) (omega arith)
      refused_by false true a b w = by_desk m e (code_by false a) (list_told_lem (refused_list (bare 1))) (said a true b)
      refused_by false false a b w = let z : ◌≡◌ {A = ℕ} 0 1 = ap (λ (b : Bool). cond b 1 0) w in absurd (omega (arith, z))

      pub list_unfit : unfit? ≡ true → Says m e (coded_as 101 [] [] [] before) m
      list_unfit is = refused_by (any_below 8 One) (any_below 8 Unfit) refl refl (sym ones_are ∙ is)

      done_by : (o u : Bool) → any_below 8 One ≡ o → any_below 8 Unfit ≡ u → (o || u) ≡ false → (after : List ℕ) → after ≡ lines_in m.numbers m.opened → Says m e (coded_as 0 [] [] [] after) m
      done_by true u a b w after is = let z : ◌≡◌ {A = ℕ} 1 0 = ap (λ (b : Bool). cond b 1 0) w in absurd (omega (arith, z))
      done_by false true a b w after is = let z : ◌≡◌ {A = ℕ} 1 0 = ap (λ (b : Bool). cond b 1 0) w in absurd (omega (arith, z))
      done_by false false a b w after is =
          let written = is ∙ lines_are in
          recast (by_desk m e (code_by false a) (list_told_lem (lines (lines_at (desk_in m)))) (said a false b)) (λ i. coded_as 0 [] [] [] (written i)) refl

      pub list_done : unfit? ≡ false → (after : List ℕ) → after ≡ lines_in m.numbers m.opened → Says m e (coded_as 0 [] [] [] after) m
      list_done is after lines-is = done_by (any_below 8 One) (any_below 8 Unfit) refl refl (sym ones_are ∙ is) after lines-is
