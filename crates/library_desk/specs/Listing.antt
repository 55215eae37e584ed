-- The listing as its export tells it: what it tests of each seat, and three numbers for a seat. Assumes nothing.
use Rattle.std.specs.Prelude.{◌≡◌, Bool, cond, List, [], ◌∷◌, ◌++◌, ℕ, eqb, leb, ltb, ℤ, get_or, Float}
use Rattle.numbers.specs.Below.{any_below}
use Rattle.desk.specs.Listing.{PaperLine, shut, busy, PaperList, refused_list, lines}
use Rattle.library_codes.specs.Codes.{refusal_code, flag_number}
use Rattle.library_receiver.specs.Memory as Receiver
use Rattle.library_desk.specs.declared.listing.LineNumbers.{LineNumbers}

-- ---- "three numbers a seat: 0 closed or 1 open, the count, a reply owed"
abbrev pub line_numbers : PaperLine → List ℕ
line_numbers shut = 0 ∷ 0 ∷ 0 ∷ []
line_numbers (busy count owed) = 1 ∷ count ∷ flag_number owed ∷ []

unfoldable pub lines_numbers : List PaperLine → List ℕ
lines_numbers [] = []
lines_numbers (l ∷ ls) = line_numbers l ++ lines_numbers ls

abbrev pub list_code_lem : PaperList → ℕ
list_code_lem (refused_list why) = refusal_code why
list_code_lem (lines ls) = 0

abbrev pub lines_after : PaperList → List ℕ → List ℕ
lines_after (refused_list why) before = before
lines_after (lines ls) before = lines_numbers ls

-- ---- a seat's line, by its places in the memory
abbrev pub line_in : ℕ → List ℕ → LineNumbers
line_in flag n =
    cond (eqb flag 1) (record { opened = 1; count = get_or n 3 0; owed = flag_number (eqb (get_or n 13 0) 1) }) (record { opened = 0; count = 0; owed = 0 })

abbrev pub three_of : LineNumbers → List ℕ → List ℕ
three_of x rest = x.opened ∷ x.count ∷ x.owed ∷ rest

abbrev pub lines_in : List (List ℕ) → List ℕ → List ℕ
lines_in n o =
    three_of (line_in (get_or o 0 0) (get_or n 0 [])) (three_of (line_in (get_or o 1 0) (get_or n 1 []))
    (three_of (line_in (get_or o 2 0) (get_or n 2 [])) (three_of (line_in (get_or o 3 0) (get_or n 3 []))
    (three_of (line_in (get_or o 4 0) (get_or n 4 [])) (three_of (line_in (get_or o 5 0) (get_or n 5 []))
    (three_of (line_in (get_or o 6 0) (get_or n 6 [])) (three_of (line_in (get_or o 7 0) (get_or n 7 [])) [])))))))

-- ---- what a seat is tested for: an open one as the carrier query tests it, and the rest by the flag
abbrev pub asked_code : Receiver.Memory → ℕ
asked_code p = (Receiver.memory_says p Receiver.asks).code

unfoldable pub seat_code : ℕ → Receiver.Memory → ℕ
seat_code flag p = cond (eqb flag 0) 0 (cond (ltb 1 flag) 101 (cond (leb 100 (asked_code p)) (asked_code p) 0))

-- whatever the ring holds
abbrev pub SeatTested : ℕ → List ℤ → List ℕ → List Float → ℕ → Type 0
SeatTested flag window n l r = (ring : List Float) → r ≡ seat_code flag (Receiver.memory_at window ring n l)

-- the first k seats
pub record SeatsTested (windows : List (List ℤ)) (numbers : List (List ℕ)) (levels : List (List Float)) (opened : List ℕ) (k : ℕ) (strange unfit : Bool) : Type 0 where
  pub any_strange_lem : (rings : List (List Float)) → strange
      ≡ any_below k (λ (s : ℕ). eqb (seat_code (get_or opened s 0) (Receiver.memory_at (get_or windows s []) (get_or rings s []) (get_or numbers s []) (get_or levels s []))) 115)
  pub any_unfit_lem : (rings : List (List Float)) → unfit
      ≡ any_below k (λ (s : ℕ). eqb (seat_code (get_or opened s 0) (Receiver.memory_at (get_or windows s []) (get_or rings s []) (get_or numbers s []) (get_or levels s []))) 101)
