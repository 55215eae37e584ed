-- What is no desk, and which calls go to a seat's receiver. Assumes nothing.
use Rattle.std.specs.Prelude.{cond, List, ℕ, eqb, ltb}
use Rattle.numbers.specs.Below.{any_below}
use Rattle.desk_run.specs.Seat.{opening, giving, closing}
use Rattle.desk_run.specs.Desk.{DeskCall, at, listing}
use Rattle.library_layout.specs.Layout.{record_code_lem}
use Rattle.library_desk.specs.Memory.{Memory, numbers_at, flag_at}

-- "0 closed, 1 open; any other is no desk: 101"; an open seat's numbers are refused as a receiver's are, with 115 or 101; a closed seat's are not read
unfoldable pub stray_code : ℕ → List ℕ → ℕ
stray_code flag n = cond (ltb 1 flag) 101 (cond (eqb flag 1) (record_code_lem n) 0)

abbrev pub stray_at : Memory → ℕ → ℕ
stray_at m s = stray_code (flag_at m s) (numbers_at m s)

-- "with 15 if the rate of any open one is neither of the two, and otherwise 1"
abbrev pub any_stray : Memory → ℕ → ℕ
any_stray m k = cond (any_below k (λ (s : ℕ). eqb (stray_at m s) 115)) 115 (cond (any_below k (λ (s : ℕ). eqb (stray_at m s) 101)) 101 0)

-- what a call is refused with where the memory is no desk, and 0 where it is one. "A call looks at its own seat alone", the listing at all;
-- "Open .. checks no record"; 18 comes before
unfoldable pub no_desk : Memory → DeskCall → ℕ
no_desk m (at s (opening rate)) = cond (ltb 7 s) 0 (cond (ltb 1 (flag_at m s)) 101 0)
no_desk m (at s (giving c)) = cond (ltb 7 s) 0 (stray_at m s)
no_desk m (at s closing) = cond (ltb 7 s) 0 (stray_at m s)
no_desk m listing = any_stray m 8

-- ---- what the flag alone turns away: 19 "seat closed"
unfoldable pub turn_code : ℕ → ℕ
turn_code flag = cond (eqb flag 0) 119 (cond (ltb 1 flag) 101 0)
