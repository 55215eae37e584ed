-- The memory of a desk, and the desk that it makes, whatever it holds. Assumes nothing.
use Rattle.std.specs.Prelude.{Bool, List, [], ◌∷◌, ℕ, eqb, ℤ, get_or, set, Float}
use Rattle.demodulator.specs.declared.SoftDemodulator.{SoftDemodulator}
use Rattle.desk.specs.declared.Desk.{Desk}
use Rattle.desk_run.specs.Seat.{Seat}
use Rattle.library_receiver.specs.Memory as Receiver

-- "eight seats' receivers and flags flat in lent arrays"
pub record Memory : Type 0 where
  pub windows : List (List ℤ)
  pub rings : List (List Float)
  pub numbers : List (List ℕ)
  pub levels : List (List Float)
  pub opened : List ℕ

abbrev pub memory_at : List (List ℤ) → List (List Float) → List (List ℕ) → List (List Float) → List ℕ → Memory
memory_at windows rings numbers levels opened = record { windows = windows; rings = rings; numbers = numbers; levels = levels; opened = opened }

-- ---- a seat's own places
abbrev pub numbers_at : Memory → ℕ → List ℕ
numbers_at m s = get_or m.numbers s []

abbrev pub flag_at : Memory → ℕ → ℕ
flag_at m s = get_or m.opened s 0

-- the memory of its receiver
abbrev pub part_at : Memory → ℕ → Receiver.Memory
part_at m s = Receiver.memory_at (get_or m.windows s []) (get_or m.rings s []) (numbers_at m s) (get_or m.levels s [])

abbrev pub with_part : ℕ → Receiver.Memory → Memory → Memory
with_part s p m = memory_at (set m.windows s p.window) (set m.rings s p.ring) (set m.numbers s p.numbers) (set m.levels s p.levels) m.opened

abbrev pub with_flag : ℕ → ℕ → Memory → Memory
with_flag s flag m = memory_at m.windows m.rings m.numbers m.levels (set m.opened s flag)

-- ---- the seat, and the desk: a seat is open where its flag is 1
abbrev pub open_in : Memory → ℕ → Bool
open_in m s = eqb (flag_at m s) 1

abbrev pub receiver_in : Memory → ℕ → SoftDemodulator
receiver_in m s = Receiver.record_in (part_at m s)

abbrev pub seat_in : Memory → ℕ → Seat
seat_in m s = record { opened = open_in m s; receiver = receiver_in m s }

abbrev pub eight : {A : Type 0} → (ℕ → A) → List A
eight f = f 0 ∷ f 1 ∷ f 2 ∷ f 3 ∷ f 4 ∷ f 5 ∷ f 6 ∷ f 7 ∷ []

unfoldable pub desk_in : Memory → Desk
desk_in m = record { opened = eight (open_in m); receivers = eight (receiver_in m) }
