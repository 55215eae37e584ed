-- The promise of `push_symbols` leaves one cursor, one window and one room. That there is one on every input
-- is the function's own proof. Assumes nothing.
use mathlib.Core.Path.{◌≡◌, ap}
use mathlib.Core.List.{List}
use Prim.Native.Nat.{ℕ}
use lib.IntN.{ℤ}
use lib.Ieee.{Float}
use Rattle.numbers.proofs.Answer.{same_answer}
use Rattle.pulse.specs.Pulse.{Line, line_at}
use Rattle.pulse.specs.Promises.{PushSymbolsSays}

pub push_symbols_only_answer : (rate : ℕ) (window : List Float) (cursor : ℕ) (symbols : List Float) (room : List ℤ) (r s : ℕ) (w v : List Float) (a b : List ℤ)
    → PushSymbolsSays rate window cursor symbols room r w a → PushSymbolsSays rate window cursor symbols room s v b → (r ≡ s) × (w ≡ v) × (a ≡ b)
push_symbols_only_answer rate window cursor symbols room r s w v a b p q =
    let lines : line_at w r ≡ line_at v s = same_answer p.enters q.enters in
    (ap (λ (l : Line). l.cursor) lines, ap (λ (l : Line). l.window) lines, same_answer p.writes q.writes)
