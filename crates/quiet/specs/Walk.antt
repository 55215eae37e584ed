-- Quiet samples one after the other, over p, the samples in a symbol: as far as the control goes on. Assumes nothing.
use Rattle.search.specs.declared.Waiting.{Waiting}
use Rattle.std.specs.Prelude.{◌≡◌, Bool, false, not, cond, ◌&&◌, List, ℕ, zero, suc, ◌+◌, ◌-◌, ◌*◌, ◌^◌, min, leb, ltb, length, take, Float, Option, Some, None}
use Rattle.search.specs.declared.Control.{Control}
use Rattle.search.specs.Fit.{control_fit_lem}
use Rattle.search.specs.Turn.{control_of, sampled}
use Rattle.look.specs.Rows.{row_in_range}
use Rattle.look.specs.Marks.{eight_from}
use Rattle.quiet.specs.declared.Walked.{Walked}

-- the frame that is awaited is due at the next sample
abbrev pub is_due_lem : Option Waiting → Bool
is_due_lem None = false
is_due_lem (Some w) = leb w.left 1

-- The control is no cause to refuse the next sample, neither 1 "record unfit" nor 2 "sample given while a reply is owed" nor 5 "sample given
-- at count 2^63", and no frame is due at it.
unfoldable pub goes_on_lem : ℕ → Control → Bool
goes_on_lem p c = control_fit_lem p c && not c.owed && ltb c.sample (2 ^ 63) && not (is_due_lem c.wait)

abbrev pub walked_to : ℕ → Control → Walked
walked_to i c = record { fed = i; control = c }

-- n samples more, after i: `v i` are the eight values of the next one
unfoldable pub walked_from : ℕ → (ℕ → ℕ → Float) → ℕ → ℕ → Control → Walked
walked_from p v i zero c = walked_to i c
walked_from p v i (suc n) c = cond (goes_on_lem p c) (walked_from p v (i + 1) n (control_of (sampled p (v i) c))) (walked_to i c)

-- of n samples, those before the one at which an awaited frame is due: the walk takes no others
unfoldable pub before_due : Option Waiting → ℕ → ℕ
before_due None n = n
before_due (Some w) n = min (w.left - 1) n

-- the row has the values of seven symbols before the samples, theirs, and the places of a block after them; all but these last are in range.
-- The rates have 10 samples a symbol at most.
abbrev pub row_ready : ℕ → List Float → ℕ → Bool
row_ready p row count = leb p 10 && leb (count + (7 * p + 48)) (length row) && row_in_range (take (count + 7 * p) row)

-- the first samples of a row that is ready, and none of another
unfoldable pub walked : ℕ → List Float → ℕ → Control → Walked
walked p row count c = cond (row_ready p row count) (walked_from p (eight_from p row) 0 count c) (walked_to 0 c)

-- ---- what the function promises
abbrev pub WalkSays : ℕ → List Float → ℕ → Control → Walked → Type 0
WalkSays p row count c r = r ≡ walked p row count c
