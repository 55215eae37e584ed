-- What the crate's own functions ask and promise: many samples in one. Assumes nothing.
use Rattle.std.specs.Prelude.{◌≡◌, Bool, true, false, ◌||◌, List, ℕ, ◌+◌, ◌-◌, ◌*◌, ◌^◌, ◌≤◌, ◌<◌, T, length, get_or, Float, Option, Some, None}
use Rattle.protocol.specs.declared.Kind.{Kind}
use Rattle.protocol.specs.declared.SyncBurst.{SyncBurst}
use Rattle.protocol.specs.declared.SyncBurst.TheVariants.{Frame, Preamble, EndOfTransmission}
use Rattle.decode.specs.Correlator.{matches, in_range}
use Rattle.search.specs.declared.Waiting.{Waiting}
use Rattle.search.specs.declared.Control.{Control}
use Rattle.search.specs.declared.Turn.{Turn}
use Rattle.search.specs.declared.Turn.TheVariants.{Rest, Offer, Look}
use Rattle.search.specs.Search.{with_timer}
use Rattle.search.specs.Turn.{cleared, counted_to}
use Rattle.search.specs.Fit.{held}
use Rattle.look.specs.Marks.{eight_from}
use Rattle.quiet.specs.declared.Walked.{Walked}
use Rattle.quiet.specs.Walk.{goes_on_lem, walked_from}

-- a turn's control, whichever it is
abbrev pub turn_control : Turn → Control
turn_control (Rest c) = c
turn_control (Offer shown c) = c
turn_control (Look c) = c

-- n samples in one, each only counted: the timer is cleared once, by the last one's number
abbrev pub counted_by : ℕ → Control → Control
counted_by n c = with_timer (cleared (c.sample + n) c.dcd) (counted_to (c.sample + n) c)

-- "take one from it", n times
abbrev pub nearer_by : ℕ → Waiting → Waiting
nearer_by n w = record { left = w.left - n; age = w.age; replaced = w.replaced }

-- a control that goes on and waits for nothing
abbrev pub free_with : Option Waiting → Bool → Bool
free_with None goes = goes
free_with (Some w) goes = false

abbrev pub is_free_lem : ℕ → Control → Bool
is_free_lem p c = free_with c.wait (goes_on_lem p c)

-- one of the two bursts that set the timer alone
abbrev pub carries : (ℕ → Float) → Bool
carries v = matches Preamble v || matches EndOfTransmission v

-- ---- many samples in one
-- n samples from place `at` on lead from the control c to d, each of them quiet: whatever comes after them goes on from d
abbrev pub Leads : ℕ → (ℕ → ℕ → Float) → ℕ → ℕ → Control → Control → Type 0
Leads p v at n c d = (k : ℕ) → walked_from p v at (n + k) c ≡ walked_from p v (at + n) k d

-- ---- what is known of a row, p samples a symbol
pub record InRange (p : ℕ) (row : List Float) (at n : ℕ) : Type 0 where
  pub rate : p ≤ 10
  pub long : at + (7 * p + 48) ≤ length row
  pub range : (i : ℕ) → i < n → (j : ℕ) → j < 8 → T (in_range (eight_from p row (at + i) j))

-- the next samples of a control that goes on, one at least
pub record Asked (p : ℕ) (row : List Float) (at left : ℕ) (c : Control) : Type 0 where
  pub some : 1 ≤ left
  pub goes : goes_on_lem p c ≡ true
  pub values : InRange p row at left

pub record Walks (p : ℕ) (row : List Float) (at left : ℕ) (c : Control) (r : Walked) : Type 0 where
  pub some : 1 ≤ r.fed
  pub most : r.fed ≤ left
  pub leads : Leads p (eight_from p row) at r.fed c r.control

-- a block of samples of a control that waits for nothing
pub record Block (p : ℕ) (row : List Float) (at n : ℕ) (c : Control) : Type 0 where
  pub some : 1 ≤ n
  pub few : n ≤ 48
  pub free : c.wait ≡ None
  pub goes : goes_on_lem p c ≡ true
  pub count : c.sample + n ≤ 2 ^ 63
  pub values : InRange p row at n

pub record Blocks (p : ℕ) (row : List Float) (at n : ℕ) (c : Control) (fed : ℕ) (d : Control) : Type 0 where
  pub some : 1 ≤ fed
  pub most : fed ≤ n
  pub leads : Leads p (eight_from p row) at fed c d

-- ---- the marks of a block's samples
pub record Marked (p : ℕ) (row : List Float) (at n : ℕ) (marks : List ℕ) : Type 0 where
  pub none : (i : ℕ) → i < n → get_or marks i 0 ≡ 0 → (burst : SyncBurst) → matches burst (eight_from p row (at + i)) ≡ false
  pub no_frame : (i : ℕ) → i < n → get_or marks i 0 < 2 → (kind : Kind) → matches (Frame kind) (eight_from p row (at + i)) ≡ false

-- nothing is held, and no frame's burst matches
pub record Calm (p : ℕ) (row : List Float) (at n : ℕ) (c : Control) : Type 0 where
  pub nothing : held c.candidate ≡ false
  pub no_frame : (i : ℕ) → i < n → (kind : Kind) → matches (Frame kind) (eight_from p row (at + i)) ≡ false

-- r is the next sample to be searched from `from` on: that one while a candidate is held, else the first that is marked, or n
pub record NextMark (marks : List ℕ) (from n : ℕ) (holds : Bool) (r : ℕ) : Type 0 where
  pub least : from ≤ r
  pub most : r ≤ n
  pub at_once : holds ≡ true → r ≡ from
  pub between : holds ≡ false → (i : ℕ) → from ≤ i → i < r → get_or marks i 0 ≡ 0

-- the sample before r carries, and none from r on
pub record LastCarrier (p : ℕ) (row : List Float) (at n r : ℕ) : Type 0 where
  pub most : r ≤ n
  pub last : 0 < r → carries (eight_from p row (at + (r - 1))) ≡ true
  pub after : (i : ℕ) → r ≤ i → i < n → carries (eight_from p row (at + i)) ≡ false
