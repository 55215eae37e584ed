-- Which controls a record can hold, and which numbers are those of one. Assumes nothing.
use Rattle.search.specs.declared.Waiting.{Waiting}
use Rattle.std.specs.Prelude.{ℕ, ◌<◌, ◌≡◌, List, get_or, Float, Option, Some, None}
use Rattle.search.specs.declared.Control.{Control}
use Rattle.search.specs.Search.{age_of}
use Rattle.library_layout.specs.Layout.{no_levels}

abbrev pub left_of : Option Waiting → ℕ
left_of None = 0
left_of (Some w) = w.left

abbrev pub kept_age : Option Waiting → ℕ
kept_age None = 0
kept_age (Some w) = w.age

-- what the types of a record's fields let it hold: an age has 8 bits, what is left of a wait 16
pub record Holdable (c : Control) : Type 0 where
  pub age : age_of c.candidate < 256
  pub left : left_of c.wait < 65536
  pub kept : kept_age c.wait < 256

-- what is not held is 0
pub record Plain (n : List ℕ) (l : List Float) : Type 0 where
  pub no_candidate : get_or n 4 0 ≡ 0 → (get_or n 5 0 ≡ 0) × (get_or n 6 0 ≡ 0) × (l ≡ no_levels)
  pub no_wait : get_or n 7 0 ≡ 0 → (get_or n 8 0 ≡ 0) × (get_or n 9 0 ≡ 0) × (get_or n 10 0 ≡ 0)
  pub no_timer : get_or n 11 0 ≡ 0 → get_or n 12 0 ≡ 0
