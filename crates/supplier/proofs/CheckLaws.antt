-- The three ways of a check: a padding count that is refused, a bad line, and the stretch beside ours. Assumes nothing.
use mathlib.Core.Path.{◌≡◌}
use mathlib.Core.List.{List}
use Prim.Native.Nat.{ℕ, ◌≤◌, ◌<◌}
use borrow.Author.Tests.{lt-ltb, le-ltb}
use lib.IntN.{ℤ}
use Rattle.protocol.specs.Refusals.{bare, at_line}
use Rattle.sending.specs.Text.{none, in_line, bad_line_lem}
use Rattle.supplier.specs.Check.{refused, beside, ours, unless_bad, checked}

module _ (padding : ℕ) (text : List ℕ) (samples : List ℤ) where
  pub checked_8 : 122400 < padding → checked padding text samples ≡ refused (bare 8)
  unfolding checked
  checked_8 l = rw (lt-ltb 122400 padding l)

  pub checked_17 : padding ≤ 122400 → (n : ℕ) → bad_line_lem text ≡ in_line n → checked padding text samples ≡ refused (at_line 17 n)
  unfolding checked unless_bad
  checked_17 l n e = rw (le-ltb 122400 padding l, e)

  pub checked_beside : padding ≤ 122400 → bad_line_lem text ≡ none → checked padding text samples ≡ beside 1 (ours padding text) samples
  unfolding checked unless_bad
  checked_beside l e = rw (le-ltb 122400 padding l, e)

-- what `check` is proved by
pub ruleset checking = (checked_8, checked_17, checked_beside)
