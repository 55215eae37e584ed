-- `mark` meets its contract. Assumes nothing.
use mathlib.Core.Path.{◌≡◌}
use mathlib.Core.List.{[], ◌∷◌}
use Prim.Native.Nat.{ℕ}
use lib.Ieee.{Float}
use Rattle.decode.specs.Correlator.{zero_unsigned, gain_of, shift_of}
use Rattle.decode.specs.Parts.{values_of}
use Rattle.look.specs.Marks.{top_of, bottom_of, mark_of}
use Rattle.look.proofs.Sides.{frame_found_lem, carrier_found_lem, none_found}
use Rattle.look.proofs.mark.Goals as goal
use Rattle.look.proofs.mark.Goals.{After-bottom-low}

abbrev unsigned : After-bottom-low → ℕ → Float
unsigned b i =
    let a = b.args in
    zero_unsigned (values_of (a.v0 ∷ a.v1 ∷ a.v2 ∷ a.v3 ∷ a.v4 ∷ a.v5 ∷ a.v6 ∷ a.v7 ∷ []) i)

top-of : (b : After-bottom-low) → b.top-high.result ≡ top_of (unsigned b) 7
unfolding top_of zero_unsigned
top-of b = b.top-high.ensures

bottom-of : (b : After-bottom-low) → b.bottom-low.result ≡ bottom_of (unsigned b) 7
unfolding bottom_of zero_unsigned
bottom-of b = b.bottom-low.ensures

pub returns-then-frame : goal.returns-then-frame
unfolding mark_of gain_of shift_of zero_unsigned
returns-then-frame c = frame_found_lem _ _ (unsigned c.before) (top-of c.before) (bottom-of c.before) c.if-frame.true

pub returns-then-carrier : goal.returns-then-carrier
unfolding mark_of gain_of shift_of zero_unsigned
returns-then-carrier c =
    carrier_found_lem _ _ (unsigned c.before.before) (top-of c.before.before) (bottom-of c.before.before) c.if-frame.false c.if-carrier.true

pub returns-else-carrier : goal.returns-else-carrier
unfolding mark_of gain_of shift_of zero_unsigned
returns-else-carrier c =
    none_found _ _ (unsigned c.before.before) (top-of c.before.before) (bottom-of c.before.before) c.if-frame.false c.if-carrier.false
