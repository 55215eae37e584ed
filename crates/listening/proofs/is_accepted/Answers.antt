-- `is_accepted` meets its contract. Assumes nothing.
use mathlib.Core.Path.{◌≡◌, refl, ◌∙◌}
use mathlib.Core.List.{List}
use Prim.Native.Nat.{ℕ, zero, suc, ◌≤◌}
use native.Mathlib.Omega.{arith}
use lib.Dec.{lit≤}
use lib.ListN.{take}
use lib.Ieee.{Float, nan}
use lib.Seq.{get_or-take}
use Rattle.protocol.specs.declared.Kind.{Kind}
use Rattle.house.specs.Accept.{read_bits, symbol_at, accepted}
use Rattle.listening.proofs.is_accepted.Goals as goal

-- the rule reads the first eight
bits_taken : (window : List Float) (n : ℕ) → n ≤ 8 → read_bits (symbol_at (take 8 window)) n ≡ read_bits (symbol_at window) n
unfolding read_bits
bits_taken window zero h = refl
bits_taken window (suc n) h = rw (bits_taken window n (omega arith), get_or-take 8 window n nan (omega arith))

eight_suffice : (kind : Kind) (window : List Float) → accepted kind (symbol_at (take 8 window)) ≡ accepted kind (symbol_at window)
unfolding accepted
eight_suffice kind window = rw (bits_taken window 8 (lit≤ tt))

pub returns : goal.returns
returns c =
    let a = c.args in
    c.accepts.ensures ∙ rw c.copy_from_slice.ensures.after (eight_suffice a.kind a.window)
