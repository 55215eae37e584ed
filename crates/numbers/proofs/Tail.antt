-- A slice's tail, lent from place m on: what the callee is given, and what the slice holds when the tail is back. Assumes nothing.
use mathlib.Core.Path.{◌≡◌, ap, ◌∙◌}
use mathlib.Core.List.{List, [], ◌++◌, append-nil}
use Prim.Native.Nat.{ℕ, ◌-◌, ◌≤◌}
use native.Mathlib.Omega.{arith}
use borrow.Rule.Slice.PartMut.{put_mid, post_of, Post-is}
use lib.ListN.{length, take, drop, length-drop}
use lib.Seq.{take_all, drop-length}

module _ {A : Type 0} (l : List A) (m : ℕ) where
  pub tail_lent : take (length l - m) (drop m l) ≡ drop m l
  tail_lent = take_all (length l - m) (drop m l) (omega (arith, length-drop m l))

  pub tail_back : (tail : List A) → m ≤ length l → put_mid m (length l - m) l tail ≡ take m l ++ tail
  tail_back tail h =
      let nothing : post_of m (length l - m) l ≡ [] = Post-is m (length l) l h ∙ drop-length l in
      ap (λ (t : List A). take m l ++ (tail ++ t)) nothing ∙ ap (λ (t : List A). take m l ++ t) (append-nil tail)
