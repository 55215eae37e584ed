-- A list whose first places are written one after the other as a part of it. Assumes nothing.
use mathlib.Core.Path.{◌≡◌}
use mathlib.Core.List.{List, [], ◌++◌, append-nil}
use Prim.Native.Nat.{ℕ, ◌≤◌}
use native.Mathlib.Omega.{arith}
use lib.ListN.{length, take, drop, drop_of_length-le}
use Rattle.std.proofs.lemmas.List.{length-take-le}
use Rattle.numbers.specs.Firsts.{firsts, written}

module _ {A : Type 0} (f : ℕ → A) (n : ℕ) (l : List A) where
  pub written_part : n ≤ length l → written f n (take n l) ++ drop n l ≡ written f n l
  written_part h =
      let long = length-take-le n l h in
      let none : drop n (take n l) ≡ [] = drop_of_length-le (take n l) (omega arith) in
      rw (none, append-nil (firsts f n))
