-- What a list of n samples and two more, given with a table of their filtered values, is tested for at p samples in a symbol: all of it in one test. Assumes nothing.
use mathlib.Core.Path.{◌≡◌}
use mathlib.Core.Bool.{Bool, ◌&&◌}
use mathlib.Core.List.{List, [], ◌∷◌, ◌++◌}
use Prim.Native.Nat.{ℕ, ◌+◌}
use lib.Dec.{T, eqb, eqb→eq}
use lib.IntN.{ℤ}
use lib.ListN.{length}
use lib.Ieee.{Float}
use lib.Ieee.Fits.{and_l, and_r}
use Rattle.numbers.specs.Below.{all_below}
use Rattle.protocol.specs.declared.Kind.{Kind}
use Rattle.search.specs.Search.{same_kind}
use Rattle.demodulator_examples.proofs.Steps.{Hits}
use Rattle.demodulator_examples.proofs.Table.{all_sixteen, listed, matched, silent, hits_matched}

module _ (p n : ℕ) (front : List ℤ) (x y : ℤ) (table : List Float) where
  -- the kind that matches at n + 1, for the first time, and which do at the next
  pub record Fits (kind : Kind) (hit : Kind → Bool) : Type 0 where
    pub long : length front ≡ n
    pub small : T (all_sixteen (front ++ (x ∷ y ∷ [])))
    pub quiet : T (all_below (n + 1) (silent p table))
    pub first : Hits (listed p table (n + 1)) (same_kind kind)
    pub second : Hits (listed p table (n + 1 + 1)) hit

  module _ (kind : Kind) (hit : Kind → Bool) where
    abbrev heard : Bool
    heard = matched p table (n + 1) (same_kind kind) && matched p table (n + 1 + 1) hit

    abbrev sized : Bool
    sized = eqb (length front) n && all_sixteen (front ++ (x ∷ y ∷ []))

    unfoldable pub tested : Bool
    tested = sized && (all_below (n + 1) (silent p table) && heard)

    pub fits : T tested → Fits kind hit
    unfolding tested
    fits t =
        let long = eqb (length front) n in
        let small = all_sixteen (front ++ (x ∷ y ∷ [])) in
        let quiet = all_below (n + 1) (silent p table) in
        let first = matched p table (n + 1) (same_kind kind) in
        let second = matched p table (n + 1 + 1) hit in
        let size = and_l sized (quiet && heard) t in
        let rest = and_r sized (quiet && heard) t in
        let found = and_r quiet heard rest in
        record {
          long = eqb→eq (length front) n (and_l long small size);
          small = and_r long small size;
          quiet = and_l quiet heard rest;
          first = hits_matched p table (n + 1) (same_kind kind) (and_l first second found);
          second = hits_matched p table (n + 1 + 1) hit (and_r first second found);
        }
