-- What a row and its marks tell of a block's samples. Assumes nothing.
use mathlib.Core.Path.{◌≡◌, refl, sym, ap, subst, ◌∙◌}
use mathlib.Core.Bool.{Bool, true, false, true≢false, ◌||◌}
use mathlib.Core.List.{List}
use Prim.Native.Nat.{ℕ, ◌+◌, ◌-◌, ◌*◌, ◌≤◌, ◌<◌, min}
use native.Mathlib.Nat.{min-eq_left, mul-le-mul_left}
use native.Mathlib.Omega.{arith}
use borrow.Author.Tests.{leb-false}
use lib.Dec.{T, leb}
use lib.ListN.{length, get_or, take, drop, length-take, length-drop}
use lib.Seq.{get_or-take, get_or-drop}
use lib.Ieee.{Float, nan}
use lib.Ieee.Bits.{is_false}
use Rattle.numbers.specs.Below.{any_below}
use Rattle.numbers.specs.Firsts.{firsts}
use Rattle.numbers.proofs.Tests.{holds, fails}
use Rattle.numbers.proofs.Below.{all_below_lem, none_below}
use Rattle.numbers.proofs.Firsts.{firsts_at}
use Rattle.protocol.specs.declared.Kind.{Kind}
use Rattle.protocol.specs.declared.SyncBurst.TheVariants.{Frame, Preamble, EndOfTransmission}
use Rattle.decode.specs.Correlator.{matches, in_range}
use Rattle.decode.specs.Parts.{values_of}
use Rattle.decode.proofs.Same.{matches_same}
use Rattle.search.specs.declared.Control.{Control}
use Rattle.search.specs.Search.{searched}
use Rattle.search.proofs.Silent.{Unmatched}
use Rattle.search.proofs.SearchSame.{searched_same}
use Rattle.look.specs.Rows.{value_faint, row_in_range, row_faint}
use Rattle.look.specs.Marks.{mark_of, eight_from, marks_of}
use Rattle.look.proofs.RowMarks.{marks_long, mark_same}
use Rattle.look.proofs.SignLaw.{no_frame, unmarked}
use Rattle.look.proofs.Faint.{faint_unmatched}
use Rattle.quiet.specs.Parts.{carries, InRange, Marked}

-- ---- eight values of a sample
-- from the oldest to the newest there are seven symbols
pub seven_symbols : (p j : ℕ) → j < 8 → p * j ≤ 7 * p
seven_symbols p j l =
    let few : j ≤ 7 = omega arith in
    omega (arith, mul-le-mul_left p few)

-- kept in a list
module _ (g : ℕ → Float) (values : List Float) (same : values ≡ firsts g 8) where
  listed : (i : ℕ) → i < 8 → values_of values i ≡ g i
  listed i l = rw same (firsts_at g 8 i nan l)

  pub found_last : (p : ℕ) (counted d r : Control) → r ≡ searched p (values_of values) counted → counted ≡ d → r ≡ searched p g d
  found_last p counted d r e h = e ∙ rw h (searched_same p (values_of values) g listed d)

  pub carries_eight : (r : Bool) → r ≡ carries (values_of values) → r ≡ carries g
  carries_eight r e = e ∙ rw (matches_same Preamble (values_of values) g listed, matches_same EndOfTransmission (values_of values) g listed)

-- ---- which bursts do not match
pub uncarried : (u : ℕ → Float) → Unmatched u → carries u ≡ false
uncarried u none = rw (none Preamble, none EndOfTransmission)

pub neither : (a b : Bool) → a || b ≡ false → (a ≡ false) × (b ≡ false)
neither true b e = absurd (true≢false e)
neither false b e = (refl, e)

pub unmatched_all : (u : ℕ → Float) → carries u ≡ false → ((kind : Kind) → matches (Frame kind) u ≡ false) → Unmatched u
unmatched_all u e none Preamble = (neither (matches Preamble u) (matches EndOfTransmission u) e).0
unmatched_all u e none EndOfTransmission = (neither (matches Preamble u) (matches EndOfTransmission u) e).1
unmatched_all u e none (Frame kind) = none kind

-- ---- a part of the row
module _ (p : ℕ) (row : List Float) (at : ℕ) (part : List Float) (is : part ≡ take (at + (7 * p + 48) - at) (drop at row)) (long : at + (7 * p + 48) ≤ length row) where
  pub part_long : length part ≡ 7 * p + 48
  part_long =
      let width : at + (7 * p + 48) - at ≡ 7 * p + 48 = omega arith in
      let rest : 7 * p + 48 ≤ length (drop at row) = omega (arith, length-drop at row) in
      ap length is ∙ length-take (at + (7 * p + 48) - at) (drop at row) ∙ rw width (min-eq_left rest)

  part_at : (k : ℕ) → k < 7 * p + 48 → get_or part k nan ≡ get_or row (at + k) nan
  part_at k l =
      ap (λ (q : List Float). get_or q k nan) is ∙ get_or-take (at + (7 * p + 48) - at) (drop at row) k nan (omega arith) ∙ get_or-drop at row k nan

  -- the eight values of sample i of the part are those of sample at + i of the row
  part_eight : (i : ℕ) → i < 48 → (j : ℕ) → j < 8 → eight_from p part i j ≡ eight_from p row (at + i) j
  part_eight i h j l =
      let there : at + (i + p * j) ≡ at + i + p * j = omega arith in
      part_at (i + p * j) (omega (arith, seven_symbols p j l)) ∙ ap (λ (k : ℕ). get_or row k nan) there

  pub faint_all : row_faint part ≡ true → (i : ℕ) → i < 48 → Unmatched (eight_from p row (at + i))
  unfolding row_faint
  faint_all e i h =
      faint_unmatched (eight_from p row (at + i)) λ j l.
      let place : i + p * j < length part = omega (arith, part_long, seven_symbols p j l) in
      subst (λ (x : Float). T (value_faint x)) (part_eight i h j l)
      (all_below_lem (length part) (λ (k : ℕ). value_faint (values_of part k)) (holds e) (i + p * j) place)

  module _ (rate : p ≤ 10) (marks : List ℕ) (made : marks ≡ marks_of p part) where
    mark_at : (i : ℕ) → i < 48 → get_or marks i 0 ≡ mark_of (eight_from p row (at + i))
    mark_at i h =
        ap (λ (q : List ℕ). get_or q i 0) (made ∙ marks_long p part rate (omega (arith, part_long)))
        ∙ firsts_at (λ (k : ℕ). mark_of (eight_from p part k)) 48 i 0 h
        ∙ mark_same (eight_from p part i) (eight_from p row (at + i)) (part_eight i h)

    pub marked : (n : ℕ) → n ≤ 48 → InRange p row at n → Marked p row at n marks
    marked n few values = record {
      none = λ i h z. unmarked (eight_from p row (at + i)) (values.range i h) (sym (mark_at i (omega arith)) ∙ z);
      no_frame = λ i h l. no_frame (eight_from p row (at + i)) (values.range i h) (rw (mark_at i (omega arith)) at l);
    }

-- no mark is this high: each is below
pub unmarked_below : (marks : List ℕ) (least : ℕ) → any_below 48 (λ (k : ℕ). leb least (get_or marks k 0)) ≡ false → (i : ℕ) → i < 48
    → get_or marks i 0 < least
unmarked_below marks least e i h =
    leb-false least (get_or marks i 0)
    (is_false (leb least (get_or marks i 0)) (none_below 48 (λ (k : ℕ). leb least (get_or marks k 0)) (fails e) i h))

-- ---- the whole row
pub row_range : (p : ℕ) (row : List Float) (count at left : ℕ) → p ≤ 10 → count + (7 * p + 48) ≤ length row → at + left ≤ count
    → row_in_range (take (count + 7 * p) row) ≡ true → InRange p row at left
unfolding row_in_range
row_range p row count at left rate long all e = record {
  rate = rate;
  long = omega arith;
  range = λ i h j l.
      let k : ℕ = at + i + p * j in
      let below : k < count + 7 * p = omega (arith, seven_symbols p j l) in
      let fits : min (count + 7 * p) (length row) ≡ count + 7 * p = min-eq_left (omega arith) in
      let in-part : k < length (take (count + 7 * p) row) = rw (length-take (count + 7 * p) row, fits) below in
      subst (λ (x : Float). T (in_range x)) (get_or-take (count + 7 * p) row k nan below)
      (all_below_lem (length (take (count + 7 * p) row)) (λ (q : ℕ). in_range (values_of (take (count + 7 * p) row) q)) (holds e) k in-part);
}
