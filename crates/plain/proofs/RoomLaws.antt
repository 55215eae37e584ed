-- The list in the lent rooms: an entry after those before it. Assumes nothing.
use Rattle.std.specs.Prelude.{Option, Some, None}
use mathlib.Core.Path.{◌≡◌, refl, sym, ap, ◌∙◌, subst}
use mathlib.Core.Bool.{Bool}
use mathlib.Core.List.{List, [], ◌∷◌, ◌++◌, append-nil, append_assoc, flat_map}
use Prim.Native.Nat.{ℕ, ◌+◌, ◌-◌, ◌*◌, ◌≤◌, ◌<◌}
use native.Mathlib.Omega.{arith}
use borrow.Rule.Slice.PartMut.{put_mid}
use lib.IntN.{ℤ}
use lib.ListN.{length, get_or, set, take, drop, length-append, length-drop}
use lib.Seq.{take_at, drop_at, drop-drop, length-take-le}
use lib.Ieee.{Float}
use Rattle.numbers.specs.Firsts.{firsts}
use Rattle.numbers.proofs.Firsts.{length_firsts}
use Rattle.numbers.proofs.Tail.{tail_lent, tail_back}
use Rattle.machine.proofs.Parts.{given_joined}
use Rattle.shaping.specs.Rate.{tap_count}
use Rattle.demodulator.specs.Spans.{symbol_at}
use Rattle.plain.specs.declared.due.Due.{Due}
use Rattle.plain.specs.List.{Entry}
use Rattle.plain.specs.Values.{from_whole}
use Rattle.plain.specs.Rest.{resumes_at, numbers_of_lem, offer_of_due, entry_at, Finds}
use Rattle.plain.specs.Listing.{rules_list, numbers_in, symbols_in, WritesOne, WritesAll}
use Rattle.plain.proofs.ListProgress.{Progress, begun, stepped, ended, filled, unanswered, counted_last}

-- ---- five numbers, one after the other
pub five_set : (l : List ℕ) (a b c d e : ℕ) → 5 ≤ length l → set (set (set (set (set l 0 a) 1 b) 2 c) 3 d) 4 e ≡ a ∷ b ∷ c ∷ d ∷ e ∷ drop 5 l
five_set [] a b c d e long = absurd (omega arith)
five_set (_ ∷ []) a b c d e long = absurd (omega arith)
five_set (_ ∷ _ ∷ []) a b c d e long = absurd (omega arith)
five_set (_ ∷ _ ∷ _ ∷ []) a b c d e long = absurd (omega arith)
five_set (_ ∷ _ ∷ _ ∷ _ ∷ []) a b c d e long = absurd (omega arith)
five_set (_ ∷ _ ∷ _ ∷ _ ∷ _ ∷ l) a b c d e long = refl

-- ---- the rooms
-- a part that is written into a lent tail
pub placed : {A : Type 0} (room : List A) (at n : ℕ) (new tail : List A) → at ≤ length room → tail ≡ new ++ drop n (take (length room - at) (drop at room))
    → put_mid at (length room - at) room tail ≡ take at room ++ (new ++ drop (at + n) room)
placed room at n new tail within e =
    tail_back room at tail within ∙ ap (λ t. take at room ++ t) (e ∙ ap (λ t. new ++ drop n t) (tail_lent room at) ∙ ap (λ t. new ++ t) (drop-drop n at room))

placed_long : {A : Type 0} (room new : List A) (at n : ℕ) → length new ≡ n → at + n ≤ length room → length (take at room ++ (new ++ drop (at + n) room)) ≡ length room
placed_long room new at n long within =
    length-append (take at room) (new ++ drop (at + n) room)
    ∙ omega (arith, length-take-le at room (omega arith), length-append new (drop (at + n) room), length-drop (at + n) room, long)

pub one_long : (table : List Float) (p : ℕ) (xs : List ℤ) (count : ℕ) (d : Due) (numbers : List ℕ) (symbols : List Float) (numbers' : List ℕ) (symbols' : List Float)
    → WritesOne count (entry_at table p xs d) numbers symbols numbers' symbols' → 5 * count + 5 ≤ length numbers → 192 * count + 192 ≤ length symbols
    → (length numbers' ≡ length numbers) × (length symbols' ≡ length symbols)
one_long table p xs count d numbers symbols numbers' symbols' one a b =
    let window = firsts (symbol_at p d.shown (from_whole table p xs d.sample)) 192 in (
      ap length one.numbered ∙ placed_long numbers (numbers_of_lem (offer_of_due d)) (5 * count) 5 refl a,
      ap length one.written ∙ placed_long symbols window (192 * count) 192 (length_firsts _ 192) b,
    )

-- a part that is written after what is there already
module _ {A : Type 0} (part : Entry → List A) (n : ℕ) (es : List Entry) (count : ℕ) (full : length (flat_map part es) ≡ n * count) (e : Entry) where
  joined : flat_map part (es ++ (e ∷ [])) ≡ flat_map part es ++ part e
  unfolding flat_map
  joined = given_joined part es (e ∷ []) ∙ ap (λ (l : List A). flat_map part es ++ l) (append-nil (part e))

  parts_full : length (part e) ≡ n → length (flat_map part (es ++ (e ∷ []))) ≡ n * (count + 1)
  parts_full each = ap length joined ∙ length-append (flat_map part es) (part e) ∙ omega (arith, each, full)

  parts_more : (room room₀ room' : List A) → room ≡ flat_map part es ++ drop (n * count) room₀
      → room' ≡ take (n * count) room ++ (part e ++ drop (n * count + n) room) → room' ≡ flat_map part (es ++ (e ∷ [])) ++ drop (n * (count + 1)) room₀
  parts_more room room₀ room' is writes =
      let front : take (n * count) room ≡ flat_map part es = ap (take (n * count)) is ∙ take_at (flat_map part es) (drop (n * count) room₀) (n * count) full in
      let further : n * count + n ≡ n * (count + 1) = omega arith in
      let back : drop (n * count + n) room ≡ drop (n * (count + 1)) room₀ =
      sym (drop-drop n (n * count) room)
      ∙ ap (drop n) (ap (drop (n * count)) is ∙ drop_at (flat_map part es) (drop (n * count) room₀) (n * count) full) ∙ drop-drop n (n * count) room₀
      ∙ ap (λ (m : ℕ). drop m room₀) further in
      writes ∙ rw (front, back) (sym (append_assoc (flat_map part es) (part e) (drop (n * (count + 1)) room₀)) ∙ ap (λ (l : List A). l ++ drop (n * (count + 1)) room₀) (sym joined))

module _ (table : List Float) (p : ℕ) (size : length table ≡ tap_count p) (xs : List ℤ) (short : length xs ≤ 65536) (replies : List Bool)
    (numbers₀ : List ℕ) (symbols₀ : List Float) where
  -- the list so far is at the front of the rooms
  pub record Writing (from count : ℕ) (numbers : List ℕ) (symbols : List Float) : Type 0 where
    pub progress : Progress table p size xs short replies from count
    pub numbers_full : length (numbers_in progress.listed) ≡ 5 * count
    pub symbols_full : length (symbols_in progress.listed) ≡ 192 * count
    pub numbered : numbers ≡ numbers_in progress.listed ++ drop (5 * count) numbers₀
    pub written : symbols ≡ symbols_in progress.listed ++ drop (192 * count) symbols₀

  pub writing_begun : Writing 1 0 numbers₀ symbols₀
  unfolding numbers_in symbols_in flat_map begun
  writing_begun = record { progress = begun table p size xs short replies; numbers_full = refl; symbols_full = refl; numbered = refl; written = refl }

  -- the list is in the rooms
  all_written : (from count : ℕ) (numbers : List ℕ) (symbols : List Float) (w : Writing from count numbers symbols) → rules_list table p xs replies ≡ w.progress.listed
      → WritesAll (rules_list table p xs replies) numbers₀ symbols₀ numbers symbols
  all_written from count numbers symbols w all =
      let long : length (rules_list table p xs replies) ≡ count = ap length all ∙ w.progress.long in
      record { numbered = rw (long, all) w.numbered; written = rw (long, all) w.written }

  pub writing_filled : (from count : ℕ) (numbers : List ℕ) (symbols : List Float) → Writing from count numbers symbols → length (rules_list table p xs replies) ≤ count
      → WritesAll (rules_list table p xs replies) numbers₀ symbols₀ numbers symbols
  writing_filled from count numbers symbols w full = all_written from count numbers symbols w (filled table p size xs short replies from count w.progress full)

  module _ (from count : ℕ) (numbers : List ℕ) (symbols : List Float) (w : Writing from count numbers symbols) (n : Option Due) (f : Finds table p xs from n) where
    pub writing_ended : n ≡ None → WritesAll (rules_list table p xs replies) numbers₀ symbols₀ numbers symbols
    writing_ended e = all_written from count numbers symbols w (ended table p size xs short replies from count w.progress n f e)

    module _ (d : Due) (is : n ≡ Some d) (numbers' : List ℕ) (symbols' : List Float) (one : WritesOne count (entry_at table p xs d) numbers symbols numbers' symbols') where
      abbrev es : List Entry
      es = w.progress.listed

      numbers_more : numbers' ≡ numbers_in (es ++ (entry_at table p xs d ∷ [])) ++ drop (5 * (count + 1)) numbers₀
      unfolding numbers_in
      numbers_more = parts_more (λ (e : Entry). numbers_of_lem e.due) 5 es count w.numbers_full (entry_at table p xs d) numbers numbers₀ numbers' w.numbered one.numbered

      symbols_more : symbols' ≡ symbols_in (es ++ (entry_at table p xs d ∷ [])) ++ drop (192 * (count + 1)) symbols₀
      unfolding symbols_in
      symbols_more = parts_more (λ (e : Entry). e.symbols) 192 es count w.symbols_full (entry_at table p xs d) symbols symbols₀ symbols' w.written one.written

      numbers_fuller : length (numbers_in (es ++ (entry_at table p xs d ∷ []))) ≡ 5 * (count + 1)
      unfolding numbers_in
      numbers_fuller = parts_full (λ (e : Entry). numbers_of_lem e.due) 5 es count w.numbers_full (entry_at table p xs d) refl

      symbols_fuller : length (symbols_in (es ++ (entry_at table p xs d ∷ []))) ≡ 192 * (count + 1)
      unfolding symbols_in
      symbols_fuller = parts_full (λ (e : Entry). e.symbols) 192 es count w.symbols_full (entry_at table p xs d) (length_firsts _ 192)

      step_on : (default : Bool) → count < length replies → Writing (resumes_at (get_or replies count default) d.sample) (count + 1) numbers' symbols'
      unfolding stepped
      step_on default more = record {
        progress = stepped table p size xs short replies from count default w.progress n f d is more;
        numbers_full = numbers_fuller;
        symbols_full = symbols_fuller;
        numbered = numbers_more;
        written = symbols_more;
      }

      pub writing_step : (default : Bool) → count < length replies → (next : ℕ) → next ≡ resumes_at (get_or replies count default) d.sample
          → Writing next (count + 1) numbers' symbols'
      writing_step default more next e = subst (λ (k : ℕ). Writing k (count + 1) numbers' symbols') (sym e) (step_on default more)

      pub writing_last : length replies ≤ count → WritesAll (rules_list table p xs replies) numbers₀ symbols₀ numbers' symbols'
      writing_last none =
          let all = unanswered table p size xs short replies from count w.progress n f d is none in
          let long : length (rules_list table p xs replies) ≡ count + 1 = sym (counted_last table p size xs short replies from count w.progress n f d is none) in
          record { numbered = rw (long, all) numbers_more; written = rw (long, all) symbols_more }
