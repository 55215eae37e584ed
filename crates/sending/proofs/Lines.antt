-- The lines of a text: what its first bytes say of its first line. Assumes nothing.
use mathlib.Core.Path.{◌≡◌, refl, sym, ap, subst, ◌∙◌}
use mathlib.Core.Bool.{Bool, true, false, ◌||◌}
use mathlib.Core.List.{List, [], ◌∷◌, ◌++◌, append_assoc}
use Prim.Native.Nat.{ℕ, zero, suc, ◌+◌, ◌≤◌, ◌<◌}
use native.Mathlib.Nat.{not-suc-le-zero}
use native.Mathlib.Omega.{arith}
use lib.Dec.{T, eqb, eqb→eq}
use lib.ListN.{length, get_or, take, drop, length-append, length-take, get_or-append}
use Rattle.std.specs.List.{list_any}
use lib.Seq.{split_at, drop-length, get_or-take}
use Rattle.numbers.proofs.Tests.{holds}
use Rattle.house.specs.Digits.{capitals, place_in, value_of, is_digit}
use Rattle.house.specs.Line.{line_feed, good_line}
use Rattle.house.proofs.Lines.{good_digit, good_length, good_end}
use Rattle.sending.specs.Text.{is_feed, has_feed_lem, in_front, lines_of, good_front, first_bad_lem, in_line}

-- ---- line feeds
neither : (a b : Bool) → a || b ≡ false → (a ≡ false) × (b ≡ false)
neither true b e = let z : ◌≡◌ {A = ℕ} 0 1 = cc in absurd (never z)
  where
    never : ◌≡◌ {A = ℕ} 0 1 → ⊥
    never z = omega arith
neither false b e = (refl, e)

-- a test has one outcome
pub never_both : {b : Bool} → b ≡ true → b ≡ false → ⊥
never_both p q = subst T q (holds p)

module _ (b : ℕ) (l : List ℕ) (none : has_feed_lem (b ∷ l) ≡ false) where
  pub first_plain : is_feed b ≡ false
  unfolding has_feed_lem
  first_plain = (neither (is_feed b) (has_feed_lem l) none).0

  pub rest_plain : has_feed_lem l ≡ false
  unfolding has_feed_lem
  rest_plain = (neither (is_feed b) (has_feed_lem l) none).1

pub plain_at : (l : List ℕ) (i : ℕ) → has_feed_lem l ≡ false → i < length l → is_feed (get_or l i 0) ≡ false
plain_at [] i h k = absurd (not-suc-le-zero k)
plain_at (b ∷ l) zero h k = first_plain b l h
plain_at (b ∷ l) (suc i) h k = plain_at l i (rest_plain b l h) (omega arith)

pub plain_all : (l : List ℕ) → ((i : ℕ) → i < length l → is_feed (get_or l i 0) ≡ false) → has_feed_lem l ≡ false
unfolding has_feed_lem
plain_all [] h = refl
plain_all (b ∷ l) h = rw (h 0 (omega arith), plain_all l (λ i k. h (suc i) (omega arith)))

-- as the code looks for one
pub feed_among : (l : List ℕ) → list_any (λ b. eqb b line_feed) l ≡ has_feed_lem l
unfolding has_feed_lem
feed_among [] = refl
feed_among (b ∷ l) = ap (λ (t : Bool). is_feed b || t) (feed_among l)

-- the first line feed of a list
pub record FeedIn (l : List ℕ) : Type 0 where
  pub before : List ℕ
  pub behind : List ℕ
  pub parts : l ≡ before ++ (line_feed ∷ behind)
  pub first : has_feed_lem before ≡ false

pub feed_in_lem : (l : List ℕ) → has_feed_lem l ≡ true → FeedIn l
unfolding has_feed_lem
feed_in_lem [] h = absurd (never_both {b = false} h refl)
feed_in_lem (b ∷ l) h = by_test (is_feed b) refl (feed_in_lem l)
  where
    by_test : (t : Bool) → is_feed b ≡ t → (has_feed_lem l ≡ true → FeedIn l) → FeedIn (b ∷ l)
    by_test true e in_rest =
        let same : b ≡ line_feed = eqb→eq b line_feed (holds e) in
        record { before = []; behind = l; parts = ap (λ (x : ℕ). x ∷ l) same; first = refl }
    by_test false e in_rest =
        let rest = in_rest (rw e at h) in
        record { before = b ∷ rest.before; behind = rest.behind; parts = ap (λ (x : List ℕ). b ∷ x) rest.parts; first = rw (e, rest.first) }

-- ---- the first line
lines_feed : (b : ℕ) (rest : List ℕ) → is_feed b ≡ true → lines_of (b ∷ rest) ≡ (b ∷ []) ∷ lines_of rest
unfolding lines_of
lines_feed b rest e = rw e

lines_plain : (b : ℕ) (rest : List ℕ) → is_feed b ≡ false → lines_of (b ∷ rest) ≡ in_front b (lines_of rest)
unfolding lines_of
lines_plain b rest e = rw e

-- up to its line feed
pub line_ended : (l rest : List ℕ) → has_feed_lem l ≡ false → lines_of (l ++ (line_feed ∷ rest)) ≡ (l ++ (line_feed ∷ [])) ∷ lines_of rest
unfolding in_front
line_ended [] rest h = lines_feed line_feed rest refl
line_ended (b ∷ l) rest h = lines_plain b (l ++ (line_feed ∷ rest)) (first_plain b l h) ∙ ap (in_front b) (line_ended l rest (rest_plain b l h))

-- a last one that lacks it
pub line_open : (b : ℕ) (l : List ℕ) → has_feed_lem (b ∷ l) ≡ false → lines_of (b ∷ l) ≡ (b ∷ l) ∷ []
unfolding in_front lines_of
line_open b [] h = lines_plain b [] (first_plain b [] h)
line_open b (a ∷ l) h = lines_plain b (a ∷ l) (first_plain b (a ∷ l) h) ∙ ap (in_front b) (line_open a l (rest_plain b (a ∷ l) h))

-- a line that goes on after the bytes `l`
pub record GoesOn (l : List ℕ) (lines : List (List ℕ)) : Type 0 where
  pub more : List ℕ
  pub others : List (List ℕ)
  pub parts : lines ≡ (l ++ more) ∷ others

one_in_front : (b : ℕ) (lines : List (List ℕ)) → GoesOn (b ∷ []) (in_front b lines)
unfolding in_front
one_in_front b [] = record { more = []; others = []; parts = refl }
one_in_front b (l ∷ lines) = record { more = l; others = lines; parts = refl }

pub goes_on : (b : ℕ) (l rest : List ℕ) → has_feed_lem (b ∷ l) ≡ false → GoesOn (b ∷ l) (lines_of ((b ∷ l) ++ rest))
unfolding in_front
goes_on b [] rest h =
    let one = one_in_front b (lines_of rest) in
    record { more = one.more; others = one.others; parts = lines_plain b rest (first_plain b [] h) ∙ one.parts }
goes_on b (a ∷ l) rest h =
    let on = goes_on a l rest (rest_plain b (a ∷ l) h) in
    record { more = on.more; others = on.others; parts = lines_plain b ((a ∷ l) ++ rest) (first_plain b (a ∷ l) h) ∙ ap (in_front b) on.parts }

-- ---- a good line is the first
feed_no_digit : T (is_digit line_feed) → ⊥
unfolding value_of place_in capitals
feed_no_digit t = t

digit_plain : (b : ℕ) → T (is_digit b) → is_feed b ≡ false
digit_plain b d = by_test (is_feed b) refl
  where
    by_test : (t : Bool) → is_feed b ≡ t → t ≡ false
    by_test true e =
        let same : b ≡ line_feed = eqb→eq b line_feed (holds e) in
        absurd (feed_no_digit (subst (λ (x : ℕ). T (is_digit x)) same d))
    by_test false e = refl

module _ (l : List ℕ) (good : good_line l ≡ true) where
  size : length l ≡ 97
  size = good_length l (holds good)

  pub good_plain : has_feed_lem (take 96 l) ≡ false
  good_plain =
      plain_all (take 96 l) λ i k.
      let inside : i < 96 = omega (arith, length-take 96 l) in
      rw (get_or-take 96 l i 0 inside) (digit_plain (get_or l i 0) (good_digit l (holds good) i inside))

  pub good_parts : l ≡ take 96 l ++ (line_feed ∷ [])
  good_parts =
      let nothing : drop 97 l ≡ [] = ap (λ (n : ℕ). drop n l) (sym size) ∙ drop-length l in
      split_at l 96 0 (omega (arith, size)) ∙ ap (λ (x : ℕ). take 96 l ++ (x ∷ drop 97 l)) (good_end l (holds good)) ∙ ap (λ (x : List ℕ). take 96 l ++ (line_feed ∷ x)) nothing

  pub good_first : (rest : List ℕ) → lines_of (l ++ rest) ≡ l ∷ lines_of rest
  good_first rest =
      ap (λ (x : List ℕ). lines_of (x ++ rest)) good_parts
      ∙ ap lines_of (append_assoc (take 96 l) (line_feed ∷ []) rest)
      ∙ line_ended (take 96 l) rest good_plain
      ∙ ap (λ (x : List ℕ). x ∷ lines_of rest) (sym good_parts)

-- ---- a bad line is the first
pub record BadFirst (lines : List (List ℕ)) : Type 0 where
  pub bad : List ℕ
  pub others : List (List ℕ)
  pub parts : lines ≡ bad ∷ others
  pub is_bad : good_line bad ≡ false

-- what cannot be true is false
not_good : (l : List ℕ) → (good_line l ≡ true → ⊥) → good_line l ≡ false
not_good l h = by_test (good_line l) refl
  where
    by_test : (t : Bool) → good_line l ≡ t → t ≡ false
    by_test true e = absurd (h e)
    by_test false e = refl

pub too_short : (l : List ℕ) → length l < 97 → good_line l ≡ false
too_short l h = not_good l λ e. let never : ⊥ = omega (arith, good_length l (holds e)) in never

module _ (l rest : List ℕ) (few : length l ≤ 97) (bad : good_line l ≡ false) where
  -- a line feed too early
  pub feed_bad : has_feed_lem l ≡ true → BadFirst (lines_of (l ++ rest))
  feed_bad h =
      let f = feed_in_lem l h in
      let a : List ℕ = f.before in
      let z : List ℕ = f.behind in
      record {
        bad = a ++ (line_feed ∷ []);
        others = lines_of (z ++ rest);
        parts = ap (λ (x : List ℕ). lines_of (x ++ rest)) f.parts ∙ ap lines_of (append_assoc a (line_feed ∷ z) rest) ∙ line_ended a (z ++ rest) f.first;
        is_bad = not_good (a ++ (line_feed ∷ [])) (whole a z f.parts);
      }
    where
      whole : (a z : List ℕ) → l ≡ a ++ (line_feed ∷ z) → good_line (a ++ (line_feed ∷ [])) ≡ true → ⊥
      whole a [] e good = never_both (ap good_line e ∙ good) bad
      whole a (x ∷ z) e good =
          let front : length a + 1 ≡ 97 = sym (length-append a (line_feed ∷ [])) ∙ good_length (a ++ (line_feed ∷ [])) (holds good) in
          let all : length l ≡ length a + suc (suc (length z)) = ap length e ∙ length-append a (line_feed ∷ (x ∷ z)) in
          omega (arith, front, all)

-- none in time
pub long_bad : (l rest : List ℕ) → length l ≡ 97 → has_feed_lem l ≡ false → BadFirst (lines_of (l ++ rest))
long_bad [] rest size h = let never : ⊥ = omega (arith, size) in absurd never
long_bad (b ∷ l) rest size h =
    let on = goes_on b l rest h in
    record {
      bad = (b ∷ l) ++ on.more;
      others = on.others;
      parts = on.parts;
      is_bad =
          not_good ((b ∷ l) ++ on.more) λ good.
          let there : get_or (b ∷ l) 96 0 ≡ line_feed = sym (get_or-append (b ∷ l) on.more 0 96 (omega (arith, size))) ∙ good_end ((b ∷ l) ++ on.more) (holds good) in
          never_both (ap is_feed there) (plain_at (b ∷ l) 96 h (omega (arith, size)));
    }

-- ---- what is sent of the lines, by the first
pub front_good : (l : List ℕ) (ls : List (List ℕ)) → good_line l ≡ true → good_front (l ∷ ls) ≡ l ∷ good_front ls
unfolding good_front
front_good l ls e = rw e

pub front_bad : (lines : List (List ℕ)) → BadFirst lines → good_front lines ≡ []
unfolding good_front
front_bad lines b = rw (b.parts, b.is_bad)

pub number_good : (n : ℕ) (l : List ℕ) (ls : List (List ℕ)) → good_line l ≡ true → first_bad_lem n (l ∷ ls) ≡ first_bad_lem (suc n) ls
unfolding first_bad_lem
number_good n l ls e = rw e

pub number_bad : (n : ℕ) (lines : List (List ℕ)) → BadFirst lines → first_bad_lem n lines ≡ in_line n
unfolding first_bad_lem
number_bad n lines b = rw (b.parts, b.is_bad)
