-- The list, offer by offer: what is listed so far, and what is left. Assumes nothing.
use Rattle.std.specs.Prelude.{Option, Some, None}
use mathlib.Core.Path.{◌≡◌, refl, sym, ap, ◌∙◌, subst}
use mathlib.Core.Bool.{Bool, true, false}
use mathlib.Core.List.{List, [], ◌∷◌, ◌++◌, append-nil, append_assoc, map}
use Prim.Native.Nat.{ℕ, ◌+◌, ◌≤◌, ◌<◌}
use native.Mathlib.Numerals.{add-one}
use native.Mathlib.Omega.{arith}
use lib.IntN.{ℤ}
use lib.ListN.{length, get_or, drop, length-append, length-map, drop_of_length-le, get_or-map}
use lib.Seq.{drop-cons}
use lib.Ieee.{Float}
use Rattle.shaping.specs.Rate.{tap_count}
use Rattle.search.specs.declared.Candidate.TheVariants.{Nothing}
use Rattle.search.specs.declared.Reply.{Reply}
use Rattle.search.specs.Turn.{cleared}
use Rattle.plain.specs.declared.due.Due.{Due}
use Rattle.plain.specs.List.{Entry}
use Rattle.plain.specs.SearchPart.{idle_timer}
use Rattle.plain.specs.Rest.{reply_of, resumes_at, entry_at, look_from, onwards, FindsDue, Finds}
use Rattle.plain.specs.Listing.{rules_list}
use Rattle.plain.proofs.SampleStep.{look}

-- what is found is a frame
pub found_due : (table : List Float) (p : ℕ) (xs : List ℤ) (from : ℕ) (n : Option Due) → Finds table p xs from n → (d : Due) → n ≡ Some d → FindsDue table p xs from d
found_due table p xs from n f d e = unfold Finds in subst (Finds table p xs from) e f

pub found_within : (table : List Float) (p : ℕ) (xs : List ℤ) (from : ℕ) (n : Option Due) → Finds table p xs from n → (d : Due) → n ≡ Some d → d.sample ≤ length xs
found_within table p xs from n f d e = (found_due table p xs from n f d e).within

length_zero : {A : Type 0} (l : List A) → length l ≡ 0 → l ≡ []
length_zero [] e = refl
length_zero (x ∷ l) e = absurd (omega (arith, e))

-- ---- what is listed so far, and what is left
module _ (table : List Float) (p : ℕ) (size : length table ≡ tap_count p) (xs : List ℤ) (short : length xs ≤ 65536) (replies : List Bool) where
  abbrev left : ℕ → List Reply
  left count = drop count (map reply_of replies)

  pub record Progress (from count : ℕ) : Type 0 where
    pub listed : List Entry
    pub long : length listed ≡ count
    pub timer : Option ℕ
    pub rest : rules_list table p xs replies ≡ listed ++ look_from table p xs from Nothing timer (left count)

  unfoldable pub begun : Progress 1 0
  unfolding rules_list
  begun = record { listed = []; long = refl; timer = cleared 1 idle_timer; rest = look table p size xs short 0 (omega arith) Nothing idle_timer (map reply_of replies) }

  pub next_left : (count : ℕ) (d : Bool) → count < length replies → left count ≡ reply_of (get_or replies count d) ∷ left (count + 1)
  next_left count d more =
      drop-cons (map reply_of replies) count (reply_of d) (omega (arith, length-map replies reply_of))
      ∙ rw (get_or-map reply_of replies count d, sym (add-one count)) refl

  pub resumed : (d : ℕ) (t : Option ℕ) (b : Bool) (rs : List Reply)
      → (t' : Option ℕ) × (onwards table p xs d t (reply_of b ∷ rs) ≡ look_from table p xs (resumes_at b d) Nothing t' rs)
  unfolding onwards
  resumed d t true rs = (cleared (d + 1) t, refl)
  resumed d t false rs = (t, refl)

  -- an offer is answered
  unfoldable pub stepped : (from count : ℕ) (default : Bool) → Progress from count → (n : Option Due) → Finds table p xs from n → (d : Due) → n ≡ Some d
      → count < length replies → Progress (resumes_at (get_or replies count default) d.sample) (count + 1)
  stepped from count default q n f d e more =
      let l = (found_due table p xs from n f d e).listed q.timer in
      let r = resumed d.sample l.0 (get_or replies count default) (left (count + 1)) in
      record {
        listed = q.listed ++ (entry_at table p xs d ∷ []);
        long = length-append q.listed (entry_at table p xs d ∷ []) ∙ omega (arith, q.long);
        timer = r.0;
        rest =
            q.rest
            ∙ ap (λ (es : List Entry). q.listed ++ es)
            (ap (look_from table p xs from Nothing q.timer) (next_left count default more) ∙ l.1 _ ∙ ap (λ (es : List Entry). entry_at table p xs d ∷ es) r.1)
            ∙ sym (append_assoc q.listed (entry_at table p xs d ∷ []) _);
      }

  -- no frame falls due any more
  none_left : (from : ℕ) (n : Option Due) → Finds table p xs from n → n ≡ None → (t : Option ℕ) (rs : List Reply) → look_from table p xs from Nothing t rs ≡ []
  none_left from n f e = unfold Finds in subst (Finds table p xs from) e f

  pub ended : (from count : ℕ) (q : Progress from count) (n : Option Due) → Finds table p xs from n → n ≡ None → rules_list table p xs replies ≡ q.listed
  ended from count q n f e = q.rest ∙ ap (λ (es : List Entry). q.listed ++ es) (none_left from n f e q.timer (left count)) ∙ append-nil q.listed

  -- or the list is as long as what is listed
  pub filled : (from count : ℕ) (q : Progress from count) → length (rules_list table p xs replies) ≤ count → rules_list table p xs replies ≡ q.listed
  filled from count q full =
      let rest = look_from table p xs from Nothing q.timer (left count) in
      let none : rest ≡ [] = length_zero rest (omega (arith, full, ap length q.rest, length-append q.listed rest, q.long)) in
      q.rest ∙ ap (λ (es : List Entry). q.listed ++ es) none ∙ append-nil q.listed

  -- or one does, and has no reply
  pub unanswered : (from count : ℕ) (q : Progress from count) (n : Option Due) → Finds table p xs from n → (d : Due) → n ≡ Some d → length replies ≤ count
      → rules_list table p xs replies ≡ q.listed ++ (entry_at table p xs d ∷ [])
  unfolding onwards
  unanswered from count q n f d e all =
      let none : left count ≡ [] = drop_of_length-le (map reply_of replies) {i = count} (omega (arith, length-map replies reply_of)) in
      let l = (found_due table p xs from n f d e).listed q.timer in
      q.rest ∙ ap (λ (es : List Entry). q.listed ++ es) (ap (look_from table p xs from Nothing q.timer) none ∙ l.1 [])

  -- with one more offer, whether it is answered or not
  pub longer : (from count : ℕ) → Progress from count → (n : Option Due) → Finds table p xs from n → (d : Due) → n ≡ Some d → count + 1 ≤ length (rules_list table p xs replies)
  longer from count q n f d is =
      let l = (found_due table p xs from n f d is).listed q.timer in
      let e : rules_list table p xs replies ≡ q.listed ++ (entry_at table p xs d ∷ onwards table p xs d.sample l.0 (left count)) =
      q.rest ∙ ap (λ (es : List Entry). q.listed ++ es) (l.1 _) in
      omega (arith, ap length e, length-append q.listed (entry_at table p xs d ∷ onwards table p xs d.sample l.0 (left count)), q.long)

  -- and how long the list then is
  pub counted_all : (from count : ℕ) (q : Progress from count) (n : Option Due) → Finds table p xs from n → n ≡ None → count ≡ length (rules_list table p xs replies)
  counted_all from count q n f e = sym (ap length (ended from count q n f e) ∙ q.long)

  pub counted_last : (from count : ℕ) (q : Progress from count) (n : Option Due) → Finds table p xs from n → (d : Due) → n ≡ Some d → length replies ≤ count
      → count + 1 ≡ length (rules_list table p xs replies)
  counted_last from count q n f d e all =
      let l : length (q.listed ++ (entry_at table p xs d ∷ [])) ≡ count + 1 = length-append q.listed (entry_at table p xs d ∷ []) ∙ omega (arith, q.long) in
      sym (ap length (unanswered from count q n f d e all) ∙ l)
