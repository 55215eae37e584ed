-- An offer's figures: three places at which one is stored, and at which it is counted. Assumes nothing.
use Rattle.std.specs.Prelude.{Some}
use mathlib.Core.Path.{◌≡◌, refl, sym, ap, ◌∙◌}
use mathlib.Core.Bool.{Bool, true, false, cond, ◌&&◌, ◌||◌}
use mathlib.Core.List.{List, [], ◌∷◌}
use Prim.Native.Nat.{ℕ, ◌+◌, ◌≤◌, ◌<◌}
use native.Mathlib.Omega.{arith}
use borrow.Author.Tests.{eqb-true, eqb-false, leb-true, ne_eqb}
use lib.Dec.{eqb, leb}
use lib.ListN.{length, get_or, set, replicate, length-set, length-replicate, get_or-replicate}
use lib.Seq.{get_or-set_same, get_or-set_other, ext_get_or}
use Rattle.numbers.specs.Firsts.{firsts}
use Rattle.numbers.proofs.Firsts.{length_firsts, firsts_at}
use Rattle.protocol.specs.declared.Kind.{Kind}
use Rattle.protocol.specs.declared.Kind.TheVariants.{Lsf, Bert, Stream, Packet}
use Rattle.search.specs.declared.Reply.{Reply}
use Rattle.search.specs.declared.Reply.TheVariants.{Accepted, Rejected}
use Rattle.search.specs.Search.{rank}
use Rattle.demodulator.specs.declared.Offer.{Offer}
use Rattle.listening.specs.Listener.{Listed}
use Rattle.figures.specs.declared.Figures.{Figures}
use Rattle.figures.specs.Totals.{total_at, no_figures_lem, lesser, greater}
use Rattle.figures.specs.FullList.{reply_place, bit, is_counted, number_at_lem, least_from, greatest_from, carrier_place, after_at, after}
use Rattle.figures.specs.Turn.{listed_as}

pub rank_small : (k : Kind) → rank k < 4
rank_small Lsf = omega arith
rank_small Bert = omega arith
rank_small Stream = omega arith
rank_small Packet = omega arith

pub reply_small : (r : Reply) → reply_place r ≤ 8
reply_small Accepted = omega arith
reply_small Rejected = omega arith

-- a store of one, read anywhere
set_read : (l : List ℕ) (j i : ℕ) → i < length l → get_or (set l j 1) i 0 ≡ cond (eqb i j) 1 (get_or l i 0)
set_read l j i inside = by_test (eqb i j) refl
  where
    by_test : (t : Bool) → eqb i j ≡ t → get_or (set l j 1) i 0 ≡ cond t 1 (get_or l i 0)
    by_test true e =
        let same : i ≡ j = eqb-true i j e in
        ap (λ (k : ℕ). get_or (set l k 1) i 0) (sym same) ∙ get_or-set_same l i 1 0 inside
    by_test false e = get_or-set_other l j i 1 0 (eqb-false i j e)

abbrev zeros : List ℕ
zeros = replicate 24 0

three_bits : (a b c : Bool) → cond c 1 (cond b 1 (cond a 1 0)) ≡ bit ((a || b) || c)
three_bits true true true = refl
three_bits true true false = refl
three_bits true false true = refl
three_bits true false false = refl
three_bits false true true = refl
three_bits false true false = refl
three_bits false false true = refl
three_bits false false false = refl

two_bits : (a b : Bool) → cond b 1 (cond a 1 0) ≡ bit ((a || b) || false)
two_bits true true = refl
two_bits true false = refl
two_bits false true = refl
two_bits false false = refl

module _ (a b i : ℕ) (inside : i < 24) where
  abbrev two : List ℕ
  two = set (set zeros a 1) b 1

  two_read : get_or two i 0 ≡ cond (eqb i b) 1 (cond (eqb i a) 1 0)
  two_read =
      let zero : get_or zeros i 0 ≡ 0 = get_or-replicate 24 i 0 0 inside in
      set_read (set zeros a 1) b i (omega (arith, length-set zeros a 1, length-replicate {A = ℕ} 24 0))
      ∙ ap (cond (eqb i b) 1) (set_read zeros a i (omega (arith, length-replicate {A = ℕ} 24 0)) ∙ ap (cond (eqb i a) 1) zero)

  three_read : (c : ℕ) → get_or (set two c 1) i 0 ≡ cond (eqb i c) 1 (cond (eqb i b) 1 (cond (eqb i a) 1 0))
  three_read c =
      set_read two c i (omega (arith, length-set (set zeros a 1) b 1, length-set zeros a 1, length-replicate {A = ℕ} 24 0))
      ∙ ap (cond (eqb i c) 1) two_read

-- nothing but the offer's counts
counts_at : (o : Offer) (r : Reply) (i : ℕ) → i < 24 → after_at no_figures_lem (listed_as o r ∷ []) 0 i ≡ bit (is_counted (listed_as o r) i)
unfolding number_at_lem
counts_at o r i inside = by_test (eqb i carrier_place)
  where
    by_test : (s : Bool)
        → total_at no_figures_lem.totals i + ((bit (is_counted (listed_as o r) i) + 0) + cond s 0 0) ≡ bit (is_counted (listed_as o r) i)
    by_test true = let zero : total_at no_figures_lem.totals i ≡ 0 = get_or-replicate 24 i 0 0 inside in omega arith
    by_test false = let zero : total_at no_figures_lem.totals i ≡ 0 = get_or-replicate 24 i 0 0 inside in omega arith

module _ (o : Offer) (r : Reply) where
  abbrev kind_place : ℕ
  kind_place = rank o.kind

  abbrev settled_place : ℕ
  settled_place = reply_place r + rank o.kind

  same_after : (totals : List ℕ) → length totals ≡ 24 → ((i : ℕ) → i < 24 → get_or totals i 0 ≡ bit (is_counted (listed_as o r) i))
      → ◌≡◌ {A = Figures} (record { totals = totals; smallest = Some o.gain; largest = Some o.gain }) (after no_figures_lem (listed_as o r ∷ []) 0)
  unfolding after least_from greatest_from lesser greater
  same_after totals size at =
      let all : totals ≡ firsts (after_at no_figures_lem (listed_as o r ∷ []) 0) 24 =
      ext_get_or 0 totals (firsts (after_at no_figures_lem (listed_as o r ∷ []) 0) 24) (size ∙ sym (length_firsts (after_at no_figures_lem (listed_as o r ∷ []) 0) 24)) (λ i l.
      let inside : i < 24 = omega arith in
      at i inside ∙ sym (counts_at o r i inside) ∙ sym (firsts_at (after_at no_figures_lem (listed_as o r ∷ []) 0) 24 i 0 inside)) in
      ap (λ (k : List ℕ). record { totals = k; smallest = Some o.gain; largest = Some o.gain }) all

  pub aged : leb 1 o.age && leb o.age 11 ≡ true
      → ◌≡◌ {A = Figures} (record { totals = set (set (set zeros kind_place 1) settled_place 1) (11 + o.age) 1; smallest = Some o.gain; largest = Some o.gain }) (after no_figures_lem (listed_as o r ∷ []) 0)
  unfolding is_counted
  aged e =
      same_after _
      (length-set (set (set zeros kind_place 1) settled_place 1) (11 + o.age) 1 ∙ length-set (set zeros kind_place 1) settled_place 1 ∙ length-set zeros kind_place 1 ∙ length-replicate {A = ℕ} 24 0)
      (λ i inside. three_read kind_place settled_place i inside (11 + o.age) ∙ three_bits (eqb i kind_place) (eqb i settled_place) (eqb i (11 + o.age)) ∙ rw e)

  pub ageless : leb 1 o.age && leb o.age 11 ≡ false
      → ◌≡◌ {A = Figures} (record { totals = set (set zeros kind_place 1) settled_place 1; smallest = Some o.gain; largest = Some o.gain }) (after no_figures_lem (listed_as o r ∷ []) 0)
  unfolding is_counted
  ageless e =
      same_after _
      (length-set (set zeros kind_place 1) settled_place 1 ∙ length-set zeros kind_place 1 ∙ length-replicate {A = ℕ} 24 0)
      (λ i inside. two_read kind_place settled_place i inside ∙ two_bits (eqb i kind_place) (eqb i settled_place) ∙ rw e)

-- ---- at the carrier's place no offer is counted
none_of : (k : Kind) (r : Reply) → eqb 23 (rank k) || eqb 23 (reply_place r + rank k) ≡ false
none_of Lsf Accepted = refl
none_of Lsf Rejected = refl
none_of Bert Accepted = refl
none_of Bert Rejected = refl
none_of Stream Accepted = refl
none_of Stream Rejected = refl
none_of Packet Accepted = refl
none_of Packet Rejected = refl

none_aged : (age : ℕ) → leb 1 age && leb age 11 && eqb 23 (11 + age) ≡ false
none_aged age = by_test (leb 1 age) (leb age 11) refl
  where
    by_test : (s t : Bool) → leb age 11 ≡ t → s && t && eqb 23 (11 + age) ≡ false
    by_test true true e = let most = leb-true age 11 e in ne_eqb 23 (11 + age) (λ z. omega arith)
    by_test true false e = refl
    by_test false true e = refl
    by_test false false e = refl

none_counted : (o : Listed) → is_counted o carrier_place ≡ false
unfolding is_counted
none_counted o = rw (none_of o.due.kind o.reply, none_aged o.due.age)

pub none_there : (list : List Listed) → number_at_lem carrier_place list ≡ 0
unfolding number_at_lem
none_there [] = refl
none_there (o ∷ list) = rw (none_counted o, none_there list)
