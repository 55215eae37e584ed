-- What a recording adds: the ages sum to the offers, and by kind the accepted and the rejected do. Assumes nothing.
use mathlib.Core.Path.{◌≡◌, refl, sym, ap, subst, ◌∙◌}
use mathlib.Core.Bool.{Bool, true, false, not, ◌&&◌, ◌||◌}
use mathlib.Core.List.{List, [], ◌∷◌}
use Prim.Native.Nat.{ℕ, zero, suc, ◌+◌, ◌-◌, ◌≤◌, ◌<◌}
use native.Mathlib.Omega.{arith}
use borrow.Author.Tests.{eqb-true, ne_eqb, not-true}
use lib.Dec.{T, eqb, leb}
use lib.IntN.{ℤ}
use lib.ListN.{length}
use lib.Ieee.Bits.{is_true}
use lib.Ieee.Fits.{and_l, and_r}
use mir.Syntax.{w16}
use mir.Val.{SFits}
use Rattle.numbers.specs.Below.{all_below}
use Rattle.numbers.proofs.Below.{all_below_lem}
use Rattle.numbers.proofs.Tests.{holds}
use Rattle.machine.specs.Runs.{Each}
use Rattle.shaping.specs.Rate.{Rate, rate_fit, rate_of}
use Rattle.shaping.proofs.RateFacts.{rate_facts, rate_known}
use Rattle.protocol.specs.declared.Kind.{Kind}
use Rattle.protocol.specs.declared.Kind.TheVariants.{Lsf, Bert, Stream, Packet}
use Rattle.search.specs.declared.Reply.{Reply}
use Rattle.search.specs.declared.Reply.TheVariants.{Accepted, Rejected}
use Rattle.search.specs.Search.{rank}
use Rattle.demodulator_run.specs.Rules.{start}
use Rattle.listening.specs.Listener.{Listed, offers}
use Rattle.listening.specs.Verdict.{verdict}
use Rattle.listening.specs.Rules.{rules_at}
use Rattle.figures.specs.Totals.{total_at}
use Rattle.figures.specs.FullList.{reply_place, bit, is_counted, number_at_lem, carrier_place, figures_of}
use Rattle.figures_laws.specs.Month.{sum_to, Aged}
use Rattle.figures_laws.proofs.Months.{figures_total}
use Rattle.figures_laws.proofs.OfferAges.{offers_aged}

-- ---- sums over places
sum_same : (f g : ℕ → ℕ) (n : ℕ) → ((i : ℕ) → i < n → f i ≡ g i) → sum_to f n ≡ sum_to g n
unfolding sum_to
sum_same f g zero h = refl
sum_same f g (suc n) h = let here = h n (omega arith) in let before = sum_same f g n (λ i l. h i (omega arith)) in omega arith

sum_two : (f g : ℕ → ℕ) (n : ℕ) → sum_to (λ i. f i + g i) n ≡ sum_to f n + sum_to g n
unfolding sum_to
sum_two f g zero = refl
sum_two f g (suc n) = let before = sum_two f g n in omega arith

sum_zero : (f : ℕ → ℕ) (n : ℕ) → ((i : ℕ) → f i ≡ 0) → sum_to f n ≡ 0
unfolding sum_to
sum_zero f zero h = refl
sum_zero f (suc n) h = let here = h n in let before = sum_zero f n h in omega arith

-- ---- one offer: at one kind, at one age, and by one reply
unfoldable counted_as : Kind → Reply → ℕ → ℕ → Bool
counted_as kind settled age i = eqb i (rank kind) || eqb i (reply_place settled + rank kind) || (leb 1 age && leb age 11 && eqb i (11 + age))

abbrev settles : Kind → Reply → ℕ → ℕ → Bool
settles kind settled age k = eqb (bit (counted_as kind settled age k)) (bit (counted_as kind settled age (4 + k)) + bit (counted_as kind settled age (8 + k)))

abbrev once : Kind → Reply → ℕ → Bool
once kind settled age =
    eqb (sum_to (λ (k : ℕ). bit (counted_as kind settled age k)) 4) 1
    && eqb (sum_to (λ (a : ℕ). bit (counted_as kind settled age (12 + a))) 11) 1
    && all_below 4 (settles kind settled age)

all_once : (kind : Kind) (settled : Reply) → all_below 11 (λ (a : ℕ). once kind settled (a + 1)) ≡ true
unfolding all_below sum_to counted_as
all_once Lsf Accepted = refl
all_once Lsf Rejected = refl
all_once Bert Accepted = refl
all_once Bert Rejected = refl
all_once Stream Accepted = refl
all_once Stream Rejected = refl
all_once Packet Accepted = refl
all_once Packet Rejected = refl

module _ (o : Listed) (A : Aged 11 o) where
  abbrev k : Kind
  k = o.due.kind

  abbrev r : Reply
  r = o.reply

  abbrev n : ℕ
  n = o.due.age

  is_once : T (once k r n)
  is_once =
      let low = A.least in
      let high = A.most in
      let back : n - 1 + 1 ≡ n = omega arith in
      subst (λ (m : ℕ). T (once k r m)) back (all_below_lem 11 (λ (a : ℕ). once k r (a + 1)) (holds (all_once k r)) (n - 1) (omega arith))

  counted_is : (i : ℕ) → is_counted o i ≡ counted_as k r n i
  unfolding is_counted counted_as
  counted_is i = refl

  one_kind : sum_to (λ (i : ℕ). bit (is_counted o i)) 4 ≡ 1
  one_kind =
      sum_same _ _ 4 (λ i l. ap bit (counted_is i))
      ∙ eqb-true _ 1 (is_true _ (and_l (eqb (sum_to (λ (i : ℕ). bit (counted_as k r n i)) 4) 1) (eqb (sum_to (λ (a : ℕ). bit (counted_as k r n (12 + a))) 11) 1)
      (and_l (eqb (sum_to (λ (i : ℕ). bit (counted_as k r n i)) 4) 1 && eqb (sum_to (λ (a : ℕ). bit (counted_as k r n (12 + a))) 11) 1) (all_below 4 (settles k r n)) is_once)))

  one_age : sum_to (λ (a : ℕ). bit (is_counted o (12 + a))) 11 ≡ 1
  one_age =
      sum_same _ _ 11 (λ i l. ap bit (counted_is (12 + i)))
      ∙ eqb-true _ 1 (is_true _ (and_r (eqb (sum_to (λ (i : ℕ). bit (counted_as k r n i)) 4) 1) (eqb (sum_to (λ (a : ℕ). bit (counted_as k r n (12 + a))) 11) 1)
      (and_l (eqb (sum_to (λ (i : ℕ). bit (counted_as k r n i)) 4) 1 && eqb (sum_to (λ (a : ℕ). bit (counted_as k r n (12 + a))) 11) 1) (all_below 4 (settles k r n)) is_once)))

  one_reply : (i : ℕ) → i < 4 → bit (is_counted o i) ≡ bit (is_counted o (4 + i)) + bit (is_counted o (8 + i))
  one_reply i l =
      let t = all_below_lem 4 (settles k r n) (and_r (eqb (sum_to (λ (i : ℕ). bit (counted_as k r n i)) 4) 1 && eqb (sum_to (λ (a : ℕ). bit (counted_as k r n (12 + a))) 11) 1) (all_below 4 (settles k r n)) is_once) i l in
      rw (counted_is i, counted_is (4 + i), counted_is (8 + i)) (eqb-true _ _ (is_true _ t))

-- ---- a list of offers
module _ (list : List Listed) where
  pub record Sums : Type 0 where
    pub kinds : sum_to (λ (i : ℕ). number_at_lem i list) 4 ≡ length list
    pub ages : sum_to (λ (a : ℕ). number_at_lem (12 + a) list) 11 ≡ length list
    pub replies : (i : ℕ) → i < 4 → number_at_lem i list ≡ number_at_lem (4 + i) list + number_at_lem (8 + i) list

pub all_counted : (list : List Listed) → Each (Aged 11) list → Sums list
unfolding number_at_lem Each
all_counted [] e = record { kinds = sum_zero (λ (i : ℕ). 0) 4 (λ i. refl); ages = sum_zero (λ (i : ℕ). 0) 11 (λ i. refl); replies = λ i l. refl }
all_counted (o ∷ list) e =
    let S = all_counted list e.1 in
    record {
      kinds = sum_two (λ (i : ℕ). bit (is_counted o i)) (λ (i : ℕ). number_at_lem i list) 4 ∙ (let here = one_kind o e.0 in let later = S.kinds in omega arith);
      ages = sum_two (λ (a : ℕ). bit (is_counted o (12 + a))) (λ (a : ℕ). number_at_lem (12 + a) list) 11 ∙ (let here = one_age o e.0 in let later = S.ages in omega arith);
      replies = λ i l. let here = one_reply o e.0 i l in let later = S.replies i l in omega arith;
    }

aged_wider : (m n : ℕ) → m ≤ n → (list : List Listed) → Each (Aged m) list → Each (Aged n) list
unfolding Each
aged_wider m n l [] e = tt
aged_wider m n l (o ∷ list) e = (let A = e.0 in record { least = A.least; most = omega arith }, aged_wider m n l list e.1)

-- no offer is eleven old
all_younger : (kind : Kind) (settled : Reply) → all_below 10 (λ (a : ℕ). not (counted_as kind settled (a + 1) 22)) ≡ true
unfolding all_below counted_as
all_younger Lsf Accepted = refl
all_younger Lsf Rejected = refl
all_younger Bert Accepted = refl
all_younger Bert Rejected = refl
all_younger Stream Accepted = refl
all_younger Stream Rejected = refl
all_younger Packet Accepted = refl
all_younger Packet Rejected = refl

younger : (o : Listed) → Aged 10 o → is_counted o 22 ≡ false
unfolding is_counted counted_as
younger o A =
    let low = A.least in
    let high = A.most in
    let n = o.due.age in
    let back : n - 1 + 1 ≡ n = omega arith in
    let t = all_below_lem 10 (λ (a : ℕ). not (counted_as o.due.kind o.reply (a + 1) 22)) (holds (all_younger o.due.kind o.reply)) (n - 1) (omega arith) in
    not-true _ (is_true _ (subst (λ (m : ℕ). T (not (counted_as o.due.kind o.reply m 22))) back t))

none_oldest : (list : List Listed) → Each (Aged 10) list → number_at_lem 22 list ≡ 0
unfolding number_at_lem Each
none_oldest [] e = refl
none_oldest (o ∷ list) e = rw (younger o e.0, none_oldest list e.1)

-- ---- a recording
module _ (rate : ℕ) (fit : rate_fit rate ≡ true) (xs : List ℤ) (g : Each (SFits w16) xs) where
  abbrev R : Rate
  R = rate_of rate

  abbrev at : ℕ → ℕ
  at i = total_at (figures_of (rate_of rate) xs).totals i

  abbrev list : List Listed
  list = offers (rules_at (rate_of rate)) verdict start xs

  sums : Sums list
  sums = all_counted list (aged_wider R.p 11 (let u = (rate_known rate fit).1 in omega arith) list (offers_aged R (rate_facts rate fit) verdict xs g))

  at_is : (i : ℕ) → i < 23 → at i ≡ number_at_lem i list
  at_is i l = figures_total R xs i (omega arith) ∙ rw (ne_eqb i carrier_place (λ z. omega arith)) (omega arith)

  -- "offers by kind .. offers at each age from 1 to 11": each offer at one kind and at one age
  pub ages_all : sum_to (λ (a : ℕ). at (12 + a)) 11 ≡ sum_to at 4
  ages_all =
      sum_same (λ (a : ℕ). at (12 + a)) (λ (a : ℕ). number_at_lem (12 + a) list) 11 (λ a l. at_is (12 + a) (omega arith)) ∙ sums.ages
      ∙ sym (sum_same at (λ (i : ℕ). number_at_lem i list) 4 (λ i l. at_is i (omega arith)) ∙ sums.kinds)

  -- "accepted and rejected by kind": by one reply
  pub replies_all : (i : ℕ) → i < 4 → at i ≡ at (4 + i) + at (8 + i)
  replies_all i l =
      let a = at_is i (omega arith) in
      let b = at_is (4 + i) (omega arith) in
      let c = at_is (8 + i) (omega arith) in
      let s = sums.replies i l in
      omega arith

  pub none_at_eleven : at 22 ≡ 0
  none_at_eleven = at_is 22 (omega arith) ∙ none_oldest list (aged_wider R.p 10 (rate_known rate fit).1 list (offers_aged R (rate_facts rate fit) verdict xs g))
