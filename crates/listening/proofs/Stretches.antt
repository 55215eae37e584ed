-- A stretch of samples is the part of the list that it feeds: the same offer, the same record after it, and after an offer the rest goes on.
-- Over the record. Assumes nothing.
use mathlib.Core.Path.{◌≡◌, refl, sym, ap, subst, ◌∙◌}
use mathlib.Core.Logic.{◌⊎◌, inl, inr}
use mathlib.Core.Bool.{Bool, true, false, cond, false≢true, true≢false}
use mathlib.Core.List.{List, [], ◌∷◌, ◌++◌, append-nil, flat_map}
use Prim.Native.Nat.{ℕ, suc, ◌+◌, ◌-◌, ◌≤◌}
use native.Mathlib.Omega.{arith}
use lib.Dec.{eqb}
use lib.IntN.{ℤ}
use lib.ListN.{length, take, drop, take-append-drop, drop_of_length-le}
use lib.Ieee.{Float}
use Rattle.machine.specs.Runs.{run, answers}
use Rattle.shaping.specs.Rate.{Rate, rate_of}
use Rattle.protocol.specs.Refusals.{bare}
use Rattle.demodulator.specs.declared.SoftDemodulator.{SoftDemodulator}
use Rattle.demodulator.specs.declared.Offer.{Offer}
use Rattle.demodulator.specs.Calls.{Paper, refusal, nothing, frame, done, carrier}
use Rattle.demodulator.specs.Singles.{blank}
use Rattle.demodulator.specs.Feed.{Stretch, stops_before, fed_from, fed, rest_from}
use Rattle.demodulator_laws.proofs.SampleComes.{Comes, silent, offering, stuck, comes, fed_silent, fed_offering, fed_stuck}
use Rattle.listening.specs.Listener.{Listed, listed_of, own_record}
use Rattle.listening.specs.Verdict.{verdict}
use Rattle.listening.specs.Listen.{is_offer, stretch_of, listed_at_end, left_by_stretch}
use Rattle.listening.proofs.Listener.{offers_joined}
use Rattle.listening.proofs.FirstSample.{record_offers, heard_all, left_by_sample, offers_at, run_at, same_rate, RefusesAll, Stuck, offers_stuck}

-- ---- an answer that is no offer
pub none_listed : (a : Paper) (window : List Float) → is_offer a ≡ false → listed_of verdict a window ≡ []
unfolding listed_of is_offer
none_listed (frame o) window e = absurd (true≢false e)
none_listed (refusal number) window e = refl
none_listed nothing window e = refl
none_listed done window e = refl
none_listed (carrier there) window e = refl

-- as where a stretch stops before a sample
module _ (number : ℕ) where
  pub stops_offer : (b : Bool) → is_offer (cond b (refusal (bare number)) nothing) ≡ false
  unfolding is_offer
  stops_offer true = refl
  stops_offer false = refl

  pub stops_none : (window : List Float) (b : Bool) → listed_of verdict (cond b (refusal (bare number)) nothing) window ≡ []
  stops_none window b = none_listed (cond b (refusal (bare number)) nothing) window (stops_offer b)

-- ---- a stretch, after n samples
record Part (n : ℕ) (m : SoftDemodulator) (xs : List ℤ) (f : Stretch SoftDemodulator) : Type 0 where
  least : n ≤ f.fed
  most : f.fed ≤ n + length xs
  moves : is_offer f.answer ≡ true → n + 1 ≤ f.fed
  lists : record_offers m (take (f.fed - n) xs) ≡ listed_at_end f
  leaves : heard_all m (take (f.fed - n) xs) ≡ left_by_stretch f
  still : 1 ≤ length xs → f.fed ≡ n → Stuck m
  ends : is_offer f.answer ≡ false → (f.fed ≡ n + length xs) ⊎ Stuck (left_by_stretch f)

module _ (n : ℕ) (m : SoftDemodulator) (x : ℤ) (xs : List ℤ) where
  abbrev R : Rate
  R = rate_of m.rate

  abbrev Here : Stretch SoftDemodulator → Type 0
  Here = Part n m (x ∷ xs)

  part_silent : (m' : SoftDemodulator) (f : Stretch SoftDemodulator) → Part (n + 1) m' xs f
      → left_by_sample m x ≡ record { answer = nothing; demodulator = m'; room = blank } → Here f
  unfolding run listed_of
  part_silent m' f g e =
      let l = g.least in
      let u = g.most in
      let k : ℕ = f.fed - (n + 1) in
      let one_more : f.fed - n ≡ suc k = omega arith in
      record {
        least = omega arith;
        most = omega arith;
        moves = λ _. l;
        lists = rw one_more (offers_at m x _ e (take k xs) ∙ g.lists);
        leaves = rw one_more (run_at m x _ e (take k xs) ∙ g.leaves);
        still = λ some none. absurd (omega arith);
        ends = λ quiet. elim (g.ends quiet) [ inl all ↦ inl (omega arith) | inr s ↦ inr s ];
      }

  part_offering : (o : Offer) (m' : SoftDemodulator) (window : List Float)
      → left_by_sample m x ≡ record { answer = frame o; demodulator = m'; room = window }
      → Here (record { answer = frame o; fed = n + 1; state = m'; room = window })
  unfolding answers flat_map run is_offer
  part_offering o m' window e =
      let one : n + 1 - n ≡ 1 = omega arith in
      record {
        least = omega arith;
        most = omega arith;
        moves = λ _. omega arith;
        lists = rw one (offers_at m x _ e [] ∙ append-nil (listed_of verdict (frame o) window));
        leaves = rw one (run_at m x _ e []);
        still = λ some none. absurd (omega arith);
        ends = λ quiet. absurd (true≢false quiet);
      }

  part_stuck : (number : ℕ) → RefusesAll number m → Here (stops_before (refusal (bare number)) n m blank)
  unfolding answers flat_map run
  part_stuck number all =
      let none_fed : n - n ≡ 0 = omega arith in
      let none_listed = stops_none number blank (eqb n 0) in
      let s : Stuck m = (number, all) in
      record {
        least = omega arith;
        most = omega arith;
        moves = λ e. absurd (false≢true (sym (stops_offer number (eqb n 0)) ∙ e));
        lists = rw none_fed (sym none_listed);
        leaves = rw (none_fed, none_listed);
        still = λ some none. s;
        ends = λ quiet. inr (rw none_listed s);
      }

  part_by : ((m' : SoftDemodulator) → m'.rate ≡ m.rate → Part (n + 1) m' xs (rest_from R (n + 1) m' xs blank))
      → Comes m blank (left_by_sample m) (left_by_sample m x)
      → Here (rest_from R n m (x ∷ xs) blank)
  part_by rest (silent m' e) = subst Here (sym (fed_silent R m x xs blank n m' e)) (part_silent m' _ (rest m' (same_rate m x _ e)) e)
  part_by rest (offering o m' window e) = subst Here (sym (fed_offering R m x xs blank n o m' window e)) (part_offering o m' window e)
  part_by rest (stuck number e all) = subst Here (sym (fed_stuck R m x xs blank n number e)) (part_stuck number all)

part_rest : (n : ℕ) (m : SoftDemodulator) (xs : List ℤ) → Part n m xs (rest_from (rate_of m.rate) n m xs blank)
unfolding fed_from listed_of is_offer run answers flat_map
part_rest n m [] =
    let none_fed : n - n ≡ 0 = omega arith in
    record {
      least = omega arith;
      most = omega arith;
      moves = λ e. absurd (false≢true e);
      lists = rw none_fed;
      leaves = rw none_fed;
      still = λ some none. absurd (omega arith);
      ends = λ quiet. inl (omega arith);
    }
part_rest n m (x ∷ xs) =
    part_by n m x xs
    (λ m' kept. subst (λ (rate : ℕ). Part (n + 1) m' xs (rest_from (rate_of rate) (n + 1) m' xs blank)) kept (part_rest (n + 1) m' xs))
    (comes (rate_of m.rate) m x blank)

-- ---- a call with samples
pub record Goes (m : SoftDemodulator) (xs : List ℤ) (f : Stretch SoftDemodulator) : Type 0 where
  pub most : f.fed ≤ length xs
  -- an offer's sample goes in, and where none does the record refuses each
  pub moves : is_offer f.answer ≡ true → 1 ≤ f.fed
  pub still : f.fed ≡ 0 → Stuck m
  -- the offers among the samples that went in, and the record after their replies
  pub lists : record_offers m (take f.fed xs) ≡ listed_at_end f
  pub leaves : heard_all m (take f.fed xs) ≡ left_by_stretch f
  -- without an offer all went in, or the record refuses each that is left
  pub ends : is_offer f.answer ≡ false → (f.fed ≡ length xs) ⊎ Stuck (left_by_stretch f)

pub goes : (m : SoftDemodulator) (xs : List ℤ) → 1 ≤ length xs → Goes m xs (stretch_of m xs)
unfolding fed
goes m [] some = absurd (omega arith)
goes m (x ∷ xs) some =
    let f : Stretch SoftDemodulator = rest_from (rate_of m.rate) 0 m (x ∷ xs) blank in
    let P : Part 0 m (x ∷ xs) f = part_rest 0 m (x ∷ xs) in
    let same : f.fed - 0 ≡ f.fed = omega arith in
    let u = P.most in
    record {
      most = omega arith;
      moves = P.moves;
      still = P.still some;
      lists = rw same at P.lists;
      leaves = rw same at P.leaves;
      ends = λ quiet. elim (P.ends quiet) [ inl all ↦ inl (omega arith) | inr s ↦ inr s ];
    }

-- ---- the list of all offers: that of the stretch, then those of the samples that are left
module _ (m : SoftDemodulator) (xs : List ℤ) (some : 1 ≤ length xs) where
  abbrev f : Stretch SoftDemodulator
  f = stretch_of m xs

  pub offers_on : record_offers m xs ≡ listed_at_end f ++ record_offers (left_by_stretch f) (drop f.fed xs)
  offers_on =
      let G = goes m xs some in
      ap (record_offers m) (sym (take-append-drop f.fed xs))
      ∙ offers_joined own_record verdict m (take f.fed xs) (drop f.fed xs)
      ∙ ap (λ (l : List Listed). l ++ record_offers (heard_all m (take f.fed xs)) (drop f.fed xs)) G.lists
      ∙ ap (λ (d : SoftDemodulator). listed_at_end f ++ record_offers d (drop f.fed xs)) G.leaves

  -- of which there are none without an offer
  pub none_left : is_offer f.answer ≡ false → record_offers (left_by_stretch f) (drop f.fed xs) ≡ []
  unfolding answers flat_map
  none_left quiet = elim ((goes m xs some).ends quiet) [
    | inl all ↦
        let none_kept : length xs ≤ f.fed = omega (arith, all) in
        ap (record_offers (left_by_stretch f)) (drop_of_length-le xs none_kept)
    | inr s ↦ offers_stuck s.0 (left_by_stretch f) s.1 (drop f.fed xs)
  ]

  pub listed_none : is_offer f.answer ≡ false → record_offers m xs ≡ []
  listed_none quiet = offers_on ∙ (λ i. none_listed f.answer f.room quiet i ++ none_left quiet i)
