-- The figures of a list in two parts, and how large they can be, of any receiver; and of the record, stretch by stretch. Assumes nothing.
use mathlib.Core.Path.{◌≡◌, refl, sym, ap, ◌∙◌}
use mathlib.Core.Bool.{Bool, true, false, not, cond, ◌&&◌}
use mathlib.Core.List.{List, [], ◌∷◌, ◌++◌, append-nil, flat_map}
use Prim.Native.Nat.{ℕ, ◌+◌, ◌≤◌, ◌<◌}
use native.Mathlib.Omega.{arith}
use borrow.Author.Tests.{eqb-true}
use lib.Dec.{eqb}
use lib.IntN.{ℤ}
use lib.ListN.{length, take, get_or-replicate}
use lib.Ieee.{Float}
use Rattle.numbers.proofs.Firsts.{firsts_at}
use Rattle.machine.specs.Runs.{Machine, run, answers}
use Rattle.machine.proofs.Parts.{run_joined}
use Rattle.demodulator.specs.declared.SoftDemodulator.{SoftDemodulator}
use Rattle.demodulator.specs.Calls.{Paper, refusal, nothing, frame, done, carrier, is_refusal, refused}
use Rattle.demodulator.specs.Singles.{Single, Said, blank}
use Rattle.listening.specs.Listener.{Listed, Rule, listed_of, listed_in, listener, offers, own_record}
use Rattle.listening.specs.Verdict.{verdict}
use Rattle.listening.specs.Listen.{listed_at_end, left_by_stretch, stretch_of}
use Rattle.listening.proofs.Listener.{offers_joined}
use Rattle.listening.proofs.FirstSample.{record_offers, heard_all, Stuck, offers_stuck}
use Rattle.listening.proofs.Stretches.{goes}
use Rattle.figures.specs.declared.Figures.{Figures}
use Rattle.figures.specs.Totals.{total_at, no_figures_lem, plus}
use Rattle.figures.specs.FullList.{bit, is_counted, number_at_lem, carrier_place, after_at, after, held_from, record_held, record_figures}
use Rattle.figures.proofs.AfterLaws.{number_two, after_two, plus_none, plus_one, no_offers}
use Rattle.figures.proofs.OfferPlaces.{none_there}
use Rattle.figures.proofs.HeldStretch.{held_in, held_at, held_none}

-- ---- of any receiver: two lists, and how large the figures of one can be
bit_most : (t : Bool) → bit t ≤ 1
bit_most true = omega arith
bit_most false = omega arith

module _ {S : Type 0} (m : Machine S Single Said) (held : S → Bool) (rule : Rule) where
  pub held_joined : (xs ys : List ℤ) (s : S)
      → held_from m held rule s (xs ++ ys) ≡ held_from m held rule s xs + held_from m held rule (run (listener m rule) s xs) ys
  unfolding held_from run
  held_joined [] ys s = omega arith
  held_joined (x ∷ xs) ys s = let later = held_joined xs ys ((listener m rule).next s x) in omega arith

  pub held_most : (xs : List ℤ) (s : S) → held_from m held rule s xs ≤ length xs
  unfolding held_from
  held_most [] s = omega arith
  held_most (x ∷ xs) s =
      let later = held_most xs ((listener m rule).next s x) in
      let one = bit_most (not (is_refusal ((listener m rule).says s x).answer) && held ((listener m rule).next s x)) in
      omega arith

  number_one : (i : ℕ) (a : Paper) (room : List Float) → number_at_lem i (listed_of rule a room) ≤ 1
  unfolding number_at_lem listed_of
  number_one i (refusal why) room = omega arith
  number_one i nothing room = omega arith
  number_one i done room = omega arith
  number_one i (carrier there) room = omega arith
  number_one i (frame o) room =
      let one = bit_most (is_counted (record { due = o; symbols = room; reply = rule o.kind room }) i) in omega arith

  number_most : (i : ℕ) (xs : List ℤ) (s : S) → number_at_lem i (offers m rule s xs) ≤ length xs
  unfolding answers flat_map
  number_most i [] s = unfold number_at_lem in omega arith
  number_most i (x ∷ xs) s =
      let l = (listener m rule).says s x in
      let one = number_one i l.answer l.room in
      let later = number_most i xs ((listener m rule).next s x) in
      let two = number_two i (listed_in rule l) (offers m rule ((listener m rule).next s x) xs) in
      omega arith

  pub figures_most : (s : S) (xs : List ℤ) (i : ℕ) → i < 24
      → total_at (after no_figures_lem (offers m rule s xs) (held_from m held rule s xs)).totals i ≤ length xs
  unfolding after
  figures_most s xs i inside =
      let at = firsts_at (after_at no_figures_lem (offers m rule s xs) (held_from m held rule s xs)) 24 i 0 inside in
      let zero : total_at no_figures_lem.totals i ≡ 0 = get_or-replicate 24 i 0 0 inside in
      let h = held_most xs s in
      let k = number_most i xs s in
      rw at (by_test (eqb i carrier_place) refl)
    where
      by_test : (t : Bool) → eqb i carrier_place ≡ t
          → total_at no_figures_lem.totals i + (number_at_lem i (offers m rule s xs) + cond t (held_from m held rule s xs) 0) ≤ length xs
      by_test true e =
          let zero : total_at no_figures_lem.totals i ≡ 0 = get_or-replicate 24 i 0 0 inside in
          let none : number_at_lem i (offers m rule s xs) ≡ 0 = ap (λ (j : ℕ). number_at_lem j (offers m rule s xs)) (eqb-true i carrier_place e) ∙ none_there (offers m rule s xs) in
          let h = held_most xs s in
          omega arith
      by_test false e =
          let zero : total_at no_figures_lem.totals i ≡ 0 = get_or-replicate 24 i 0 0 inside in
          let k = number_most i xs s in
          omega arith

-- ---- the record's figures, part by part
held_stuck : (m : SoftDemodulator) → Stuck m → (xs : List ℤ) → held_in m xs ≡ 0
unfolding run listed_of
held_stuck m s [] = held_none m
held_stuck m s (x ∷ xs) = held_at m x xs (refused s.0 m blank) (s.1 x) ∙ (let later = held_stuck m s xs in omega arith)

pub figures_joined : (f : Figures) (m : SoftDemodulator) (xs ys : List ℤ)
    → record_figures f m (xs ++ ys) ≡ after (record_figures f m xs) (record_offers (heard_all m xs) ys) (held_in (heard_all m xs) ys)
unfolding record_figures
figures_joined f m xs ys =
    ap (λ (l : List Listed). after f l (held_in m (xs ++ ys))) (offers_joined own_record verdict m xs ys)
    ∙ ap (after f (record_offers m xs ++ record_offers (heard_all m xs) ys)) (held_joined own_record record_held verdict xs ys m)
    ∙ after_two f (record_offers m xs) (record_offers (heard_all m xs) ys) (held_in m xs) (held_in (heard_all m xs) ys)

plus_listed : (f : Figures) (a : Paper) (room : List Float) (h : ℕ)
    → plus f (after no_figures_lem (listed_of verdict a room) h) ≡ after f (listed_of verdict a room) h
unfolding listed_of
plus_listed f (frame o) room h = plus_one f (record { due = o; symbols = room; reply = verdict o.kind room }) h
plus_listed f (refusal why) room h = plus_none f h
plus_listed f nothing room h = plus_none f h
plus_listed f done room h = plus_none f h
plus_listed f (carrier there) room h = plus_none f h

-- after no sample, and after samples that are refused
pub figures_none : (m : SoftDemodulator) → no_figures_lem ≡ record_figures no_figures_lem m []
unfolding record_figures answers flat_map held_from
figures_none m = no_offers

after_nothing : (list : List Listed) (h : ℕ) → after (after no_figures_lem list h) [] 0 ≡ after no_figures_lem list h
after_nothing list h =
    let none : h + 0 ≡ h = omega arith in
    sym (after_two no_figures_lem list [] h 0) ∙ rw (append-nil list, none)

module _ (m : SoftDemodulator) (xs ys : List ℤ) where
  pub figures_stuck : Stuck (heard_all m xs) → record_figures no_figures_lem m xs ≡ record_figures no_figures_lem m (xs ++ ys)
  unfolding record_figures
  figures_stuck s =
      sym (after_nothing (record_offers m xs) (held_in m xs))
      ∙ ap (λ (l : List Listed). after (after no_figures_lem (record_offers m xs) (held_in m xs)) l 0) (sym (offers_stuck s.0 (heard_all m xs) s.1 ys))
      ∙ ap (after (after no_figures_lem (record_offers m xs) (held_in m xs)) (record_offers (heard_all m xs) ys)) (sym (held_stuck (heard_all m xs) s ys))
      ∙ sym (figures_joined no_figures_lem m xs ys)

  -- a turn over the samples after the first ones
  pub figures_turn : (some : 1 ≤ length ys) → let f = stretch_of (heard_all m xs) ys in (n : ℕ) → n ≡ f.fed
      → plus (record_figures no_figures_lem m xs) (after no_figures_lem (listed_at_end f) (held_in (heard_all m xs) (take f.fed ys))) ≡ record_figures no_figures_lem m (xs ++ take n ys)
  figures_turn some n e =
      let d = heard_all m xs in
      let f = stretch_of d ys in
      let G = goes d ys some in
      plus_listed (record_figures no_figures_lem m xs) f.answer f.room (held_in d (take f.fed ys))
      ∙ ap (λ (l : List Listed). after (record_figures no_figures_lem m xs) l (held_in d (take f.fed ys))) (sym G.lists)
      ∙ sym (figures_joined no_figures_lem m xs (take f.fed ys))
      ∙ ap (λ (k : ℕ). record_figures no_figures_lem m (xs ++ take k ys)) (sym e)

  pub left_turn : (some : 1 ≤ length ys) → let f =
      stretch_of (heard_all m xs) ys in (n : ℕ) → n ≡ f.fed → left_by_stretch f ≡ heard_all m (xs ++ take n ys)
  left_turn some n e =
      let d = heard_all m xs in
      let f = stretch_of d ys in
      sym (goes d ys some).leaves ∙ sym (run_joined (listener own_record verdict) xs (take f.fed ys) m) ∙ ap (λ (k : ℕ). heard_all m (xs ++ take k ys)) (sym e)
