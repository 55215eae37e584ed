-- One turn: the figures of its offer, and the carrier's part where it is known. Assumes nothing.
use Rattle.std.specs.Prelude.{Option, Some, None, Result, Ok, Err}
use Rattle.protocol.specs.declared.Refusal.{Refusal}
use mathlib.Core.Path.{◌≡◌, refl, sym, ap, ◌∙◌}
use mathlib.Core.Bool.{Bool, true, false, not, ◌||◌, true≢false}
use mathlib.Core.List.{List, [], ◌∷◌}
use Prim.Native.Nat.{ℕ}
use Rattle.std.specs.Option.{is_some}
use Rattle.std.specs.Bool.{then_some}
use Rattle.std.proofs.lemmas.Option.{cond_some}
use borrow.Author.Tests.{le-leb}
use lib.Dec.{leb, ltb}
use lib.IntN.{ℤ}
use lib.ListN.{length}
use lib.Ieee.{Float}
use Rattle.search.specs.declared.Reply.{Reply}
use Rattle.demodulator.specs.declared.Offer.{Offer}
use Rattle.demodulator.specs.declared.SoftDemodulator.{SoftDemodulator}
use Rattle.demodulator.specs.Calls.{Paper, timer_held, heard_paper}
use Rattle.demodulator.specs.Feed.{Stretch}
use Rattle.listening.specs.declared.Listened.{Listened}
use Rattle.listening.specs.Listener.{listed_of}
use Rattle.listening.specs.Verdict.{verdict}
use Rattle.listening.specs.Listen.{stretch_of, listed_at_end, replies_in, settled_paper, ListenSays}
use Rattle.figures.specs.declared.Figures.{Figures}
use Rattle.figures.specs.Totals.{no_figures_lem}
use Rattle.figures.specs.FullList.{is_counted, number_at_lem, carrier_place, least_from, greatest_from, after, record_held}
use Rattle.figures.specs.Turn.{resting, lasting_of, rested, Short, is_known, carrier_in, with_total, listed_as, offered_figures, TurnSays}
use Rattle.figures.proofs.AfterLaws.{with_carrier, no_offers}
use Rattle.figures.proofs.OfferPlaces.{none_there}
use Rattle.figures.proofs.KnownCarrier.{held_known}

-- ---- a timer that is held is one that is set
pub timer_some : (t : Option ℕ) → timer_held t ≡ is_some t
timer_some None = refl
timer_some (Some end) = refl

pub timer_none : (t : Option ℕ) (b : Bool) → is_some t ≡ not b → b ≡ not (timer_held t)
timer_none t true e = rw (timer_some t, e)
timer_none t false e = rw (timer_some t, e)

-- ---- the figures of an answer, and of the offer that a stretch ends with
first_is : (r s : Reply) → ◌≡◌ {A = List Reply} (r ∷ []) (s ∷ []) → r ≡ s
first_is r s e = ap first e
  where
    first : List Reply → Reply
    first [] = r
    first (x ∷ _) = x

one_not_none : (r : Reply) → ◌≡◌ {A = List Reply} [] (r ∷ []) → ⊥
one_not_none r e = true≢false (ap is_none e)
  where
    is_none : List Reply → Bool
    is_none [] = true
    is_none (_ ∷ _) = false

-- what an offer's symbols are is not counted
carrier_one : (o : Offer) (r : Reply) (window : List Float) (h : ℕ)
    → with_total 23 h (after no_figures_lem (listed_as o r ∷ []) 0) ≡ after no_figures_lem (record { due = o; symbols = window; reply = r } ∷ []) h
unfolding after least_from greatest_from number_at_lem is_counted
carrier_one o r window h = with_carrier (listed_as o r ∷ []) (none_there (listed_as o r ∷ [])) h

no_number : number_at_lem carrier_place [] ≡ 0
unfolding number_at_lem
no_number = refl

carrier_only : (h : ℕ) → with_total 23 h no_figures_lem ≡ after no_figures_lem [] h
unfolding after least_from greatest_from
carrier_only h = ap (with_total 23 h) no_offers ∙ with_carrier [] no_number h

-- with the carrier put at its place
carrier_with : (a : Result (Option Offer) Refusal) (s : Option Reply) (window : List Float) (h : ℕ) → settled_paper s ≡ replies_in (listed_of verdict (heard_paper a) window)
    → with_total 23 h (offered_figures a s) ≡ after no_figures_lem (listed_of verdict (heard_paper a) window) h
unfolding offered_figures listed_of
carrier_with (Ok (Some o)) (Some reply) window h e =
    carrier_one o reply window h
    ∙ ap (λ (r : Reply). after no_figures_lem (record { due = o; symbols = window; reply = r } ∷ []) h) (first_is reply (verdict o.kind window) e)
carrier_with (Ok (Some o)) None window h e = absurd (one_not_none (verdict o.kind window) e)
carrier_with (Err why) s window h e = carrier_only h
carrier_with (Ok None) s window h e = carrier_only h

-- ---- tests in the code's order and in the rule's
or_four : (a b c d : Bool) → (((a || b) || c) || d) ≡ true → (a || (b || (c || d))) ≡ true
or_four true b c d e = refl
or_four false true c d e = refl
or_four false false c d e = e

or_third : (a b c d : Bool) → c ≡ true → (((a || b) || c) || d) ≡ true
or_third true b c d e = refl
or_third false true c d e = refl
or_third false false c d e = rw e

or_first : (a b c d : Bool) → a ≡ true → (((a || b) || c) || d) ≡ true
or_first a b c d e = rw e

-- ---- figures where a test holds
some_then : (b : Bool) (g : Figures) → b ≡ true → is_some (then_some b g) ≡ true
some_then true g e = refl
some_then false g e = e

then_some_is : (b : Bool) (g added : Figures) → then_some b g ≡ Some added → (b ≡ true) × (g ≡ added)
then_some_is true g added e = cond_some true g added e
then_some_is false g added e = cond_some false g added e

-- ---- the whole turn
module _ (m : SoftDemodulator) (xs : List ℤ) (S : Short m xs) (r : Listened) (says : ListenSays m xs r) where
  abbrev f : Stretch SoftDemodulator
  f = stretch_of m xs

  abbrev held : ℕ
  held = carrier_in (rested m xs) (lasting_of m) r.fed r.demodulator.control.dcd

  lists : with_total 23 held (offered_figures r.answer r.settled) ≡ after no_figures_lem (listed_at_end f) held
  lists =
      carrier_with r.answer r.settled f.room held (says.settles ∙ ap (λ (p : Paper). replies_in (listed_of verdict p f.room)) (sym says.answers))
      ∙ ap (λ (p : Paper). after no_figures_lem (listed_of verdict p f.room) held) says.answers

  pub turn_says_lem : TurnSays m xs (record {
    fed = r.fed;
    figures = then_some (((rested m xs || ltb 0 (lasting_of m)) || leb (length xs) 1) || not (timer_held r.timer)) (with_total 23 held (offered_figures r.answer r.settled));
    demodulator = r.demodulator;
  })
  turn_says_lem = record {
    feeds = says.feeds;
    one = λ few. some_then _ _ (or_third (rested m xs) (ltb 0 (lasting_of m)) (leb (length xs) 1) (not (timer_held r.timer)) (le-leb (length xs) 1 few));
    rest = λ few. some_then _ _ (or_first (rested m xs) (ltb 0 (lasting_of m)) (leb (length xs) 1) (not (timer_held r.timer)) (le-leb (length xs) (resting m.control.wait) few));
    leaves = says.leaves;
    adds = λ added e.
        let (known, same) = then_some_is _ _ added e in
        let k : is_known m xs ≡ true = or_four (rested m xs) (ltb 0 (lasting_of m)) (leb (length xs) 1) (not (record_held f.state)) (rw says.times at known) in
        sym same
        ∙ lists
        ∙ ap (λ (n : ℕ). after no_figures_lem (listed_at_end f) (carrier_in (rested m xs) (lasting_of m) n r.demodulator.control.dcd)) says.feeds
        ∙ ap (λ (d : SoftDemodulator). after no_figures_lem (listed_at_end f) (carrier_in (rested m xs) (lasting_of m) f.fed d.control.dcd)) says.leaves
        ∙ ap (after no_figures_lem (listed_at_end f)) (sym (held_known m xs S k));
  }
