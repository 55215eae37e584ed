-- One turn of listening to the part: its offer is found, or it is passed over and the rest goes on. Over the record. Assumes nothing.
use Rattle.std.specs.Prelude.{Option, Some, None}
use mathlib.Core.Path.{◌≡◌, refl, sym, ap, ◌∙◌}
use mathlib.Core.Bool.{Bool, true, false, cond, false≢true, true≢false}
use mathlib.Core.List.{List, [], ◌++◌, flat_map}
use Prim.Native.Nat.{ℕ, ◌≤◌}
use native.Mathlib.Omega.{arith}
use lib.Dec.{ltb}
use lib.IntN.{ℤ}
use lib.ListN.{length, drop, drop_of_length-le}
use lib.Ieee.{Float}
use Rattle.std.specs.Option.{is_some}
use Rattle.machine.specs.Runs.{answers}
use Rattle.demodulator.specs.declared.SoftDemodulator.{SoftDemodulator}
use Rattle.demodulator.specs.declared.Offer.{Offer}
use Rattle.demodulator.specs.Calls.{Paper, refusal, nothing, frame, done, carrier, heard_paper}
use Rattle.demodulator.specs.Feed.{Stretch}
use Rattle.listening.specs.declared.Listened.{Listened}
use Rattle.listening.specs.Listener.{Listed, listed_of}
use Rattle.listening.specs.Verdict.{verdict}
use Rattle.listening.specs.Listen.{is_offer, stretch_of, left_by_stretch, ListenSays}
use Rattle.listening.proofs.FirstSample.{record_offers}
use Rattle.listening.proofs.Stretches.{goes, offers_on, listed_none}
use Rattle.replay.specs.FullRun.{first_from}
use Rattle.replay.specs.Part.{is_found_lem, found_from, none_due, finding, found_in}

pub found_some : (found : Option Offer) → is_found_lem found ≡ is_some found
found_some None = refl
found_some (Some o) = refl

-- ---- by the answer; `rest` are the offers after it
module _ (a : ℕ) (room : List Float) (rest : List Listed) where
  abbrev due : Offer → Listed
  due o = record { due = o; symbols = room; reply = verdict o.kind room }

  offer_found : (o : Offer) (b : Bool) → is_found_lem (cond b None (Some o)) ≡ true
      → found_in (cond b None (Some o)) room ≡ finding (cond b (first_from a rest) (Some (due o)))
  unfolding finding
  offer_found o true e = absurd (false≢true e)
  offer_found o false e = refl

  offer_passed : (o : Offer) (b : Bool) → is_found_lem (cond b None (Some o)) ≡ false → cond b (first_from a rest) (Some (due o)) ≡ first_from a rest
  offer_passed o true e = refl
  offer_passed o false e = absurd (true≢false e)

  by_found : (answer : Paper) → is_found_lem (found_from a answer) ≡ true
      → found_in (found_from a answer) room ≡ finding (first_from a (listed_of verdict answer room ++ rest))
  unfolding found_from first_from listed_of
  by_found (frame o) e = offer_found o (ltb o.sample a) e
  by_found (refusal why) e = absurd (false≢true e)
  by_found nothing e = absurd (false≢true e)
  by_found done e = absurd (false≢true e)
  by_found (carrier there) e = absurd (false≢true e)

  by_passed : (answer : Paper) → is_found_lem (found_from a answer) ≡ false → first_from a (listed_of verdict answer room ++ rest) ≡ first_from a rest
  unfolding found_from first_from listed_of
  by_passed (frame o) e = offer_passed o (ltb o.sample a) e
  by_passed (refusal why) e = refl
  by_passed nothing e = refl
  by_passed done e = refl
  by_passed (carrier there) e = refl

-- ---- a turn
module _ (a : ℕ) (m : SoftDemodulator) (xs : List ℤ) (some_left : 1 ≤ length xs) (r : Listened) (L : ListenSays m xs r) where
  abbrev f : Stretch SoftDemodulator
  f = stretch_of m xs

  pub turn_found : is_found_lem (found_from a (heard_paper r.answer)) ≡ true
      → found_in (found_from a (heard_paper r.answer)) r.window ≡ finding (first_from a (record_offers m xs))
  turn_found e =
      rw (offers_on m xs some_left, L.answers, L.shows)
      (by_found a f.room (record_offers (left_by_stretch f) (drop f.fed xs)) f.answer (rw L.answers at e))

  pub turn_none : is_offer (heard_paper r.answer) ≡ false → record_offers m xs ≡ []
  turn_none e = listed_none m xs some_left (rw L.answers at e)

  pub turn_passed : is_found_lem (found_from a (heard_paper r.answer)) ≡ false
      → first_from a (record_offers m xs) ≡ first_from a (record_offers r.demodulator (drop r.fed xs))
  turn_passed e =
      ap (first_from a) (offers_on m xs some_left)
      ∙ by_passed a f.room (record_offers (left_by_stretch f) (drop f.fed xs)) f.answer (rw L.answers at e)
      ∙ ap (λ (n : ℕ). first_from a (record_offers (left_by_stretch f) (drop n xs))) (sym L.feeds)
      ∙ ap (λ (k : SoftDemodulator). first_from a (record_offers k (drop r.fed xs))) (sym L.leaves)

  pub turn_most : r.fed ≤ length xs
  turn_most = let u = (goes m xs some_left).most in let e = L.feeds in omega arith

  pub turn_moves : is_offer (heard_paper r.answer) ≡ true → 1 ≤ r.fed
  turn_moves o = let e = L.feeds in omega (arith, (goes m xs some_left).moves (rw L.answers at o))

-- ---- no sample is left
pub none_left : (a : ℕ) (m : SoftDemodulator) (xs : List ℤ) (n : ℕ) → length xs ≤ n → finding (first_from a (record_offers m (drop n xs))) ≡ none_due
unfolding finding first_from answers flat_map
none_left a m xs n l = rw (drop_of_length-le xs l)
