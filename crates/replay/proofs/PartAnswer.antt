-- Where nothing is refused: what is found in the part after the last pause is, in the recording's numbers, what the promise asks. Assumes nothing.
use Rattle.std.specs.Prelude.{Some, None, Ok, Option}
use mathlib.Core.Path.{◌≡◌, refl, sym, ap, ◌∙◌, subst}
use mathlib.Core.Logic.{inl, inr}
use mathlib.Core.Bool.{true}
use mathlib.Core.List.{List, ◌++◌}
use Prim.Native.Nat.{ℕ, ◌+◌, ◌-◌, ◌^◌, ◌≤◌, ◌<◌}
use native.Mathlib.Omega.{arith}
use lib.IntN.{ℤ, pos}
use lib.ListN.{length, take, drop, length-drop}
use lib.Seq.{get_or-drop}
use lib.Ieee.{Float}
use mir.Syntax.{w16}
use mir.Val.{SFits}
use Rattle.numbers.specs.Sixteen.{AllSixteen}
use Rattle.numbers.proofs.Tail.{tail_lent}
use Rattle.machine.specs.Runs.{Each}
use Rattle.shaping.specs.Rate.{Rate, rate_fit, samples_in_lem, rate_of, per_second}
use Rattle.shaping.proofs.RateFacts.{two_rates, rate_facts}
use Rattle.demodulator.specs.declared.Offer.{Offer}
use Rattle.demodulator.specs.Record.{fresh}
use Rattle.demodulator_run.proofs.Sixteen.{each_sixteen}
use Rattle.silence.specs.Silence.{pause}
use Rattle.silence.specs.Later.{later_offer}
use Rattle.listening.specs.Listener.{Listed}
use Rattle.listening.specs.Verdict.{verdict}
use Rattle.listening.proofs.FirstSample.{record_offers}
use Rattle.listening.proofs.Agreement.{same_offers}
use Rattle.replay.specs.declared.part.First.{First}
use Rattle.replay.specs.FullRun.{all_offers, first_from, later_found}
use Rattle.replay.specs.Pauses.{LastPause}
use Rattle.replay.specs.Part.{none_due, due, finding, found_in, FirstIn}
use Rattle.replay.specs.Open.{no_offer, offered, shows, opened, OpenSays}
use Rattle.replay.proofs.TailAnswer.{tail_answer}
use Rattle.replay.proofs.OfferBounds.{found_bounded, offers_bounded}
use Rattle.replay.proofs.Refusals.{promised, opened_shows}

-- an offer 0 samples later
as_it_is : (x : Option Listed) → x ≡ later_found 0 x
unfolding later_found
as_it_is None = refl
as_it_is (Some o) =
    let a : o.due.sample ≡ o.due.sample + 0 = omega arith in
    let b : o.due.taken_at ≡ o.due.taken_at + 0 = omega arith in
    let d = o.due in
    λ i. Some (record {
      due = record { kind = d.kind; sample = a i; taken_at = b i; age = d.age; replaced = d.replaced; gain = d.gain };
      symbols = o.symbols;
      reply = o.reply;
    })

-- no refusal applies, and the part begins after e samples
pub record Opens (rate : ℕ) (xs : List ℤ) (a : ℕ) (room : List Float) (e : ℕ) : Type 0 where
  pub fit : rate_fit rate ≡ true
  pub roomy : 192 ≤ length room
  pub few : length xs ≤ 2 ^ 63
  pub sixteen : AllSixteen xs
  pub least : 1 ≤ a
  pub most : a ≤ length xs
  pub last : LastPause (pause (samples_in_lem rate)) xs (a - 1) e

pub opens : {rate : ℕ} {xs : List ℤ} {a : ℕ} {room : List Float} {e : ℕ} (p : ℕ) → rate_fit rate ≡ true → 192 ≤ length room → length xs ≤ 2 ^ 63 → AllSixteen xs
    → (a ≡ 0 → ⊥) → a ≤ length xs → p ≡ samples_in_lem rate → LastPause (pause p) xs (a - 1) e → Opens rate xs a room e
opens {xs = xs} {a = a} {e = e} p fit roomy few sixteen other most is last = record {
  fit = fit;
  roomy = roomy;
  few = few;
  sixteen = sixteen;
  least = omega arith;
  most = most;
  last = subst (λ (p : ℕ). LastPause (pause p) xs (a - 1) e) is last;
}

-- the part is heard
pub heard : (rate : ℕ) (xs : List ℤ) (a e : ℕ) (r : First) → FirstIn rate (take (length xs - e) (drop e xs)) a r → FirstIn rate (drop e xs) a r
heard rate xs a e r f = rw (tail_lent xs e) at f

module _ (rate : ℕ) (xs : List ℤ) (a : ℕ) (room : List Float) (e : ℕ) (O : Opens rate xs a room e)
    (r : First) (f : FirstIn rate (drop e xs) (a - e) r) where
  abbrev R : Rate
  R = rate_of rate

  -- ---- by the rules
  abbrev found : Option Listed
  found = first_from (a - e) (all_offers R (drop e xs))

  part_answer : first_from a (all_offers R xs) ≡ later_found e found
  part_answer = elim O.last.there [
    | inl z ↦
        let all : a - 0 ≡ a = omega arith in
        rw z (as_it_is (first_from a (all_offers R xs)) ∙ ap (λ (k : ℕ). later_found 0 (first_from k (all_offers R xs))) (sym all))
    | inr q ↦ let u = O.last.within in let l = O.least in tail_answer R (rate_facts rate O.fit) xs e q O.few a (omega arith)
  ]

  tail_sixteen : AllSixteen (drop e xs)
  tail_sixteen k l = subst (SFits w16) (sym (get_or-drop e xs k (pos 0))) (O.sixteen (e + k) (omega (arith, length-drop e xs)))

  -- ---- by the record
  same_rate : per_second (samples_in_lem rate) ≡ rate
  same_rate = elim (two_rates rate O.fit) [ inl z ↦ rw z | inr z ↦ rw z ]

  part_sixteen : Each (SFits w16) (drop e xs)
  part_sixteen = each_sixteen (drop e xs) tail_sixteen

  seen : found_in r.found r.window ≡ finding found
  seen =
      f
      ∙ ap (λ (k : ℕ). finding (first_from (a - e) (record_offers (fresh k) (drop e xs)))) (sym same_rate)
      ∙ ap (λ (os : List Listed). finding (first_from (a - e) os)) (same_offers R (rate_facts rate O.fit) verdict (drop e xs) part_sixteen)

  seen_as : (x : Option Offer) → r.found ≡ x → found_in x r.window ≡ finding found
  seen_as x q = sym (ap (λ (y : Option Offer). found_in y r.window) q) ∙ seen

  answered : opened rate xs a room ≡ shows (later_found e found) room
  answered = opened_shows rate xs a room O.fit O.roomy O.few O.least O.most ∙ ap (λ (x : Option Listed). shows x room) part_answer

  -- ---- no offer
  none_shown : (x : Option Listed) → none_due ≡ finding x → shows (later_found e x) room ≡ record { answer = no_offer; room = room }
  unfolding shows later_found finding
  none_shown None q = refl
  none_shown (Some l) q = let z : ◌≡◌ {A = ℕ} 0 1 = cc in absurd (omega arith)

  pub opens_none : r.found ≡ None → OpenSays rate xs a room (Ok None) room
  opens_none q = promised rate xs a room _ (answered ∙ none_shown found (seen_as None q)) (Ok None) room refl refl

  -- ---- an offer
  module _ (o : Offer) (q : r.found ≡ Some o) where
    listed : (x : Option Listed) → due o r.window ≡ finding x → (l : Listed) × (x ≡ Some l) × (l.due ≡ o) × (l.symbols ≡ r.window)
    unfolding finding
    listed None s = let z : ◌≡◌ {A = ℕ} 0 1 = cc in absurd (omega arith)
    listed (Some l) s = (l, refl, cc, cc)

    shown : (x : Option Listed) → due o r.window ≡ finding x
        → shows (later_found e x) room ≡ record { answer = offered (later_offer e o); room = r.window ++ drop 192 room }
    unfolding shows later_found
    shown x s =
        let (l, there, same, symbols) = listed x s in
        rw (there, same, symbols)

    pub opens_found : (n : Offer) (after : List Float) → n ≡ later_offer e o → after ≡ r.window ++ drop 192 room
        → OpenSays rate xs a room (Ok (Some n)) after
    opens_found n after m w = promised rate xs a room _ (answered ∙ shown found (seen_as (Some o) q)) (Ok (Some n)) after (ap offered m) w

    -- its numbers in the recording
    pub numbers_fit : (o.sample + e < 2 ^ 64) × (o.taken_at + e < 2 ^ 64)
    numbers_fit =
        let (l, there, same, symbols) = listed found (seen_as (Some o) q) in
        let long = length-drop e xs in
        let u = O.last.within in
        let m = O.most in
        let few = O.few in
        let all = offers_bounded R (rate_facts rate O.fit) (drop e xs) part_sixteen (omega arith) in
        let B = found_bounded (a - e) (0 + length (drop e xs)) (all_offers R (drop e xs)) all l there in
        let x = B.due in
        let y = B.taken in
        let v : l.due.sample ≡ o.sample = ap (λ (k : Offer). k.sample) same in
        let w : l.due.taken_at ≡ o.taken_at = ap (λ (k : Offer). k.taken_at) same in
        (omega arith, omega arith)
