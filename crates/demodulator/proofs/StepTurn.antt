-- What a step leaves, by its turn, is what the call is to leave. Assumes nothing.
use Rattle.std.specs.Prelude.{Option, Some, None, Result, Ok}
use Rattle.demodulator.specs.declared.Offer.{Offer}
use Rattle.protocol.specs.declared.Refusal.{Refusal}
use mathlib.Core.Path.{◌≡◌, refl, sym, ap, ◌∙◌}
use mathlib.Core.Bool.{true}
use mathlib.Core.List.{List}
use Prim.Native.Nat.{ℕ, ◌+◌, ◌%◌, ◌<◌}
use lib.IntN.{ℤ}
use lib.Ieee.{Float}
use Rattle.numbers.specs.Firsts.{firsts, written}
use Rattle.shaping.specs.Rate.{rate_fit, rate_at, tap_count, ring_places}
use Rattle.decode.specs.Parts.{values_of}
use Rattle.search.specs.declared.Control.{Control}
use Rattle.search.specs.declared.Shown.{Shown}
use Rattle.search.specs.declared.Turn.{Turn}
use Rattle.search.specs.declared.Turn.TheVariants.{Rest, Offer as OfferTurn, Look}
use Rattle.search.specs.Turn.{Outcome, quiet, offer, comes_to, sampled}
use Rattle.search.specs.Promises.{TurnOfSays, SearchedSays}
use Rattle.search.proofs.SearchSame.{searched_same}
use Rattle.demodulator.specs.declared.SoftDemodulator.{SoftDemodulator}
use Rattle.demodulator.specs.declared.step.Places.{Places}
use Rattle.demodulator.specs.Spans.{eight, symbol_at}
use Rattle.demodulator.specs.Record.{assembled, back, with_control, stored}
use Rattle.demodulator.specs.Calls.{Left, heard_paper, offer_of, finished, DemodAt}
use Rattle.demodulator.specs.Parts.{Stores}
use Rattle.demodulator.specs.Steps.{Accepts}
use Rattle.demodulator.proofs.Fitness.{record_facts, sample_record}
use Rattle.demodulator.proofs.Readers.{eight_at}
use Rattle.demodulator.proofs.CallCases.{sample_taken}

-- ---- the step
module _ {p : ℕ} {window : List ℤ} {ring room : List Float} {at : Places} {c : Control} (accepts : Accepts p window ring at c room) where
  pub accepts_inside : (at.filter_cursor < tap_count p) × (at.rx_cursor < ring_places p)
  accepts_inside =
      let f = record_facts p (assembled 48000 window at.filter_cursor ring at.rx_cursor c) (sample_record p _ (accepts.fit 48000 refl)) in
      (f.window_cursor, f.ring_cursor)

module _ (p : ℕ) (window window' : List ℤ) (ring ring' : List Float) (at : Places) (c : Control) (x : ℤ) (stores : Stores p window at.filter_cursor ring at.rx_cursor x window' ring') where
  abbrev before : ℕ → SoftDemodulator
  before rate = assembled rate window at.filter_cursor ring at.rx_cursor c

  abbrev after : ℕ → Control → SoftDemodulator
  after rate d = assembled rate window' ((at.filter_cursor + 1) % tap_count p) ring' ((at.rx_cursor + 1) % ring_places p) d

  kept : (rate : ℕ) (d : Control) → after rate d ≡ with_control d (stored (rate_at p) (before rate) x)
  unfolding stored
  kept rate d = stores rate d

  pub seen : (rate : ℕ) (values : List Float) → values ≡ firsts (eight p (back p (after rate c))) 8 → (i : ℕ) → i < 8 → values_of values i ≡ eight p (back p (stored (rate_at p) (before rate) x)) i
  seen rate values e i l = eight_at p values (back p (after rate c)) e i l ∙ ap (λ (m : SoftDemodulator). eight p (back p m) i) (stores rate c)

  module _ (room : List Float) (accepts : Accepts p window ring at c room) (rate : ℕ) (known : rate_fit rate ≡ true) where
    -- what the step leaves, by what the sample comes to
    step_says : (o : Outcome) → o ≡ sampled p (eight p (back p (stored (rate_at p) (before rate) x))) c → (answer : Result (Option Offer) Refusal) (d : Control) (room' : List Float)
        → heard_paper answer ≡ (finished p (stored (rate_at p) (before rate) x) room o).answer
        → with_control d (stored (rate_at p) (before rate) x) ≡ (finished p (stored (rate_at p) (before rate) x) room o).demodulator
        → room' ≡ (finished p (stored (rate_at p) (before rate) x) room o).room
        → DemodAt (rate_at p) (before rate) x room (record { answer = answer; demodulator = after rate d }) room'
    step_says o e answer d room' a l w =
        let t = sample_taken (rate_at p) (before rate) x room (accepts.fit rate known) accepts.no_reply accepts.room_enough accepts.count o e in
        record { answers = a ∙ sym (ap (λ (p : Left). p.answer) t); leaves = kept rate d ∙ l ∙ sym (ap (λ (p : Left). p.demodulator) t); writes = w ∙ sym (ap (λ (p : Left). p.room) t) }

    -- and so by its turn
    module _ (r : Turn) (says : TurnOfSays c (c.sample + 1) r) where
      comes : (o : Turn) → r ≡ o → comes_to p (eight p (back p (stored (rate_at p) (before rate) x))) o ≡ sampled p (eight p (back p (stored (rate_at p) (before rate) x))) c
      unfolding sampled
      comes o told = ap (comes_to p (eight p (back p (stored (rate_at p) (before rate) x)))) (sym told ∙ says)

      pub rests : (d : Control) → r ≡ Rest d → DemodAt (rate_at p) (before rate) x room (record { answer = (Ok None); demodulator = after rate d }) room
      rests d told = step_says (quiet d) (comes (Rest d) told) (Ok None) d room refl refl refl

      pub offers : (shown : Shown) (d : Control) → r ≡ OfferTurn shown d → (room' : List Float) → room' ≡ written (symbol_at p shown (back p (after rate c))) 192 room
          → DemodAt (rate_at p) (before rate) x room (record { answer = Ok (Some (offer_of shown d.sample)); demodulator = after rate d }) room'
      offers shown d told room' w =
          step_says (offer shown d) (comes (OfferTurn shown d) told) (Ok (Some (offer_of shown d.sample))) d room' refl refl
          (w ∙ ap (λ (m : SoftDemodulator). written (symbol_at p shown (back p m)) 192 room) (stores rate c))

      pub looks : (d : Control) → r ≡ Look d → (values : List Float) → values ≡ firsts (eight p (back p (after rate c))) 8 → (found : Control) → SearchedSays p d values found
          → DemodAt (rate_at p) (before rate) x room (record { answer = (Ok None); demodulator = after rate found }) room
      looks d told values e found says-found =
          step_says (quiet found) (ap quiet (says-found ∙ searched_same p (values_of values) (eight p (back p (stored (rate_at p) (before rate) x))) (seen rate values e) d) ∙ comes (Look d) told) (Ok None) found room refl refl refl
