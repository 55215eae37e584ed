-- An accepted call leaves a record that is fit for the next one, if all of its ring's values are in range: an age of 255 apart, which was 254, and a candidate taken
-- by a reply at a made-up count of 0. Assumes nothing.
use mathlib.Core.Path.{◌≡◌, refl, ap, ◌∙◌}
use mathlib.Core.Logic.{◌⊎◌, inl, inr}
use mathlib.Core.Bool.{Bool, true, false, ◌&&◌}
use mathlib.Core.List.{List}
use native.Mathlib.Omega.{arith}
use Prim.Native.Nat.{ℕ, ◌+◌, ◌-◌, ◌*◌, ◌%◌, ◌^◌, ◌≤◌, ◌<◌}
use native.Mathlib.Nat.{eq-or-lt_of_le, mod-lt}
use lib.Dec.{T, ltb, lt→ltb, lit≤}
use borrow.Author.Tests.{ltb-true, ltb-false}
use lib.IntN.{ℤ}
use lib.ListN.{length, get_or}
use lib.Ieee.{Float, nan}
use lib.Ieee.Bits.{is_true}
use lib.Ieee.Fits.{and_i, and_l, and_r}
use mir.Syntax.{w16}
use mir.Val.{SFits}
use Rattle.numbers.specs.Below.{all_below}
use Rattle.numbers.proofs.Tests.{holds}
use Rattle.numbers.proofs.Below.{below_all}
use Rattle.shaping.specs.Rate.{Rate, rate_fit, tap_count, ring_places}
use Rattle.shaping.proofs.RateFacts.{Facts}
use Rattle.protocol.specs.Refusals.{PaperRefusal, bare}
use Rattle.decode.specs.Correlator.{in_range}
use Rattle.search.specs.declared.Control.{Control}
use Rattle.search.specs.declared.Reply.{Reply}
use Rattle.search.specs.Search.{with_candidate, age_of}
use Rattle.search.specs.Turn.{Outcome, quiet, offer, control_of, sampled}
use Rattle.search.specs.Fit.{held, control_fit_lem}
use Rattle.demodulator.specs.declared.SoftDemodulator.{SoftDemodulator}
use Rattle.demodulator.specs.Spans.{eight}
use Rattle.demodulator.specs.Record.{back, with_control, filtered_after, stored}
use Rattle.demodulator.specs.Fit.{halves_agree_lem, cursors_fit, rings_fit, record_fit_lem, places_read_lem, fit_for_sample_lem, fit_for_reply_lem}
use Rattle.demodulator.specs.Calls.{Paper, refusal, Left, refused, finished, demodulated, reply_leaves, answered}
use Rattle.demodulator.proofs.Fitness.{RecordFacts, record_facts, sample_record, reply_record}
use Rattle.demodulator.proofs.Halves.{stored_halves}
use Rattle.demodulator.proofs.CallCases.{sample_other_rate, sample_unfit, sample_owed, sample_cramped, sample_last, sample_taken, reply_other_rate, reply_unfit, reply_unasked, reply_taken}
use Rattle.demodulator_laws.proofs.Grown.{with_age}
use Rattle.demodulator_laws.proofs.SearchFits.{counted_first}
use Rattle.demodulator_laws.proofs.SampleFits.{either, sampled_fits, replied_either}
use Rattle.demodulator_laws.proofs.StoredFits.{Rings, set_holds, new_in_range, stored_rings, stored_eight}

-- ---- the statement's words, at p samples a symbol
-- all of the ring's values that are used are in range; the window's samples are of 16 bits, and the places of both are enough (162 and 1,920 at 48 kHz), as their types have it
pub record InRange (p : ℕ) (m : SoftDemodulator) : Type 0 where
  pub rings : Rings p m.filter_win m.rx_win
  pub values : (i : ℕ) → i < ring_places p → T (in_range (get_or m.rx_win i nan))

-- fit for any call
pub record Fits (p : ℕ) (m : SoftDemodulator) : Type 0 where
  pub for_sample : fit_for_sample_lem p m ≡ true
  pub for_reply : fit_for_reply_lem p m ≡ true

-- an age of 255: with 254 in its place the record is fit
pub record Old (p : ℕ) (m : SoftDemodulator) : Type 0 where
  pub is : age_of m.control.candidate ≡ 255
  pub else_fit : Fits p (with_control (with_candidate (with_age 254 m.control.candidate) m.control) m)

-- "A made-up age of 254 may come back as 255"
pub record Aged (p : ℕ) (m after : SoftDemodulator) : Type 0 where
  pub was : age_of m.control.candidate ≡ 254
  pub old : Old p after

-- a reply was owed at count 0, which no run comes to, and its rejection took a candidate: at sample 0. With 1 for that and for the count the record is fit
pub record Uncounted (p : ℕ) (m after : SoftDemodulator) : Type 0 where
  pub was : m.control.sample ≡ 0
  pub holds : T (held after.control.candidate)
  pub else_fit : Fits p (with_control (counted_first after.control) after)

-- no refusal
abbrev pub Accepted : Paper → Type 0
Accepted answer = (n : PaperRefusal) → answer ≡ refusal n → ⊥

-- ---- a record whose values are in range is fit by its rate and its control
module _ (p : ℕ) (some : 0 < p) (m : SoftDemodulator) (in_range_lem : InRange p m) where
  pub back_in_range : (j : ℕ) → T (in_range (back p m j))
  back_in_range j =
      let at = m.rx_cursor + (ring_places p - 1 - j) in
      in_range_lem.values (at % ring_places p) (mod-lt at (omega (arith, some)))

  fits_by_control : T (rate_fit m.rate) → T (rings_fit p m) → T (control_fit_lem p m.control) → Fits p m
  unfolding fit_for_sample_lem fit_for_reply_lem record_fit_lem
  fits_by_control known fit-rings control =
      let fit = and_i (rate_fit m.rate && rings_fit p m) (control_fit_lem p m.control) (and_i (rate_fit m.rate) (rings_fit p m) known fit-rings) control in
      let n = places_read_lem m.control.wait in
      let one : ℕ → Bool = λ (j : ℕ). in_range (back p m (p * j + (p - 1))) in
      let other : ℕ → Bool = λ (j : ℕ). in_range (back p m (p * j)) in
      record {
        for_sample = is_true (fit_for_sample_lem p m) (and_i (record_fit_lem p m) (all_below n one) fit (below_all n one (λ j l. back_in_range (p * j + (p - 1)))));
        for_reply = is_true (fit_for_reply_lem p m) (and_i (record_fit_lem p m) (all_below 8 other) fit (below_all 8 other (λ j l. back_in_range (p * j))));
      }

-- ---- what an accepted call was given
never : {A : Type 0} (call : Left) → Accepted call.answer → (n : ℕ) (m : SoftDemodulator) (room : List Float) → call ≡ refused n m room → A
never call accepted n m room e = absurd (accepted (bare n) (ap (λ (l : Left). l.answer) e))

pub record Given (p : ℕ) (m : SoftDemodulator) (room : List Float) : Type 0 where
  pub fit : fit_for_sample_lem p m ≡ true
  pub free : m.control.owed ≡ false
  pub enough : 192 ≤ length room
  pub count : m.control.sample < 2 ^ 63

pub record Refused (R : Rate) (m : SoftDemodulator) (x : ℤ) (room : List Float) : Type 0 where
  pub number : ℕ
  pub call : demodulated R m x room ≡ refused number m room

module _ (R : Rate) (m : SoftDemodulator) (x : ℤ) (room : List Float) where
  unfit_refused : fit_for_sample_lem R.p m ≡ false → Refused R m x room
  unfit_refused e =
      elim (either (rate_fit m.rate)) [
        | inr other ↦ record { number = 15; call = sample_other_rate R m x room other }
        | inl known ↦ record { number = 1; call = sample_unfit R m x room known e }
      ]

  pub given_or_refused : Given R.p m room ⊎ Refused R m x room
  given_or_refused =
      elim (either (fit_for_sample_lem R.p m)) [
        | inr e ↦ inr (unfit_refused e)
        | inl fit ↦ elim (either m.control.owed) [
          | inl e ↦ inr (record { number = 2; call = sample_owed R m x room fit e })
          | inr free ↦ elim (either (ltb (length room) 192)) [
            | inl t ↦ inr (record { number = 4; call = sample_cramped R m x room fit free (ltb-true (length room) 192 t) })
            | inr t ↦
                let enough = ltb-false (length room) 192 t in
                elim (eq-or-lt_of_le (record_facts R.p m (sample_record R.p m fit)).control.count) [
                  | inl e ↦ inr (record { number = 5; call = sample_last R m x room fit free enough e })
                  | inr l ↦ inl (record { fit = fit; free = free; enough = enough; count = l })
                ]
          ]
        ]
      ]

  pub given : Accepted (demodulated R m x room).answer → Given R.p m room
  given accepted = elim given_or_refused [ inl g ↦ g | inr r ↦ never _ accepted r.number m room r.call ]

-- ---- what a sample leaves
finished_leaves : (p : ℕ) (m : SoftDemodulator) (room : List Float) (o : Outcome) → (finished p m room o).demodulator ≡ with_control (control_of o) m
finished_leaves p m room (quiet c) = refl
finished_leaves p m room (offer shown c) = refl

module _ (R : Rate) (F : Facts R) (m : SoftDemodulator) (x : ℤ) (fits : SFits w16 x) (in_range_lem : InRange R.p m) where
  some : 0 < R.p
  some = omega (arith, F.some)

  pub stored_in_range : (c : Control) → InRange R.p (with_control c (stored R m x))
  unfolding stored
  stored_in_range c =
      let rings = in_range_lem.rings in
      record {
        rings = stored_rings R F m x rings fits;
        values = λ i l. set_holds (λ (value : Float). T (in_range value)) m.rx_win m.rx_cursor i (filtered_after R m x) nan (new_in_range R F m x rings fits) (in_range_lem.values i l);
      }

  stored_cursors : (c : Control) → T (cursors_fit R.p (with_control c (stored R m x)))
  unfolding stored
  stored_cursors c =
      let w = (m.filter_cursor + 1) % tap_count R.p in
      let r = (m.rx_cursor + 1) % ring_places R.p in
      and_i (ltb w (tap_count R.p)) (ltb r (ring_places R.p))
      (lt→ltb w (tap_count R.p) (mod-lt (m.filter_cursor + 1) (omega arith)))
      (lt→ltb r (ring_places R.p) (mod-lt (m.rx_cursor + 1) (omega (arith, some))))

  stored_rate : (c : Control) → (with_control c (stored R m x)).rate ≡ m.rate
  unfolding stored
  stored_rate c = refl

  stored_fits : fit_for_sample_lem R.p m ≡ true → (c : Control) → T (control_fit_lem R.p c) → Fits R.p (with_control c (stored R m x))
  stored_fits fit c =
      let facts : RecordFacts R.p m = record_facts R.p m (sample_record R.p m fit) in
      let agree = holds (stored_halves R m x facts.window_cursor in_range_lem.rings.window_places_lem facts.halves) in
      let after : SoftDemodulator = with_control c (stored R m x) in
      let known : T (rate_fit after.rate) = rw (stored_rate c) (holds facts.rate) in
      fits_by_control R.p some after (stored_in_range c) known (and_i (halves_agree_lem R.p after.filter_win) (cursors_fit R.p after) agree (stored_cursors c))

  module _ (room : List Float) (accepted : Accepted (demodulated R m x room).answer) where
    abbrev comes_to : Outcome
    comes_to = sampled R.p (eight R.p (back R.p (stored R m x))) m.control

    leaves : (demodulated R m x room).demodulator ≡ with_control (control_of comes_to) (stored R m x)
    leaves =
        let g = given R m x room accepted in
        ap (λ (l : Left). l.demodulator) (sample_taken R m x room g.fit g.free g.enough g.count comes_to refl) ∙ finished_leaves R.p (stored R m x) room comes_to

    pub fit_again : InRange R.p (demodulated R m x room).demodulator × (Fits R.p (demodulated R m x room).demodulator ⊎ Aged R.p m (demodulated R m x room).demodulator)
    unfolding record_fit_lem
    fit_again =
        let g = given R m x room accepted in
        let rings = in_range_lem.rings in
        let range = stored_eight R F m x rings fits g.fit in
        let control = and_r (rate_fit m.rate && rings_fit R.p m) (control_fit_lem R.p m.control) (holds (sample_record R.p m g.fit)) in
        let c = control_of comes_to in
        rw leaves (
          stored_in_range c,
          elim (sampled_fits R.p F.some (eight R.p (back R.p (stored R m x))) range m.control control g.count g.free) [
            | inl t ↦ inl (stored_fits g.fit c t)
            | inr o ↦ inr (record { was = o.was; old = record { is = o.is; else_fit = stored_fits g.fit (with_candidate (with_age 254 c.candidate) c) o.else_fit } })
          ],
        )

-- ---- what a reply leaves
module _ (p : ℕ) (symbol : 2 ≤ p) (m : SoftDemodulator) (reply : Reply) (room : List Float) (in_range_lem : InRange p m) (accepted : Accepted (answered p m reply room).answer) where
  reply_given : (fit_for_reply_lem p m ≡ true) × (m.control.owed ≡ true)
  reply_given =
      elim (either (fit_for_reply_lem p m)) [
        | inr e ↦ elim (either (rate_fit m.rate)) [
          | inr other ↦ never _ accepted 15 m room (reply_other_rate p m reply room other)
          | inl known ↦ never _ accepted 1 m room (reply_unfit p m reply room known e)
        ]
        | inl fit ↦ elim (either m.control.owed) [
          | inr e ↦ never _ accepted 3 m room (reply_unasked p m reply room fit e)
          | inl owed ↦ (fit, owed)
        ]
      ]

  pub reply_fit_again : InRange p (answered p m reply room).demodulator × (Fits p (answered p m reply room).demodulator ⊎ Uncounted p m (answered p m reply room).demodulator)
  unfolding record_fit_lem
  reply_fit_again =
      let some : 0 < p = omega (arith, symbol) in
      let fit = reply_given.0 in
      let owed = reply_given.1 in
      let both = holds (reply_record p m fit) in
      let control = and_r (rate_fit m.rate && rings_fit p m) (control_fit_lem p m.control) both in
      let first_two = and_l (rate_fit m.rate && rings_fit p m) (control_fit_lem p m.control) both in
      let known = and_l (rate_fit m.rate) (rings_fit p m) first_two in
      let rings = and_r (rate_fit m.rate) (rings_fit p m) first_two in
      let none = (record_facts p m (reply_record p m fit)).control.reply owed in
      let range : (i : ℕ) → i < 8 → T (in_range (eight p (back p m) i)) = λ i l. back_in_range p some m in_range_lem (p * (7 - i)) in
      let after : SoftDemodulator = reply_leaves p m reply in
      let kept : InRange p after = record { rings = in_range_lem.rings; values = in_range_lem.values } in
      let first : SoftDemodulator = with_control (counted_first after.control) after in
      rw (reply_taken p m reply room fit owed) (
        kept,
        elim (replied_either p symbol (eight p (back p m)) range m.control control none reply) [
          | inl t ↦ inl (fits_by_control p some after kept known rings t)
          | inr o ↦ inr (record { was = o.was; holds = o.holds; else_fit = fits_by_control p some first (record { rings = in_range_lem.rings; values = in_range_lem.values }) known rings o.else_fit })
        ],
      )
