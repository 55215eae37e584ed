-- Document 02 k): "The filter window keeps 41 samples, twice as in f), the ring has 960 places". The arrays have 162 and 1,920:
-- at 24 kHz the places from 82 and from 960 on are not used. No test reads them, and no call changes them: of every record, and at every rate. Assumes nothing.
use mathlib.Core.Path.{◌≡◌, refl, ap, ◌∙◌}
use mathlib.Core.Logic.{inl, inr}
use mathlib.Core.Bool.{Bool, not, ◌&&◌}
use mathlib.Core.List.{List, [], ◌∷◌}
use Prim.Native.Nat.{ℕ, ◌+◌, ◌-◌, ◌*◌, ◌%◌, ◌≤◌, ◌<◌}
use native.Mathlib.Nat.{mod-lt}
use native.Mathlib.Omega.{arith}
use lib.IntN.{ℤ, pos}
use lib.ListN.{get_or, set}
use lib.Seq.{get_or-set_other}
use lib.Ieee.{Float, nan}
use Rattle.numbers.specs.Below.{all_below}
use Rattle.numbers.proofs.Below.{all_same}
use Rattle.shaping.specs.Rate.{Rate, tap_count, window_places, ring_places}
use Rattle.decode.specs.Correlator.{in_range}
use Rattle.search.specs.declared.Reply.{Reply}
use Rattle.search.specs.Turn.{Outcome, quiet, offer, sampled}
use Rattle.search.proofs.AgeInPass.{by_test}
use Rattle.demodulator.specs.declared.SoftDemodulator.{SoftDemodulator}
use Rattle.demodulator.specs.Spans.{eight}
use Rattle.demodulator.specs.Record.{back, window_after, filtered_after, stored}
use Rattle.demodulator.specs.Fit.{same_sample, halves_agree_lem, record_fit_lem, places_read_lem, fit_for_sample_lem, fit_for_reply_lem}
use Rattle.demodulator.specs.Calls.{Left, finished, demodulated, answered}
use Rattle.demodulator.specs.Singles.{Single, sample, reply, query, left_at}
use Rattle.demodulator.specs.Feed.{Stretch, fed_from, fed, fed_into}
use Rattle.demodulator.proofs.Fitness.{record_facts, sample_record}
use Rattle.demodulator.proofs.CallCases.{sample_taken}
use Rattle.demodulator.proofs.FeedSteps.{goes_on, rest_from}
use Rattle.demodulator_laws.proofs.FitAgain.{given_or_refused}

-- ---- no test reads them
-- two records with the same in all places that are used
pub record SameUsed (p : ℕ) (m n : SoftDemodulator) : Type 0 where
  pub rate : m.rate ≡ n.rate
  pub window : (i : ℕ) → i < window_places p → get_or m.filter_win i (pos 0) ≡ get_or n.filter_win i (pos 0)
  pub window_cursor : m.filter_cursor ≡ n.filter_cursor
  pub ring : (i : ℕ) → i < ring_places p → get_or m.rx_win i nan ≡ get_or n.rx_win i nan
  pub ring_cursor : m.rx_cursor ≡ n.rx_cursor
  pub control : m.control ≡ n.control

module _ (p : ℕ) (some : 0 < p) (m n : SoftDemodulator) (u : SameUsed p m n) where
  pub halves_same : halves_agree_lem p m.filter_win ≡ halves_agree_lem p n.filter_win
  unfolding halves_agree_lem
  halves_same =
      all_same (tap_count p) _ _
      (λ i l. ap (λ (a : ℤ). same_sample a (get_or m.filter_win (i + tap_count p) (pos 0))) (u.window i (omega arith))
      ∙ ap (same_sample (get_or n.filter_win i (pos 0))) (u.window (i + tap_count p) (omega arith)))

  pub back_same : (j : ℕ) → back p m j ≡ back p n j
  back_same j =
      let at = n.rx_cursor + (ring_places p - 1 - j) in
      ap (λ (c : ℕ). get_or m.rx_win ((c + (ring_places p - 1 - j)) % ring_places p) nan) u.ring_cursor ∙ u.ring (at % ring_places p) (mod-lt at (omega (arith, some)))

  record_same : record_fit_lem p m ≡ record_fit_lem p n
  unfolding record_fit_lem
  record_same = rw (u.rate, halves_same, u.window_cursor, u.ring_cursor, u.control)

  values_same : (k : ℕ) (f : ℕ → ℕ) → all_below k (λ (j : ℕ). in_range (back p m (f j))) ≡ all_below k (λ (j : ℕ). in_range (back p n (f j)))
  values_same k f = all_same k _ _ (λ j l. ap in_range (back_same (f j)))

  -- for a query, for a sample and for a reply
  pub unused_untested : (record_fit_lem p m ≡ record_fit_lem p n) × (fit_for_sample_lem p m ≡ fit_for_sample_lem p n) × (fit_for_reply_lem p m ≡ fit_for_reply_lem p n)
  unfolding fit_for_sample_lem fit_for_reply_lem
  unused_untested = (
    record_same,
    rw (record_same, u.control) (ap (λ (b : Bool). record_fit_lem p n && b) (values_same (places_read_lem n.control.wait) (λ j. p * j + (p - 1)))),
    rw record_same (ap (λ (b : Bool). record_fit_lem p n && b) (values_same 8 (λ j. p * j))),
  )

-- ---- no call changes them
pub record SameUnused (p : ℕ) (after m : SoftDemodulator) : Type 0 where
  pub window : (i : ℕ) → window_places p ≤ i → get_or after.filter_win i (pos 0) ≡ get_or m.filter_win i (pos 0)
  pub ring : (i : ℕ) → ring_places p ≤ i → get_or after.rx_win i nan ≡ get_or m.rx_win i nan

as_it_was : (p : ℕ) (m : SoftDemodulator) → SameUnused p m m
as_it_was p m = record { window = λ i l. refl; ring = λ i l. refl }

module _ (R : Rate) where
  stored_unused : (m : SoftDemodulator) (x : ℤ) (room : List Float) (o : Outcome) → m.filter_cursor < tap_count R.p → m.rx_cursor < ring_places R.p
      → SameUnused R.p (finished R.p (stored R m x) room o).demodulator m
  unfolding stored
  stored_unused m x room o w r = by o
    where
      window : (i : ℕ) → window_places R.p ≤ i → get_or (window_after R.p m x) i (pos 0) ≡ get_or m.filter_win i (pos 0)
      window i l =
          get_or-set_other (set m.filter_win m.filter_cursor x) (m.filter_cursor + tap_count R.p) i x (pos 0) (λ e. omega (arith, w))
          ∙ get_or-set_other m.filter_win m.filter_cursor i x (pos 0) (λ e. omega (arith, w))

      ring : (i : ℕ) → ring_places R.p ≤ i → get_or (set m.rx_win m.rx_cursor (filtered_after R m x)) i nan ≡ get_or m.rx_win i nan
      ring i l = get_or-set_other m.rx_win m.rx_cursor i (filtered_after R m x) nan (λ e. omega (arith, r))

      by : (o : Outcome) → SameUnused R.p (finished R.p (stored R m x) room o).demodulator m
      by (quiet c) = record { window = window; ring = ring }
      by (offer shown c) = record { window = window; ring = ring }

  sample_unused : (m : SoftDemodulator) (x : ℤ) (room : List Float) → SameUnused R.p (demodulated R m x room).demodulator m
  sample_unused m x room =
      elim (given_or_refused R m x room) [
        | inr r ↦ rw (ap (λ (l : Left). l.demodulator) r.call) (as_it_was R.p m)
        | inl g ↦
            let o = sampled R.p (eight R.p (back R.p (stored R m x))) m.control in
            let facts = record_facts R.p m (sample_record R.p m g.fit) in
            rw (ap (λ (l : Left). l.demodulator) (sample_taken R m x room g.fit g.free g.enough g.count o refl))
            (stored_unused m x room o facts.window_cursor facts.ring_cursor)
      ]

  reply_unused : (m : SoftDemodulator) (r : Reply) → SameUnused R.p (answered R.p m r []).demodulator m
  unfolding answered
  reply_unused m r =
      let Kept : Left → Type 0 = λ l. SameUnused R.p l.demodulator m in
      by_test Kept (not (fit_for_reply_lem R.p m)) _ _ (λ _. as_it_was R.p m)
      (λ _. by_test Kept (not m.control.owed) _ _ (λ _. as_it_was R.p m) (λ _. record { window = λ i l. refl; ring = λ i l. refl }))

  -- a sample, a reply or a query, refused or not
  pub unused_kept : (m : SoftDemodulator) (c : Single) → SameUnused R.p (left_at R m c).demodulator m
  unfolding left_at
  unused_kept m (sample x room) = sample_unused m x room
  unused_kept m (reply r) = reply_unused m r
  unused_kept m query = as_it_was R.p m

  -- and a stretch
  rest_unused : (xs : List ℤ) (n : ℕ) (m : SoftDemodulator) (room : List Float) → SameUnused R.p (rest_from R n m xs room).state m
  unfolding fed_from
  rest_unused [] n m room = as_it_was R.p m
  rest_unused (x ∷ xs) n m room =
      let l = demodulated R m x room in
      let first = sample_unused m x room in
      let rest = rest_unused xs (n + 1) l.demodulator l.room in
      goes_on (λ (t : Stretch SoftDemodulator). SameUnused R.p t.state m) l.answer _ _ (rest_from R (n + 1) l.demodulator xs l.room) (as_it_was R.p m) first
      (record { window = λ i k. rest.window i k ∙ first.window i k; ring = λ i k. rest.ring i k ∙ first.ring i k })

  pub stretch_unused_kept : (m : SoftDemodulator) (xs : List ℤ) (room : List Float) → SameUnused R.p (fed_into R m xs room).state m
  unfolding fed
  stretch_unused_kept m [] room = as_it_was R.p m
  stretch_unused_kept m (x ∷ xs) room = rest_unused (x ∷ xs) 0 m room
