-- The loop over a recording: what one turn keeps of it. Assumes nothing.
use Rattle.std.specs.Prelude.{Some, None, is_some}
use mathlib.Core.Path.{◌≡◌, refl, sym, ap, subst, ◌∙◌}
use mathlib.Core.Bool.{Bool, true, false, true≢false}
use mathlib.Core.List.{List, ◌++◌}
use Prim.Native.Nat.{ℕ, ◌+◌, ◌-◌, ◌*◌, ◌^◌, ◌≤◌, ◌<◌}
use native.Mathlib.Omega.{arith}
use borrow.Author.Tests.{leb-true, leb-false}
use lib.Dec.{leb}
use lib.IntN.{ℤ}
use lib.ListN.{length, take, drop, length-drop, take-append-drop}
use lib.Seq.{length-take-le, take-take, take-add, take_all}
use Rattle.machine.specs.Runs.{run}
use Rattle.shaping.specs.Rate.{rate_fit, samples_in_lem}
use Rattle.shaping.proofs.RateFacts.{rate_known}
use Rattle.demodulator.specs.declared.SoftDemodulator.{SoftDemodulator}
use Rattle.demodulator.specs.Record.{fresh}
use Rattle.demodulator.specs.Feed.{Stretch}
use Rattle.listening.specs.Listener.{Listed, own_record}
use Rattle.listening.specs.Verdict.{verdict}
use Rattle.listening.specs.Listen.{listed_at_end, left_by_stretch, stretch_of}
use Rattle.listening.proofs.FirstSample.{heard_all}
use Rattle.listening.proofs.Stretches.{goes}
use Rattle.figures.specs.declared.hear.Turn.{Turn}
use Rattle.figures.specs.declared.Figures.{Figures}
use Rattle.figures.specs.Totals.{total_at, no_figures_lem, plus, Fit}
use Rattle.figures.specs.FullList.{after, record_held, record_figures}
use Rattle.figures.specs.Turn.{resting, Short, TurnSays, NextCount}
use Rattle.figures.proofs.TotalLaws.{fits_all, passes_none}
use Rattle.figures.proofs.HeldStretch.{held_in}
use Rattle.figures.proofs.CountedRun.{Counted, counted_run}
use Rattle.figures.proofs.FigureParts.{figures_most, figures_none, figures_stuck, figures_turn, left_turn}

-- before each turn: the first `fed` samples were heard
pub record Heard (rate : ℕ) (samples : List ℤ) (span : ℕ) (left : SoftDemodulator) (figures : Figures) (fed most : ℕ) : Type 0 where
  pub inside : fed ≤ length samples
  pub least : 1 ≤ most
  pub few : most ≤ span
  pub leaves : left ≡ heard_all (fresh rate) (take fed samples)
  pub counts : figures ≡ record_figures no_figures_lem (fresh rate) (take fed samples)

fresh_rate : (rate : ℕ) → (fresh rate).rate ≡ rate
unfolding fresh
fresh_rate rate = refl

fresh_count : (rate : ℕ) → (fresh rate).control.sample ≡ 0
unfolding fresh
fresh_count rate = refl

pub figures_below : (m : SoftDemodulator) (xs : List ℤ) (i : ℕ) → i < 24 → total_at (record_figures no_figures_lem m xs).totals i ≤ length xs
unfolding record_figures
figures_below m xs i inside = figures_most own_record record_held verdict m xs i inside

pub begins : (rate : ℕ) (samples : List ℤ) (span : ℕ) → 1 ≤ span → Heard rate samples span (fresh rate) no_figures_lem 0 span
unfolding run
begins rate samples span some = record { inside = omega arith; least = some; few = omega arith; leaves = refl; counts = figures_none (fresh rate) }

pub ends : (rate : ℕ) (samples : List ℤ) (span : ℕ) (left : SoftDemodulator) (figures : Figures) (fed most : ℕ)
    → Heard rate samples span left figures fed most → length samples ≤ fed → figures ≡ record_figures no_figures_lem (fresh rate) samples
ends rate samples span left figures fed most H all = H.counts ∙ ap (record_figures no_figures_lem (fresh rate)) (take_all fed samples all)

module _ (rate : ℕ) (samples : List ℤ) (fit : rate_fit rate ≡ true) (short : length samples ≤ 2 ^ 63) (span : ℕ) (span-is : span ≡ 24 * samples_in_lem rate)
    (left : SoftDemodulator) (figures : Figures) (fed most : ℕ) (H : Heard rate samples span left figures fed most) (more : fed < length samples)
    (n : ℕ) (N : NextCount left (length samples - fed) most n) where
  abbrev ys : List ℤ
  ys = take (fed + n - fed) (drop fed samples)

  abbrev zs : List ℤ
  zs = take fed samples

  long : length ys ≡ n
  long =
      let there = N.there in
      let same : fed + n - fed ≡ n = omega arith in
      length-take-le (fed + n - fed) (drop fed samples) (omega (arith, length-drop fed samples)) ∙ same

  some : 1 ≤ length ys
  some = let l = long in let s = N.least in omega arith

  small : samples_in_lem rate ≤ 10
  small = (rate_known rate fit).1

  counted : Counted (fresh rate) left fed
  counted =
      let size : length zs ≡ fed = length-take-le fed samples H.inside in
      let zero = fresh_count rate in
      let c = counted_run (fresh rate) zs (rw (fresh_rate rate) small) (omega arith) in
      subst (λ (d : SoftDemodulator). Counted (fresh rate) d fed) (sym H.leaves) (rw size at c)

  pub turn_short : Short left ys
  turn_short =
      let l = long in
      let C = counted in
      let zero = fresh_count rate in
      let same : left.rate ≡ rate = C.same ∙ fresh_rate rate in
      let p = small in
      let at = C.count in
      let there = N.there in
      let most-few = H.few in
      record {
        least = some;
        small = rw same p;
        few = omega arith;
        span = λ busy. rw same (omega (arith, N.few (rw l at busy)));
        lasts = λ busy h. rw l (N.lasts (rw l at busy) h);
      }

  module _ (r : Turn) (T : TurnSays left ys r) where
    abbrev f : Stretch SoftDemodulator
    f = stretch_of left ys

    fed_most : r.fed ≤ n
    fed_most = let g = (goes left ys some).most in let e = T.feeds in let l = long in omega arith

    pub turn_inside : fed + r.fed ≤ length samples
    turn_inside = let u = fed_most in let there = N.there in omega arith

    parts : zs ++ take r.fed ys ≡ take (fed + r.fed) samples
    parts =
        let u = fed_most in
        ap (λ (l : List ℤ). zs ++ l) (take-take r.fed (fed + n - fed) (drop fed samples) (omega arith)) ∙ sym (take-add fed r.fed samples)

    abbrev LeftBy : SoftDemodulator → Type 0
    LeftBy d = (1 ≤ length ys) → (k : ℕ) → k ≡ (stretch_of d ys).fed → left_by_stretch (stretch_of d ys) ≡ heard_all (fresh rate) (zs ++ take k ys)

    pub turn_leaves : r.demodulator ≡ heard_all (fresh rate) (take (fed + r.fed) samples)
    turn_leaves =
        T.leaves
        ∙ subst LeftBy (sym H.leaves) (left_turn (fresh rate) zs ys) some r.fed T.feeds
        ∙ ap (heard_all (fresh rate)) parts

    abbrev AddsBy : SoftDemodulator → Type 0
    AddsBy d = (1 ≤ length ys) → (k : ℕ) → k ≡ (stretch_of d ys).fed
        → plus (record_figures no_figures_lem (fresh rate) zs) (after no_figures_lem (listed_at_end (stretch_of d ys)) (held_in d (take (stretch_of d ys).fed ys))) ≡ record_figures no_figures_lem (fresh rate) (zs ++ take k ys)

    pub turn_adds : (added : Figures) → r.figures ≡ Some added → plus figures added ≡ record_figures no_figures_lem (fresh rate) (take (fed + r.fed) samples)
    turn_adds added k =
        ap (λ (g : Figures). plus g added) H.counts
        ∙ ap (plus (record_figures no_figures_lem (fresh rate) zs)) (T.adds added k)
        ∙ subst AddsBy (sym H.leaves) (figures_turn (fresh rate) zs ys) some r.fed T.feeds
        ∙ ap (record_figures no_figures_lem (fresh rate)) parts

    turn_is : (added : Figures) → r.figures ≡ Some added → added ≡ record_figures no_figures_lem left (take f.fed ys)
    unfolding record_figures
    turn_is added k = T.adds added k ∙ ap (λ (l : List Listed). after no_figures_lem l (held_in left (take f.fed ys))) (sym (goes left ys some).lists)

    pub turn_fit : (added : Figures) → r.figures ≡ Some added → Fit figures added
    turn_fit added k =
        let size : length zs ≡ fed = length-take-le fed samples H.inside in
        let g = (goes left ys some).most in
        let size' : length (take f.fed ys) ≡ f.fed = length-take-le f.fed ys g in
        let l = long in
        let there = N.there in
        let first : (i : ℕ) → i < 24 → total_at figures.totals i ≤ fed = λ i inside. rw H.counts (omega (arith, figures_below (fresh rate) zs i inside)) in
        let second : (i : ℕ) → i < 24 → total_at added.totals i ≤ n = λ i inside. rw (turn_is added k) (omega (arith, figures_below left (take f.fed ys) i inside)) in
        record {
          first = fits_all figures.totals (λ i inside. omega (arith, first i inside));
          second = fits_all added.totals (λ i inside. omega (arith, second i inside));
          few = passes_none figures.totals added.totals (λ i inside. omega (arith, first i inside, second i inside));
        }

    pub turn_on : (added : Figures) → r.figures ≡ Some added → (sum : Figures) → sum ≡ plus figures added
        → Heard rate samples span r.demodulator sum (fed + r.fed) span
    turn_on added k sum e =
        let least = H.least in
        let few = H.few in
        record { inside = turn_inside; least = omega arith; few = omega arith; leaves = turn_leaves; counts = e ∙ turn_adds added k }

    pub turn_stops : r.fed ≡ 0 → figures ≡ record_figures no_figures_lem (fresh rate) samples
    turn_stops e =
        let s = (goes left ys some).still (sym T.feeds ∙ e) in
        H.counts ∙ figures_stuck (fresh rate) zs (drop fed samples) (rw H.leaves at s) ∙ ap (record_figures no_figures_lem (fresh rate)) (take-append-drop fed samples)

    pub turn_few : r.figures ≡ None → n ≤ most
    turn_few k = by_test (leb (length ys) (resting left.control.wait)) refl
      where
        by_test : (t : Bool) → leb (length ys) (resting left.control.wait) ≡ t → n ≤ most
        by_test true e = absurd (true≢false (sym (T.rest (leb-true (length ys) (resting left.control.wait) e)) ∙ ap is_some k))
        by_test false e = let over = leb-false (length ys) (resting left.control.wait) e in let l = long in N.few (omega arith)

    pub turn_two : r.figures ≡ None → 2 ≤ n
    turn_two k = by_test (leb (length ys) 1) refl
      where
        by_test : (t : Bool) → leb (length ys) 1 ≡ t → 2 ≤ n
        by_test true e = absurd (true≢false (sym (T.one (leb-true (length ys) 1 e)) ∙ ap is_some k))
        by_test false e = let two = leb-false (length ys) 1 e in let l = long in omega arith
