-- A stretch whole: what is laid, walked and stored feeds as single samples do; and the stretch of which no sample is taken. Assumes nothing.
use mathlib.Core.Path.{◌≡◌, refl, sym, ap, subst, ◌∙◌}
use mathlib.Core.Bool.{Bool, true, ◌&&◌}
use mathlib.Core.List.{List}
use Prim.Native.Nat.{ℕ, zero, suc, ◌+◌, ◌-◌, ◌*◌, ◌≤◌, ◌<◌}
use native.Mathlib.Omega.{arith}
use borrow.Author.Tests.{le-ltb}
use lib.Dec.{T, leb, leb→le}
use lib.IntN.{ℤ, pos}
use lib.ListN.{length, get_or, take, drop}
use lib.Seq.{get_or-take, length-take-le}
use lib.Ieee.{Float, nan}
use lib.Ieee.Bits.{is_true}
use lib.Ieee.Fits.{and_l, and_r}
use Rattle.numbers.proofs.Tests.{holds}
use Rattle.numbers.proofs.Below.{all_below_lem}
use Rattle.shaping.specs.Rate.{rate_fit, rate_at}
use Rattle.shaping.proofs.RateFacts.{Facts, facts}
use Rattle.decode.specs.Correlator.{in_range}
use Rattle.decode.specs.Parts.{values_of}
use Rattle.search.specs.declared.Control.{Control}
use Rattle.search.specs.Turn.{control_of, sampled}
use Rattle.search.proofs.AgeInPass.{by_test}
use Rattle.look.specs.Rows.{row_in_range}
use Rattle.look.specs.Marks.{eight_from}
use Rattle.quiet.specs.declared.Walked.{Walked}
use Rattle.quiet.specs.Walk.{goes_on_lem as walksOn, walked_to, walked_from, row_ready, walked}
use Rattle.demodulator.specs.declared.SoftDemodulator.{SoftDemodulator}
use Rattle.demodulator.specs.declared.step.Places.{Places}
use Rattle.demodulator.specs.declared.stretch.Stretched.{Stretched}
use Rattle.demodulator.specs.Record.{with_control}
use Rattle.demodulator.specs.Fit.{halves_agree_lem}
use Rattle.demodulator.specs.Feed.{rest_from}
use Rattle.demodulator.specs.Stretch.{stored_to, filtered_at, row_at, joined, Rows, Inside, HasValues, StoresAll, Lent, Begins, Stretches}
use Rattle.demodulator.proofs.StoredMany.{Standing, standing, filtered_at_lem, control_apart, stored_same, row_same}
use Rattle.demodulator.proofs.WalkFeeds.{walk_feeds}

-- ---- how far a walk goes
walk_most : (p : ℕ) (v : ℕ → ℕ → Float) (i n : ℕ) (c : Control) → (walked_from p v i n c).fed ≤ i + n
unfolding walked_from
walk_most p v i zero c = omega arith
walk_most p v i (suc n) c =
    by_test (λ (w : Walked). w.fed ≤ i + suc n) (walksOn p c) (walked_from p v (i + 1) n (control_of (sampled p (v i) c))) (walked_to i c)
    (λ e. let more = walk_most p v (i + 1) n (control_of (sampled p (v i) c)) in omega (arith, more)) (λ e. omega arith)

pub walked_most : (p : ℕ) (row : List Float) (count : ℕ) (c : Control) → (walked p row count c).fed ≤ count
unfolding walked
walked_most p row count c =
    by_test (λ (w : Walked). w.fed ≤ count) (row_ready p row count) (walked_from p (eight_from p row) 0 count c) (walked_to 0 c)
    (λ e. let most = walk_most p (eight_from p row) 0 count c in omega (arith, most)) (λ e. omega arith)

-- the values of a row that is ready
row_in_range_lem : (row : List Float) (n : ℕ) → n ≤ length row → row_in_range (take n row) ≡ true → (i : ℕ) → i < n → T (in_range (get_or row i nan))
unfolding row_in_range
row_in_range_lem row n long e i l =
    let some = length-take-le n row long in
    subst (λ (y : Float). T (in_range y)) (get_or-take n row i nan l) (all_below_lem (length (take n row)) (λ (j : ℕ). in_range (values_of (take n row) j)) (holds e) i (omega (arith, some)))

-- the first n samples
pub first_samples : (n : ℕ) (xs : List ℤ) → n ≤ length xs → Begins (take n xs) xs
first_samples n xs l =
    let long = length-take-le n xs l in
    record { fewer = omega (arith, long); same = λ i h. get_or-take n xs i (pos 0) (omega (arith, long)) }

-- ---- none is taken
pub none_taken : (p : ℕ) (plain : Bool) (window : List ℤ) (ring : List Float) (at : Places) (c : Control) (xs : List ℤ) → Lent p window ring
    → Stretches p plain window ring at c xs (record { fed = 0; places = at; control = c }) window ring
none_taken p plain window ring at c xs lent = record {
  most = omega arith;
  lent = lent;
  halves = refl;
  feeds = λ rate known room enough n. let none : n ≡ n + 0 = omega arith in ap (λ (q : ℕ). rest_from (rate_at p) q (joined window ring at rate c) xs room) none;
}

-- a stretch of a record that is plain
pub taken_plain : (p : ℕ) (plain : Bool) (window : List ℤ) (ring : List Float) (at : Places) (c : Control) (xs : List ℤ) (r : Stretched) (window' : List ℤ) (ring' : List Float)
    → Stretches p true window ring at c xs r window' ring' → plain ≡ true → Stretches p plain window ring at c xs r window' ring'
taken_plain p plain window ring at c xs r window' ring' s e = rw e s

-- ---- the samples that a walk takes, of those that are laid in a row
module _ (p : ℕ) (window : List ℤ) (ring : List Float) (at : Places) (xs : List ℤ) (lent : Lent p window ring) (halves : halves_agree_lem p window ≡ true) (inside : Inside p at) (few : length xs ≤ 624) (row : List Float)
    (rows : Rows p window ring at xs row) where
  abbrev of : ℕ → Control → SoftDemodulator
  of = joined window ring at

  fine : Facts (rate_at p)
  fine = facts p lent.known

  stands : (rate : ℕ) (c : Control) → Standing p (of rate c)
  stands rate c = record {
    window_cursor = inside.window_cursor;
    ring_cursor = inside.ring_cursor;
    window_long = lent.window_long;
    ring_long = lent.ring_long;
    halves = halves;
  }

  pub has_values : (n : ℕ) → n ≤ length xs → HasValues p window ring at xs row n
  has_values n l = record {
    few = lent.known.1;
    inside = inside;
    samples = l;
    places = omega (arith, few, lent.known.1, rows.long);
    values = λ rate c k h.
        let past : 7 * p ≤ 7 * p + k = omega arith in
        let place : 7 * p + k - 7 * p ≡ k = omega arith in
        let own : row_at (rate_at p) (of rate c) xs (7 * p + k) ≡ filtered_at (rate_at p) (of rate c) xs k = rw (le-ltb (7 * p + k) (7 * p) past, place) in
        rows.values rate c (7 * p + k) (omega arith) ∙ own ∙ sym (filtered_at_lem (rate_at p) fine (of rate c) (stands rate c) xs k);
  }

  module _ (all : List ℤ) (begins : Begins xs all) (c : Control) where
    -- fed to the record once they are stored
    abbrev Feeds : Walked → Type 0
    Feeds w = (rate : ℕ) → rate_fit rate ≡ true → (room : List Float) → 192 ≤ length room → (n : ℕ)
        → rest_from (rate_at p) n (of rate c) all room ≡ rest_from (rate_at p) (n + w.fed) (with_control w.control (stored_to (rate_at p) (of rate c) all w.fed)) (drop w.fed all) room

    none_walked : Feeds (walked_to 0 c)
    unfolding stored_to
    none_walked rate known room enough n = let none : n ≡ n + 0 = omega arith in ap (λ (q : ℕ). rest_from (rate_at p) q (of rate c) all room) none

    some_walked : row_ready p row (length xs) ≡ true → Feeds (walked_from p (eight_from p row) 0 (length xs) c)
    unfolding stored_to
    some_walked ready rate known room enough n =
        let whole : length xs + 7 * p ≤ length row = omega (arith, few, lent.known.1, rows.long) in
        let good = is_true (row_in_range (take (length xs + 7 * p) row)) (and_r (leb p 10 && leb (length xs + (7 * p + 48)) (length row)) (row_in_range (take (length xs + 7 * p) row)) (holds ready)) in
        none_walked rate known room enough n
        ∙ walk_feeds (rate_at p) fine (of rate c) known (stands rate c) all room enough row (length xs)
        (λ i l. rows.values rate c i l ∙ row_same (rate_at p) (of rate c) xs all begins fine.number i l) (row_in_range_lem row (length xs + 7 * p) whole good) n 0 (length xs) c (omega arith) begins.fewer

    feeds_walked : Feeds (walked p row (length xs) c)
    unfolding walked
    feeds_walked = by_test Feeds (row_ready p row (length xs)) (walked_from p (eight_from p row) 0 (length xs) c) (walked_to 0 c) some_walked (λ e. none_walked)

    pub walk_taken : (w : Walked) → w ≡ walked p row (length xs) c → (window' : List ℤ) (ring' : List Float) (at' : Places) → StoresAll p window ring at xs w.fed window' ring' at'
        → Stretches p true window ring at c all (record { fed = w.fed; places = at'; control = w.control }) window' ring'
    walk_taken w is window' ring' at' stores =
        let most : w.fed ≤ length xs = subst (λ (q : Walked). q.fed ≤ length xs) (sym is) (walked_most p row (length xs) c) in
        let after : Standing p (joined window' ring' at' 0 c) = subst (Standing p) (sym (stores.leaves 0 c)) (standing (rate_at p) fine (of 0 c) (stands 0 c) xs w.fed) in
        record {
          most = omega (arith, most, begins.fewer);
          lent = record { known = lent.known; window_long = after.window_long; ring_long = after.ring_long };
          halves = halves ∙ sym after.halves;
          feeds = λ rate known room enough n.
              let m : SoftDemodulator = of rate c in
              let left : joined window' ring' at' rate w.control ≡ with_control w.control (stored_to (rate_at p) m all w.fed) =
              stores.leaves rate w.control ∙ stored_same (rate_at p) (of rate w.control) xs all begins w.fed most ∙ control_apart (rate_at p) w.control m all w.fed
              in
              subst Feeds (sym is) feeds_walked rate known room (enough refl) n ∙ ap (λ (q : SoftDemodulator). rest_from (rate_at p) (n + w.fed) q (drop w.fed all) room) (sym left);
        }

-- ---- all samples of a call
-- where stretches are tried, the halves agree and the room is large enough
pub record Plain (plain halves : Bool) (room : List Float) : Type 0 where
  pub halves_agree_law : plain ≡ true → halves ≡ true
  pub room_enough : plain ≡ true → 192 ≤ length room

pub plain_facts : (plain halves : Bool) (room : List Float) (count : ℕ) → plain ≡ (halves && leb 192 (length room) && leb 12 count) → Plain plain halves room
plain_facts plain halves room count is = record {
  halves_agree_law = λ e. is_true halves (and_l halves (leb 192 (length room)) (two e));
  room_enough = λ e. leb→le 192 (length room) (and_r halves (leb 192 (length room)) (two e));
}
  where
    two : plain ≡ true → T (halves && leb 192 (length room))
    two e = and_l (halves && leb 192 (length room)) (leb 12 count) (holds (sym is ∙ e))
