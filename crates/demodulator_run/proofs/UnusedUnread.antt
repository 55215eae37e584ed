-- Document 02 k): no answer depends on what lies past a rate's places. Two records that differ there alone answer every list of calls
-- alike, fit or not: one record of the old layout, which has no such places in its window, is beside both. Assumes nothing.
use mathlib.Core.Path.{◌≡◌, refl, sym, ap, ◌∙◌}
use mathlib.Core.Bool.{true}
use mathlib.Core.List.{List, [], ◌∷◌}
use Prim.Native.Nat.{ℕ, ◌+◌, ◌%◌, ◌≤◌, ◌<◌}
use native.Mathlib.Nat.{mod-eq_of_lt}
use native.Mathlib.Omega.{arith}
use lib.Dec.{lit<}
use lib.IntN.{pos}
use lib.ListN.{length, get_or, length-set, length-replicate}
use lib.Ieee.{nan, binary32, of_bits}
use Rattle.numbers.specs.Firsts.{firsts}
use Rattle.numbers.specs.Below.{all_below}
use Rattle.numbers.proofs.Firsts.{firsts_at, length_firsts}
use Rattle.machine.specs.Runs.{answers}
use Rattle.shaping.specs.Rate.{Rate, at24, per_second, tap_count, window_places, ring_places}
use Rattle.shaping.proofs.RateFacts.{Facts, facts24}
use Rattle.demodulator.specs.declared.SoftDemodulator.{SoftDemodulator}
use Rattle.demodulator.specs.Record.{fresh, assembled, view}
use Rattle.demodulator.specs.Fit.{halves_agree_lem}
use Rattle.demodulator_laws.proofs.UnusedPlaces.{SameUsed, halves_same, back_same}
use Rattle.demodulator_laws.proofs.RateInstances.{card, card_rate, strewn, strewn_same}
use Rattle.demodulator_run.specs.Rules.{sample, query}
use Rattle.demodulator_run.specs.Calls.{Call, one, stretch, receiver}
use Rattle.demodulator_run.specs.OldLayout.{Alike}
use Rattle.demodulator_run.proofs.AsBefore.{as_before}
use Rattle.demodulator_run.proofs.Worked.{room}

-- the arrays have the rate's places, as their types have it; the window's halves agree, and the cursors are inside
pub record Sound (p : ℕ) (m : SoftDemodulator) : Type 0 where
  pub places : window_places p ≤ length m.filter_win
  pub halves : halves_agree_lem p m.filter_win ≡ true
  pub cursor : m.filter_cursor < tap_count p
  pub ring_places_lem : ring_places p ≤ length m.rx_win
  pub ring_cursor : m.rx_cursor < ring_places p

-- the window once, read from its start
module _ (p : ℕ) (m : SoftDemodulator) (s : Sound p m) where
  abbrev once : SoftDemodulator
  once = assembled m.rate (firsts (view m) (tap_count p)) 0 m.rx_win m.rx_cursor m.control

  read_once : (i : ℕ) → i < tap_count p → view m i ≡ get_or (firsts (view m) (tap_count p)) ((0 + i) % tap_count p) (pos 0)
  read_once i l =
      let from-0 : 0 + i ≡ i = omega arith in
      let same : (0 + i) % tap_count p ≡ i = ap (λ (k : ℕ). k % tap_count p) from-0 ∙ mod-eq_of_lt l in
      rw same (sym (firsts_at (view m) (tap_count p) i (pos 0) l))

  once_alike : Alike p m once
  once_alike = record {
    rate = refl;
    places = s.places;
    halves = s.halves;
    cursor = s.cursor;
    places_before = omega (arith, length_firsts (view m) (tap_count p));
    cursor_before = omega arith;
    window = read_once;
    ring_places_lem = s.ring_places_lem;
    ring_cursor = s.ring_cursor;
    ring_places_before = s.ring_places_lem;
    ring_cursor_before = s.ring_cursor;
    ring = λ j l. refl;
    control = refl;
  }

module _ (R : Rate) (F : Facts R) (m n : SoftDemodulator) (rate : m.rate ≡ per_second R.p) (s : Sound R.p m) (u : SameUsed R.p n m)
    (places : window_places R.p ≤ length n.filter_win) (ring_places_lem : ring_places R.p ≤ length n.rx_win) where
  some : 0 < R.p
  some = omega (arith, F.some)

  view_same : (i : ℕ) → i < tap_count R.p → view n i ≡ view m i
  view_same i l = ap (λ (c : ℕ). get_or n.filter_win (c + i) (pos 0)) u.window_cursor ∙ u.window (m.filter_cursor + i) (omega (arith, s.cursor))

  -- the same record of the old layout
  other_alike : Alike R.p n (once R.p m s)
  other_alike = record {
    rate = u.rate;
    places = places;
    halves = halves_same R.p some n m u ∙ s.halves;
    cursor = rw u.window_cursor s.cursor;
    places_before = (once_alike R.p m s).places_before;
    cursor_before = omega arith;
    window = λ i l. view_same i l ∙ read_once R.p m s i l;
    ring_places_lem = ring_places_lem;
    ring_cursor = rw u.ring_cursor s.ring_cursor;
    ring_places_before = s.ring_places_lem;
    ring_cursor_before = s.ring_cursor;
    ring = λ j l. back_same R.p some n m u j;
    control = u.control;
  }

  pub unused_unread : (cs : List Call) → answers receiver n cs ≡ answers receiver m cs
  unused_unread cs = (as_before R F n (once R.p m s) (u.rate ∙ rate) other_alike cs).0 ∙ sym (as_before R F m (once R.p m s) rate (once_alike R.p m s) cs).0

-- ---- it can be met: a fresh record at 24 kHz, and one with a 1 in place 82 of the window and a not-a-number in place 960 of the ring
card_sound : Sound 5 card
unfolding fresh halves_agree_lem all_below
card_sound = record {
  places = omega (arith, length-replicate 162 (pos 0));
  halves = refl;
  cursor = lit< tt;
  ring_places_lem = omega (arith, length-replicate 1920 (of_bits binary32 0));
  ring_cursor = lit< tt;
}

abbrev some_calls : List Call
some_calls = one (sample (pos 7) room) ∷ stretch (pos 7 ∷ pos 8 ∷ []) room ∷ one query ∷ []

strewn_answers : answers receiver strewn some_calls ≡ answers receiver card some_calls
strewn_answers =
    unused_unread at24 facts24 card strewn card_rate card_sound strewn_same
    (omega (arith, length-set card.filter_win 82 (pos 1), card_sound.places))
    (omega (arith, length-set card.rx_win 960 nan, card_sound.ring_places_lem)) some_calls
