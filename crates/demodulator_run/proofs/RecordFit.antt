-- A record is fit for every call, where its window's halves agree, its cursors are inside, its control is fit and all its filtered values are in range. Assumes nothing.
use mathlib.Core.Path.{◌≡◌}
use mathlib.Core.Bool.{true, ◌&&◌}
use Prim.Native.Nat.{ℕ, suc, ◌+◌, ◌-◌, ◌*◌, ◌≤◌, ◌<◌}
use native.Mathlib.Nat.{mul-le-mul_left}
use native.Mathlib.Omega.{arith}
use lib.Dec.{T, ltb, lt→ltb}
use lib.Ieee.Bits.{is_true}
use lib.Ieee.Fits.{and_i}
use Rattle.numbers.specs.Below.{all_below}
use Rattle.numbers.proofs.Tests.{holds}
use Rattle.numbers.proofs.Below.{below_all}
use Rattle.shaping.specs.Rate.{rate_fit, tap_count, ring_places}
use Rattle.decode.specs.Correlator.{in_range}
use Rattle.search.specs.Fit.{control_fit_lem}
use Rattle.demodulator.specs.declared.SoftDemodulator.{SoftDemodulator}
use Rattle.demodulator.specs.Record.{back}
use Rattle.demodulator.specs.Fit.{halves_agree_lem, cursors_fit, rings_fit, record_fit_lem, places_read_lem, fit_for_sample_lem, fit_for_reply_lem}
use Rattle.demodulator.proofs.Fitness.{places_between}

pub record FitForAll (p : ℕ) (m : SoftDemodulator) : Type 0 where
  pub for_query : record_fit_lem p m ≡ true
  pub for_sample : fit_for_sample_lem p m ≡ true
  pub for_reply : fit_for_reply_lem p m ≡ true

module _ (p : ℕ) (some : 0 < p) (m : SoftDemodulator) (known : T (rate_fit m.rate)) (h : halves_agree_lem p m.filter_win ≡ true) (w : m.filter_cursor < tap_count p) (r : m.rx_cursor < ring_places p) (c : T (control_fit_lem p m.control)) (range : (j : ℕ) → j < ring_places p → T (in_range (back p m j))) where
  record_test : T (record_fit_lem p m)
  unfolding record_fit_lem
  record_test =
      and_i (rate_fit m.rate && rings_fit p m) (control_fit_lem p m.control)
      (and_i (rate_fit m.rate) (rings_fit p m) known (and_i (halves_agree_lem p m.filter_win) (cursors_fit p m) (holds h)
      (and_i (ltb m.filter_cursor (tap_count p)) (ltb m.rx_cursor (ring_places p)) (lt→ltb m.filter_cursor (tap_count p) w) (lt→ltb m.rx_cursor (ring_places p) r))))
      c

  pub fit_for_all : FitForAll p m
  unfolding fit_for_sample_lem fit_for_reply_lem
  fit_for_all = record {
    for_query = is_true (record_fit_lem p m) record_test;
    for_sample = is_true (fit_for_sample_lem p m)
        (and_i (record_fit_lem p m) (all_below (places_read_lem m.control.wait) _) record_test
        (below_all (places_read_lem m.control.wait) _ (λ j l. range (p * j + (p - 1)) (let u = (places_between m.control.wait).1 in let v : p * suc j ≤ p * 191 = mul-le-mul_left p (omega arith) in omega arith))));
    for_reply = is_true (fit_for_reply_lem p m) (and_i (record_fit_lem p m) (all_below 8 _) record_test (below_all 8 _ (λ j l. range (p * j) (let v : p * suc j ≤ p * 8 = mul-le-mul_left p l in omega arith))));
  }
