-- A frame's symbols go through the window after those of all frames before it: the record then holds the longer stream. Assumes nothing.
use mathlib.Core.Path.{◌≡◌, sym, ap, subst, ◌∙◌}
use mathlib.Core.List.{List, [], ◌++◌}
use Prim.Native.Nat.{ℕ, suc, ◌+◌, ◌-◌, ◌*◌, ◌%◌, ◌≤◌, ◌<◌}
use native.Mathlib.Nat.{mod-lt, lt_of_lt_of_le, mul-le-mul_left}
use native.Mathlib.Omega.{arith}
use lib.IntN.{ℤ, pos}
use lib.ListN.{length, get_or, drop, length-append, length-drop, length-replicate, get_or-replicate, get_or-append}
use lib.Ieee.{Float, nan, binary32, of_bits, to_signed}
use Rattle.numbers.specs.Firsts.{firsts, written}
use Rattle.numbers.proofs.Firsts.{length_firsts, firsts_at}
use Rattle.shaping.specs.Rate.{Rate, tap_count}
use Rattle.shaping.proofs.RateFacts.{Facts}
use Rattle.shaping.proofs.Dot.{dot_same}
use Rattle.pulse.specs.Pulse.{pulses, after, sample_of, sample_at}
use Rattle.pulse.proofs.View.{Holds, holds_after}
use Rattle.modulator.specs.declared.Pending.{Pending}
use Rattle.modulator.specs.declared.SoftModulator.{SoftModulator}
use Rattle.modulator.specs.Frame.{Symbols}
use Rattle.modulator.specs.Record.{fresh, line_of, framed}
use Rattle.modulator_run.specs.Stream.{entering_at, sent_at}
use Rattle.modulator_run.specs.Represents.{Remembers}
use Rattle.modulator_run.proofs.Longer.{entering_old, entering_new}

-- a list whose first n places are written
pub written_at : (f : ℕ → ℤ) (n i : ℕ) (l : List ℤ) → i < n → get_or (written f n l) i (pos 0) ≡ f i
written_at f n i l h = get_or-append (firsts f n) (drop n l) (pos 0) i (omega (arith, length_firsts f n)) ∙ firsts_at f n i (pos 0) h

length_written : (f : ℕ → ℤ) (n : ℕ) (l : List ℤ) → n ≤ length l → length (written f n l) ≡ length l
length_written f n l h = simp (length-append, length-drop) (omega (arith, length_firsts f n))

module _ (R : Rate) (F : Facts R) where
  module _ (m : SoftModulator) (xs : List Float) (before : ℕ) (r : Remembers R m xs before) (s : Symbols) where
    abbrev enters : ℕ → Float
    enters = pulses R.p s.symbol

    abbrev longer : List Float
    longer = xs ++ firsts s.symbol s.count

    -- the window holds the longer stream, as far as that has come
    held : Holds R.p (entering_at R.p longer) (R.p * length xs) (line_of m)
    held = record {
      long = r.window_places_lem;
      inside = r.window_cursor;
      holds = λ i l. r.window i l ∙ sym (entering_old R.p xs (firsts s.symbol s.count) ((R.p * length xs + i + 1) - tap_count R.p) (omega arith));
    }

    -- once k values of the frame have entered
    seen : (k : ℕ) → k ≤ R.p * s.count → Holds R.p (entering_at R.p longer) (R.p * length xs + k) (after R.p enters k (line_of m))
    seen k few = holds_after R.p enters (entering_at R.p longer) (R.p * length xs) (line_of m) held k (λ j l. entering_new R.p xs s.symbol s.count j (omega arith))

    made : (i : ℕ) → i < R.p * s.count → sample_at R enters (line_of m) i ≡ sent_at R longer (R.p * length xs + i + 1)
    unfolding sample_of sent_at
    made i l =
        ap (to_signed 15) (dot_same R.taps _ _ λ j k.
        let same : (R.p * length xs + suc i + j + 1) - tap_count R.p ≡ (R.p * length xs + i + 1 + j) - 8 * R.p = omega arith in
        (seen (suc i) l).holds j (rw F.number at k) ∙ ap (entering_at R.p longer) same)

    pub next_frame : (padding : ℕ) (pending : Pending) → s.count ≤ 400 → Remembers R (framed R s padding pending m) longer (R.p * length xs)
    unfolding framed
    next_frame padding pending few =
        let n : ℕ = R.p * s.count in
        let size : length longer ≡ length xs + s.count = length-append xs _ ∙ ap (λ (k : ℕ). length xs + k) (length_firsts s.symbol s.count) in
        let whole : R.p * length xs + n ≡ R.p * length longer = rw size (omega arith) in
        let stored : n ≤ R.p * 400 = mul-le-mul_left R.p few in
        let line = subst (λ (k : ℕ). Holds R.p (entering_at R.p longer) k (after R.p enters n (line_of m))) whole (seen n (omega arith)) in
        record {
          window_places_lem = line.long;
          window_cursor = line.inside;
          window = line.holds;
          store_places = rw (length_written (sample_at R enters (line_of m)) n m.next_transmission (let u = r.store_places in omega arith)) r.store_places;
          store = λ i l. written_at (sample_at R enters (line_of m)) n i m.next_transmission l ∙ made i l;
          last = whole;
        }

  -- ---- before the first frame
  pub window_inside : tap_count R.p ≤ 81
  window_inside = let u = F.few in omega arith

  pub fresh_remembers : (rate : ℕ) → Remembers R (fresh rate) [] 0
  unfolding fresh entering_at
  fresh_remembers rate = record {
    window_places_lem = let u = window_inside in omega (arith, length-replicate 81 (of_bits binary32 0));
    window_cursor = omega arith;
    window = λ i l.
        let none : (R.p * 0 + i + 1) - tap_count R.p ≡ 0 = omega arith in
        get_or-replicate 81 ((0 + i) % tap_count R.p) (of_bits binary32 0) nan (lt_of_lt_of_le (mod-lt (0 + i) (omega arith)) window_inside) ∙ sym (ap (entering_at R.p []) none);
    store_places = let u = F.few in omega (arith, length-replicate 4000 (pos 0));
    store = λ i l. let never : ⊥ = omega arith in absurd never;
    last = omega arith;
  }
