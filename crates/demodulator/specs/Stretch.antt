-- Many samples at once: the record once they are stored, the samples one after the other, and the filtered values in a row; and what the functions of a quiet stretch ask and promise. Assumes nothing.
use Rattle.std.specs.Prelude.{◌≡◌, Bool, true, cond, List, ℕ, zero, suc, ◌+◌, ◌-◌, ◌*◌, ◌≤◌, ◌<◌, ltb, ℤ, pos, length, get_or, drop, Float}
use Rattle.std.specs.Float.{nan, binary32}
use Rattle.std.specs.Float.Ieee.{of_int}
use Rattle.numbers.specs.Firsts.{written}
use Rattle.shaping.specs.Rate.{Rate, Known, rate_fit, rate_at, tap_count, window_places, ring_places}
use Rattle.shaping.specs.Sum.{dot}
use Rattle.bulk.specs.Sums.{sum_from}
use Rattle.search.specs.declared.Control.{Control}
use Rattle.demodulator.specs.declared.SoftDemodulator.{SoftDemodulator}
use Rattle.demodulator.specs.declared.step.Places.{Places}
use Rattle.demodulator.specs.declared.stretch.Stretched.{Stretched}
use Rattle.demodulator.specs.declared.each.Fed.{Fed}
use Rattle.demodulator.specs.Record.{back, view, filtered_after, stored, assembled}
use Rattle.demodulator.specs.Fit.{halves_agree_lem}
use Rattle.demodulator.specs.Calls.{heard_paper}
use Rattle.demodulator.specs.Feed.{rest_from}

-- the record once the first n samples of the stretch are stored
unfoldable pub stored_to : Rate → SoftDemodulator → List ℤ → ℕ → SoftDemodulator
stored_to R m xs zero = m
stored_to R m xs (suc n) = stored R (stored_to R m xs n) (get_or xs n (pos 0))

-- the samples one after the other: the window's by their age, and then the stretch's
abbrev pub heard_at : ℕ → SoftDemodulator → List ℤ → ℕ → ℤ
heard_at p m xs i = cond (ltb i (tap_count p)) (view m i) (get_or xs (i - tap_count p) (pos 0))

-- the filtered value of sample k of the stretch, by these: "for i = 0 to 80 add tap i times sample k-80+i"
unfoldable pub filtered_at : Rate → SoftDemodulator → List ℤ → ℕ → Float
filtered_at R m xs k = dot R.taps (λ (i : ℕ). of_int binary32 (heard_at R.p m xs (k + i + 1)))

-- the filtered values in a row: those of seven symbols before the stretch, and then its own
abbrev pub row_at : Rate → SoftDemodulator → List ℤ → ℕ → Float
row_at R m xs i = cond (ltb i (7 * R.p)) (back R.p m (7 * R.p - 1 - i)) (filtered_at R m xs (i - 7 * R.p))

-- ---- what the functions of a stretch ask and promise, of a record that is given by its parts
-- sample j + 1 of those one after the other: the oldest of the window has no part in the stretch's sums
abbrev pub heard_float : ℕ → List ℤ → ℕ → List ℤ → ℕ → Float
heard_float p window cursor xs j = of_int binary32 (cond (ltb (j + 1) (tap_count p)) (get_or window (cursor + (j + 1)) (pos 0)) (get_or xs (j + 1 - tap_count p) (pos 0)))

-- whole blocks are written: n values, `count` at least
pub record Filters (p : ℕ) (straight : List Float) (count : ℕ) (room room' : List Float) : Type 0 where
  pub n : ℕ
  pub least : count ≤ n
  pub most : n ≤ 624
  pub writes : room' ≡ written (sum_from (rate_at p).taps straight) n room

-- the parts of a record, whatever its rate says and its control is
abbrev pub joined : List ℤ → List Float → Places → ℕ → Control → SoftDemodulator
joined window ring at rate c = assembled rate window at.filter_cursor ring at.rx_cursor c

-- the row that is laid
pub record Rows (p : ℕ) (window : List ℤ) (ring : List Float) (at : Places) (xs : List ℤ) (row : List Float) : Type 0 where
  pub long : length row ≡ 742
  pub values : (rate : ℕ) (c : Control) (i : ℕ) → i < length xs + 7 * p → get_or row i nan ≡ row_at (rate_at p) (joined window ring at rate c) xs i

-- the cursors are in the window and in the ring
pub record Inside (p : ℕ) (at : Places) : Type 0 where
  pub window_cursor : at.filter_cursor < tap_count p
  pub ring_cursor : at.rx_cursor < ring_places p

-- a sample and the value that is to be its filtered one
pub record StoresKnown (p : ℕ) (window : List ℤ) (ring : List Float) (at : Places) (x : ℤ) (value : Float) (window' : List ℤ) (ring' : List Float) (at' : Places) : Type 0 where
  pub inside : Inside p at'
  pub leaves : (rate : ℕ) (c : Control) → value ≡ filtered_after (rate_at p) (joined window ring at rate c) x
      → joined window' ring' at' rate c ≡ stored (rate_at p) (joined window ring at rate c) x

-- the row has each sample's filtered value
pub record HasValues (p : ℕ) (window : List ℤ) (ring : List Float) (at : Places) (xs : List ℤ) (row : List Float) (n : ℕ) : Type 0 where
  pub few : p ≤ 10
  pub inside : Inside p at
  pub samples : n ≤ length xs
  pub places : n + 7 * p ≤ length row
  pub values : (rate : ℕ) (c : Control) (k : ℕ) → k < n
      → get_or row (7 * p + k) nan ≡ filtered_after (rate_at p) (stored_to (rate_at p) (joined window ring at rate c) xs k) (get_or xs k (pos 0))

-- the first n samples of the stretch are stored
pub record StoresAll (p : ℕ) (window : List ℤ) (ring : List Float) (at : Places) (xs : List ℤ) (n : ℕ) (window' : List ℤ) (ring' : List Float) (at' : Places) : Type 0 where
  pub inside : Inside p at'
  pub leaves : (rate : ℕ) (c : Control) → joined window' ring' at' rate c ≡ stored_to (rate_at p) (joined window ring at rate c) xs n

-- ---- a stretch whole
-- the window and the ring have their places
pub record Lent (p : ℕ) (window : List ℤ) (ring : List Float) : Type 0 where
  pub known : Known p
  pub window_long : window_places p ≤ length window
  pub ring_long : ring_places p ≤ length ring

-- the samples are the first of others
pub record Begins (xs all : List ℤ) : Type 0 where
  pub fewer : length xs ≤ length all
  pub same : (i : ℕ) → i < length xs → get_or xs i (pos 0) ≡ get_or all i (pos 0)

-- some samples are taken, or none, and the rest is fed to what they leave; of a room for symbols this asks where the stretch is plain
pub record Stretches (p : ℕ) (plain : Bool) (window : List ℤ) (ring : List Float) (at : Places) (c : Control) (xs : List ℤ) (r : Stretched) (window' : List ℤ) (ring' : List Float) : Type 0 where
  pub most : r.fed ≤ length xs
  pub lent : Lent p window' ring'
  pub halves : halves_agree_lem p window ≡ halves_agree_lem p window'
  pub feeds : (rate : ℕ) → rate_fit rate ≡ true → (room : List Float) → (plain ≡ true → 192 ≤ length room) → (n : ℕ)
      → rest_from (rate_at p) n (joined window ring at rate c) xs room ≡ rest_from (rate_at p) (n + r.fed) (joined window' ring' r.places rate r.control) (drop r.fed xs) room

-- whatever samples follow the given ones
abbrev pub StretchesFirst : ℕ → List ℤ → List Float → Places → Control → List ℤ → Stretched → List ℤ → List Float → Type 0
StretchesFirst p window ring at c xs r window' ring' = (all : List ℤ) → Begins xs all → Stretches p true window ring at c all r window' ring'

-- all samples of a call: what `feed` promises, of the record's parts, whichever of the two its rate is
abbrev pub FeedsEach : ℕ → List ℤ → List Float → Places → Control → List ℤ → List Float → Fed → List ℤ → List Float → List Float → Type 0
FeedsEach p window ring at c xs room r window' ring' room' =
    (rate : ℕ) → rate_fit rate ≡ true → rest_from (rate_at p) 0 (joined window ring at rate c) xs room
    ≡ record { answer = heard_paper r.answer; fed = r.fed; state = joined window' ring' r.places rate r.control; room = room' }
