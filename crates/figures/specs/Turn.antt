-- What the functions that listen ask and promise: the carrier of a stretch, where it is known from the timer before and after it. Assumes nothing.
use Rattle.search.specs.declared.Waiting.{Waiting}
use Rattle.protocol.specs.declared.Refusal.{Refusal}
use Rattle.std.specs.Prelude.{◌≡◌, Bool, true, not, cond, ◌||◌, List, [], ◌∷◌, ℕ, ◌+◌, ◌-◌, ◌*◌, ◌^◌, ◌≤◌, ◌<◌, min, eqb, leb, ltb, ℤ, length, take, set, Option, Some, None, IsSome, Result, Ok, Err}
use Rattle.shaping.specs.Rate.{samples_in_lem}
use Rattle.search.specs.declared.Reply.{Reply}
use Rattle.demodulator.specs.declared.SoftDemodulator.{SoftDemodulator}
use Rattle.demodulator.specs.declared.Offer.{Offer}
use Rattle.demodulator.specs.Calls.{timer_held}
use Rattle.listening.specs.Listener.{Listed, own_record}
use Rattle.listening.specs.Verdict.{verdict}
use Rattle.listening.specs.Listen.{stretch_of, listed_at_end, left_by_stretch}
use Rattle.figures.specs.declared.hear.Turn.{Turn}
use Rattle.figures.specs.declared.Figures.{Figures}
use Rattle.figures.specs.Totals.{no_figures_lem}
use Rattle.figures.specs.FullList.{bit, after, held_from, record_held}

-- for how many samples a timer lasts, whatever they are
abbrev pub lasting : Option ℕ → ℕ → ℕ
lasting None count = 0
lasting (Some end) count = end - count

abbrev pub lasting_of : SoftDemodulator → ℕ
lasting_of m = lasting m.control.dcd m.control.sample

-- how many samples are not searched, since a frame is awaited
abbrev pub resting : Option Waiting → ℕ
resting None = 0
resting (Some w) = w.left - 1

abbrev pub rested : SoftDemodulator → List ℤ → Bool
rested m xs = leb (length xs) (resting m.control.wait)

-- ---- how many samples a turn is given: those that rest; else no more than 24 symbols have, and than the timer lasts where it lasts
pub record Short (m : SoftDemodulator) (xs : List ℤ) : Type 0 where
  pub least : 1 ≤ length xs
  pub small : samples_in_lem m.rate ≤ 10
  pub few : m.control.sample + length xs ≤ 2 ^ 63
  pub span : resting m.control.wait < length xs → length xs ≤ 24 * samples_in_lem m.rate
  pub lasts : resting m.control.wait < length xs → 0 < lasting_of m → length xs ≤ lasting_of m

pub record NextCount (m : SoftDemodulator) (left most r : ℕ) : Type 0 where
  pub least : 1 ≤ r
  pub there : r ≤ left
  pub few : resting m.control.wait < r → r ≤ most
  pub lasts : resting m.control.wait < r → 0 < lasting_of m → r ≤ lasting_of m

-- ---- the carrier of a stretch is known where it rests, where the timer lasts over it, where it is one sample, and where the timer is off after it
abbrev pub is_known : SoftDemodulator → List ℤ → Bool
is_known m xs = rested m xs || (ltb 0 (lasting_of m) || (leb (length xs) 1 || not (record_held (stretch_of m xs).state)))

-- and it is held after as many as the timer lasts; after all; else after none but the last
abbrev pub carrier_in : Bool → ℕ → ℕ → Option ℕ → ℕ
carrier_in rested lasts fed timer = cond rested (min fed lasts) (cond (ltb 0 lasts) fed (cond (eqb fed 0) 0 (bit (timer_held timer))))

abbrev pub with_total : ℕ → ℕ → Figures → Figures
with_total i n f = record { totals = set f.totals i n; smallest = f.smallest; largest = f.largest }

-- ---- an offer and its reply: what its symbols are is not counted
abbrev pub listed_as : Offer → Reply → Listed
listed_as o reply = record { due = o; symbols = []; reply = reply }

unfoldable pub offered_figures : Result (Option Offer) Refusal → Option Reply → Figures
offered_figures (Ok (Some o)) (Some reply) = after no_figures_lem (listed_as o reply ∷ []) 0
offered_figures (Ok (Some o)) None = no_figures_lem
offered_figures (Err why) settled = no_figures_lem
offered_figures (Ok None) settled = no_figures_lem

-- ---- what a turn adds, where it is known: one sample always is, and samples that rest
pub record TurnSays (m : SoftDemodulator) (xs : List ℤ) (r : Turn) : Type 0 where
  pub feeds : r.fed ≡ (stretch_of m xs).fed
  pub one : length xs ≤ 1 → IsSome r.figures
  pub rest : length xs ≤ resting m.control.wait → IsSome r.figures
  pub leaves : r.demodulator ≡ left_by_stretch (stretch_of m xs)
  pub adds : (added : Figures) → r.figures ≡ Some added
      → added ≡ after no_figures_lem (listed_at_end (stretch_of m xs)) (held_from own_record record_held verdict m (take (stretch_of m xs).fed xs))
