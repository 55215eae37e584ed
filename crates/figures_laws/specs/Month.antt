-- Document 02 l): "a run of recordings, given one after another, each with a fresh receiver", and the sums over their full lists. Assumes nothing.
use Rattle.std.specs.Prelude.{◌≡◌, Bool, true, not, cond, List, [], ◌∷◌, ℕ, zero, suc, ◌+◌, ◌^◌, ◌≤◌, ◌<◌, eqb, ℤ, length}
use Rattle.std.specs.Int.{w16}
use Rattle.std.proofs.Common.{SFits}
use Rattle.machine.specs.Runs.{Each}
use Rattle.shaping.specs.Rate.{rate_fit, samples_in_lem, rate_of}
use Rattle.demodulator.specs.declared.Offer.{Offer}
use Rattle.demodulator_run.specs.Rules.{start}
use Rattle.listening.specs.Listener.{Listed, offers}
use Rattle.listening.specs.Verdict.{verdict}
use Rattle.listening.specs.Rules.{rules_at}
use Rattle.figures.specs.declared.Report.{Report}
use Rattle.figures.specs.Totals.{total_at, both}
use Rattle.figures.specs.FullList.{number_at_lem, held_from, history_held, carrier_place}
use Rattle.figures.specs.Answers.{done, Left, report_of, added}

pub record Recording : Type 0 where
  pub rate : ℕ
  pub samples : List ℤ

abbrev pub report_in_lem : Recording → Report
report_in_lem x = report_of x.rate x.samples

abbrev pub added_by : Report → Recording → Left
added_by r x = added r x.rate x.samples

-- its samples are 16-bit values, as their type says
abbrev pub Given : Recording → Type 0
Given x = Each (SFits w16) x.samples

-- it is refused by neither 15 nor 5
pub record Fair (x : Recording) : Type 0 where
  pub known : rate_fit x.rate ≡ true
  pub few : length x.samples ≤ 2 ^ 63

-- ---- a run: none of its recordings is refused, and the report after them
unfoldable pub AllDone : Report → List Recording → Type 0
AllDone r [] = Unit {0}
AllDone r (x ∷ later) = ((added_by r x).answer ≡ done) × AllDone (added_by r x).report later

unfoldable pub run_all : Report → List Recording → Report
run_all r [] = r
run_all r (x ∷ later) = run_all (added_by r x).report later

-- what it leaves, where none is refused
unfoldable pub month : Report → List Recording → Report
month r [] = r
month r (x ∷ later) = month (both r (report_in_lem x)) later

-- ---- "the sum over the recordings' full lists", of those at one rate
abbrev pub full_list : Recording → List Listed
full_list x = offers (rules_at (rate_of x.rate)) verdict start x.samples

abbrev pub full_carrier : Recording → ℕ
full_carrier x = held_from (rules_at (rate_of x.rate)) history_held verdict start x.samples

abbrev pub count_of : ℕ → Recording → ℕ
count_of i x = number_at_lem i (full_list x) + cond (eqb i carrier_place) (full_carrier x) 0

abbrev pub is_at48 : Recording → Bool
is_at48 x = eqb (samples_in_lem x.rate) 10

abbrev pub is_at24 : Recording → Bool
is_at24 x = not (is_at48 x)

unfoldable pub sum_over : (Recording → Bool) → ℕ → List Recording → ℕ
sum_over test i [] = 0
sum_over test i (x ∷ later) = cond (test x) (count_of i x) 0 + sum_over test i later

pub record IsMonth (r : Report) (xs : List Recording) (s : Report) : Type 0 where
  pub whole : s ≡ month r xs
  pub at_48_lem : (i : ℕ) → i < 24 → total_at s.at_48.totals i ≡ total_at r.at_48.totals i + sum_over is_at48 i xs
  pub at_24_lem : (i : ℕ) → i < 24 → total_at s.at_24.totals i ≡ total_at r.at_24.totals i + sum_over is_at24 i xs

-- ---- over places
unfoldable pub sum_to : (ℕ → ℕ) → ℕ → ℕ
sum_to f zero = 0
sum_to f (suc n) = sum_to f n + f n

-- ---- an offer's age
pub record AgeWithin (limit : ℕ) (o : Offer) : Type 0 where
  pub least : 1 ≤ o.age
  pub most : o.age ≤ limit

abbrev pub Aged : ℕ → Listed → Type 0
Aged limit o = AgeWithin limit o.due

-- ---- how many samples they have
unfoldable pub lengths : List Recording → ℕ
lengths [] = 0
lengths (x ∷ later) = length x.samples + lengths later
