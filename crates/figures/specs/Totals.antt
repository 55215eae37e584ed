-- Document 02 l): what a report has, which one is fit, and two reports in one. Assumes nothing.
use Rattle.std.specs.Prelude.{◌≡◌, Bool, true, false, not, cond, ◌&&◌, ◌||◌, List, ℕ, ◌+◌, ◌^◌, leb, get_or, replicate, Float, Option, Some, None}
use Rattle.std.specs.Float.{binary32}
use Rattle.std.specs.Float.Ieee.{of_bits, lt, le}
use Rattle.numbers.specs.Below.{all_below}
use Rattle.numbers.specs.Firsts.{firsts}
use Rattle.decode.specs.Correlator.{least_gain}
use Rattle.figures.specs.declared.Figures.{Figures}
use Rattle.figures.specs.declared.Report.{Report}

-- "Totals are exact whole numbers": 24 of them
abbrev pub total_at : List ℕ → ℕ → ℕ
total_at totals i = get_or totals i 0

-- "An empty run gives zeros and no gains."
abbrev pub no_figures_lem : Figures
no_figures_lem = record { totals = replicate 24 0; smallest = None; largest = None }

abbrev pub no_report : Report
no_report = record { at_48 = no_figures_lem; at_24 = no_figures_lem }

-- ---- "A report handed in with a total above 2^63, one gain without the other, or a gain not within 16 to 1,000,000 is unfit"
abbrev pub gain_fit : Float → Bool
gain_fit gain = le least_gain gain && le gain (of_bits binary32 0x4974_2400)

abbrev pub gains_fit : Option Float → Option Float → Bool
gains_fit None None = true
gains_fit None (Some high) = false
gains_fit (Some low) None = false
gains_fit (Some low) (Some high) = gain_fit low && gain_fit high

abbrev pub most_total : ℕ
most_total = 2 ^ 63

unfoldable pub totals_fit : List ℕ → Bool
totals_fit totals = all_below 24 (λ (i : ℕ). leb (total_at totals i) most_total)

abbrev pub figures_fit : Figures → Bool
figures_fit f = totals_fit f.totals && gains_fit f.smallest f.largest

unfoldable pub report_fit_lem : Report → Bool
report_fit_lem r = figures_fit r.at_48 && figures_fit r.at_24

-- ---- two in one
abbrev pub summed_at : List ℕ → List ℕ → ℕ → ℕ
summed_at a b i = total_at a i + total_at b i

unfoldable pub summed : List ℕ → List ℕ → List ℕ
summed a b = firsts (summed_at a b) 24

-- 16: "a total that would pass 2^63"
unfoldable pub would_pass : List ℕ → List ℕ → Bool
would_pass a b = not (all_below 24 (λ (i : ℕ). leb (summed_at a b i) most_total))

-- "smallest and largest gain as exact f32"
unfoldable pub lesser : Option Float → Option Float → Option Float
lesser None b = b
lesser (Some x) None = Some x
lesser (Some x) (Some y) = cond (lt y x) (Some y) (Some x)

unfoldable pub greater : Option Float → Option Float → Option Float
greater None b = b
greater (Some x) None = Some x
greater (Some x) (Some y) = cond (lt x y) (Some y) (Some x)

unfoldable pub plus : Figures → Figures → Figures
plus a b = record {
  totals = summed a.totals b.totals;
  smallest = lesser a.smallest b.smallest;
  largest = greater a.largest b.largest;
}

unfoldable pub both : Report → Report → Report
both a b = record { at_48 = plus a.at_48 b.at_48; at_24 = plus a.at_24 b.at_24 }

abbrev pub reports_pass : Report → Report → Bool
reports_pass a b = would_pass a.at_48.totals b.at_48.totals || would_pass a.at_24.totals b.at_24.totals

-- ---- what adding two figures asks
pub record Fit (a b : Figures) : Type 0 where
  pub first : totals_fit a.totals ≡ true
  pub second : totals_fit b.totals ≡ true
  pub few : would_pass a.totals b.totals ≡ false
