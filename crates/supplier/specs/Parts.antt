-- A part of the transmission beside the stretch: all of it is there and the comparison goes on, or the verdict is known. Assumes nothing.
use Rattle.std.specs.Prelude.{◌≡◌, Bool, true, false, cond, List, [], ◌∷◌, ℕ, suc, ◌+◌, ℤ, take, drop, Float, Option, Some, None}
use Rattle.shaping.specs.Rate.{rate_of}
use Rattle.modulator.specs.declared.SoftModulator.{SoftModulator}
use Rattle.modulator.specs.declared.ModulatorFrame.{ModulatorFrame}
use Rattle.modulator.specs.Calls.{provided, Left}
use Rattle.modulator.specs.Calls.{read as readInto}
use Rattle.modulator_run.specs.Pieces.{counted}
use Rattle.sending.specs.Text.{Bad, none, in_line}
use Rattle.sending.specs.Calls.{empty_room}
use Rattle.supplier.specs.declared.part.AfterPart.{AfterPart}
use Rattle.supplier.specs.Check.{Verdict, refused, yes, differs, short, long, checked_paper, same_sample}

-- ---- samples
-- a part of ours, whose first sample has the number n, beside what is left of the stretch: yes where all of the part is there
unfoldable pub front : ℕ → List ℤ → List ℤ → Verdict
front n [] samples = yes
front n (y ∷ ys) [] = short
front n (y ∷ ys) (x ∷ samples) = cond (same_sample y x) (front (suc n) ys samples) (differs n)

unfoldable pub is_yes : Verdict → Bool
is_yes (refused why) = false
is_yes yes = true
is_yes (differs n) = false
is_yes short = false
is_yes long = false

-- ---- lines
abbrev pub bad_paper : Option ℕ → Bad
bad_paper None = none
bad_paper (Some number) = in_line number

-- ---- a frame is given to the sender, all of its samples are read, and the stretch from `at` on is held beside them
abbrev pub frame_taken : SoftModulator → ModulatorFrame → List Float → SoftModulator
frame_taken m frame symbols = (provided (rate_of m.rate) m frame symbols).modulator

abbrev pub all_read : SoftModulator → Left
all_read m = readInto (rate_of m.rate) m empty_room

abbrev pub part_read : SoftModulator → ModulatorFrame → List Float → Left
part_read m frame symbols = all_read (frame_taken m frame symbols)

abbrev pub part_samples : SoftModulator → ModulatorFrame → List Float → List ℤ
part_samples m frame symbols = take (counted (part_read m frame symbols).answer) (part_read m frame symbols).room

pub record PartSays (m : SoftModulator) (frame : ModulatorFrame) (symbols : List Float) (samples : List ℤ) (at : ℕ) (r : AfterPart) : Type 0 where
  pub verdict : checked_paper r.verdict ≡ front (at + 1) (part_samples m frame symbols) (drop at samples)
  pub place : r.at ≡ at + counted (part_read m frame symbols).answer
  pub leaves : r.modulator ≡ (part_read m frame symbols).modulator
