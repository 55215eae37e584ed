-- A part of the transmission beside the stretch, from a sender that has sent the symbols `xs`. Assumes nothing.
use mathlib.Core.Path.{◌≡◌, sym, ap, ◌∙◌}
use mathlib.Core.Bool.{true, false}
use mathlib.Core.List.{List, ◌++◌}
use Prim.Native.Nat.{ℕ, ◌+◌, ◌*◌, ◌≤◌}
use native.Mathlib.Omega.{arith}
use lib.IntN.{ℤ}
use lib.ListN.{length, drop, length-drop}
use lib.Seq.{take_at, drop-drop}
use lib.Ieee.{Float}
use Rattle.numbers.specs.Firsts.{firsts}
use Rattle.numbers.proofs.Firsts.{length_firsts}
use Rattle.modulator.specs.declared.SoftModulator.{SoftModulator}
use Rattle.modulator.specs.declared.ModulatorFrame.{ModulatorFrame}
use Rattle.modulator.specs.Frame.{Symbols}
use Rattle.modulator_run.specs.Rules.{Call}
use Rattle.modulator_run.specs.Pieces.{counted}
use Rattle.sending.specs.Calls.{empty_room}
use Rattle.sending.specs.Run.{part_calls}
use Rattle.sending.proofs.Stream.{samples_behind, samples_number, samples_two}
use Rattle.sending.proofs.Frames.{Gives}
use Rattle.sending.proofs.OnePart.{Sits, count_said, room_said, sits_next}
use Rattle.supplier.specs.declared.part.AfterPart.{AfterPart}
use Rattle.supplier.specs.Check.{Verdict, checked_paper, beside}
use Rattle.supplier.specs.Parts.{front, is_yes, part_read, part_samples, PartSays}
use Rattle.supplier.proofs.Front.{Passed, passed, stopped}

-- what the stretch from `at` on is told beside the samples of the symbols `ys`, sent after `xs`
abbrev pub beside_from : List ℤ → ℕ → List Float → List Float → Verdict
beside_from samples at xs ys = beside (at + 1) (samples_behind xs ys) (drop at samples)

-- the part with the symbols `new` is met, and `more` are still to come: its verdict is the whole's, or all of it is there
pub record Met (samples : List ℤ) (at : ℕ) (cs : List Call) (xs new more : List Float) (r : AfterPart) : Type 0 where
  pub stops : is_yes (checked_paper r.verdict) ≡ false → checked_paper r.verdict ≡ beside_from samples at xs (new ++ more)
  pub goes : is_yes (checked_paper r.verdict) ≡ true → beside_from samples at xs (new ++ more) ≡ beside_from samples r.at (xs ++ new) more
  pub within : is_yes (checked_paper r.verdict) ≡ true → r.at ≤ length samples
  pub sits : Sits r.modulator cs (xs ++ new)

module _ (m : SoftModulator) (cs : List Call) (xs : List Float) (sits : Sits m cs xs) (frame : ModulatorFrame) (symbols : List Float) (f : Symbols) (gives : Gives frame symbols f) where
  abbrev new : List Float
  new = firsts f.symbol f.count

  count_is : counted (part_read m frame symbols).answer ≡ 10 * f.count
  unfolding counted
  count_is = rw (count_said m cs xs sits frame symbols f gives)

  size : length (samples_behind xs new) ≡ 10 * f.count
  size = samples_number xs new ∙ ap (λ (n : ℕ). 10 * n) (length_firsts f.symbol f.count)

  samples_are : part_samples m frame symbols ≡ samples_behind xs new
  samples_are = rw (count_is, room_said m cs xs sits frame symbols f gives) (take_at (samples_behind xs new) (drop (10 * f.count) empty_room) (10 * f.count) size)

  module _ (samples : List ℤ) (at : ℕ) (within : at ≤ length samples) (r : AfterPart) (says : PartSays m frame symbols samples at r) (more : List Float) where
    verdict_is : checked_paper r.verdict ≡ front (at + 1) (samples_behind xs new) (drop at samples)
    verdict_is = says.verdict ∙ ap (λ (l : List ℤ). front (at + 1) l (drop at samples)) samples_are

    two : beside_from samples at xs (new ++ more) ≡ beside (at + 1) (samples_behind xs new ++ samples_behind (xs ++ new) more) (drop at samples)
    two = ap (λ (l : List ℤ). beside (at + 1) l (drop at samples)) (samples_two xs new more)

    all_there : is_yes (checked_paper r.verdict) ≡ true → Passed (at + 1) (samples_behind xs new) (samples_behind (xs ++ new) more) (drop at samples)
    all_there e = passed (samples_behind xs new) (at + 1) (samples_behind (xs ++ new) more) (drop at samples) (ap is_yes (sym verdict_is) ∙ e)

    place_is : r.at ≡ at + 10 * f.count
    place_is = says.place ∙ ap (λ (n : ℕ). at + n) count_is

    rest_is : is_yes (checked_paper r.verdict) ≡ true → beside_from samples at xs (new ++ more) ≡ beside_from samples r.at (xs ++ new) more
    rest_is e =
        let number : at + 1 + length (samples_behind xs new) ≡ r.at + 1 = omega (arith, size, place_is) in
        let place : at + length (samples_behind xs new) ≡ r.at = omega (arith, size, place_is) in
        two ∙ (all_there e).rest ∙ rw (drop-drop (length (samples_behind xs new)) at samples, number, place)

    pub part_met : Met samples at (cs ++ part_calls frame symbols) xs new more r
    part_met = record {
      stops = λ e.
          verdict_is
          ∙ stopped (samples_behind xs new) (at + 1) (samples_behind (xs ++ new) more) (drop at samples) (ap is_yes (sym verdict_is) ∙ e)
          ∙ sym two;
      goes = rest_is;
      within = λ e. omega (arith, (all_there e).enough, size, place_is, length-drop at samples);
      sits = rw says.leaves (sits_next m cs xs sits frame symbols f gives);
    }
