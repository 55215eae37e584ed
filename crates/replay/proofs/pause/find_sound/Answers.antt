-- `pause::find_sound` meets its contract: all before the place that is found is 0. Assumes nothing.
use mathlib.Core.Path.{◌≡◌, sym, ◌∙◌}
use mathlib.Core.List.{List}
use Prim.Native.Nat.{ℕ, ◌+◌, ◌-◌, ◌≤◌, ◌<◌}
use native.Mathlib.Nat.{le_refl}
use native.Mathlib.Omega.{arith}
use borrow.Author.Rules.{rules}
use lib.IntN.{ℤ, pos}
use lib.ListN.{length, get_or, take, drop, length-drop}
use lib.Seq.{length-take-le, get_or-take, get_or-drop}
use Rattle.std.specs.List.{AllWithin, HoldsAt}
use Rattle.std.proofs.Common.{tests}
use Rattle.std.proofs.lemmas.Iterator.{YieldsList-from_slice, IsFirst-from_position}
use Rattle.replay.specs.Pauses.{FirstSound}
use Rattle.replay.proofs.pause.find_sound.Goals as goal

module _ (xs : List ℤ) (from end : ℕ) (ordered : from ≤ end) (within : end ≤ length xs) where
  abbrev part : List ℤ
  part = take (end - from) (drop from xs)

  size : length part ≡ end - from
  size = length-take-le (end - from) (drop from xs) (omega (arith, length-drop from xs))

  in_part : (i : ℕ) → i < end - from → get_or part i (pos 0) ≡ get_or xs (from + i) (pos 0)
  in_part i h = get_or-take (end - from) (drop from xs) i (pos 0) h ∙ get_or-drop from xs i (pos 0)

  sound_at : (i : ℕ) → (i < length part) × HoldsAt (λ (x : ℤ). x ≡ pos 0 → ⊥) part i × AllWithin (λ (x : ℤ). x ≡ pos 0) part 0 i → FirstSound xs from end (from + i)
  sound_at i f =
      let inside : i < end - from = omega (arith, f.0, size) in
      record {
        least = omega arith;
        most = omega arith;
        zeros = λ k a b. let back : from + (k - from) ≡ k = omega arith in rw back at (sym (in_part (k - from) (omega arith)) ∙ f.2 (k - from) (pos 0) (omega arith) (omega arith));
        sound = λ b e. f.1 (pos 0) (in_part i inside ∙ e);
      }

  no_sound : AllWithin (λ (x : ℤ). x ≡ pos 0) part 0 (length part) → FirstSound xs from end end
  no_sound f = record {
    least = ordered;
    most = le_refl _;
    zeros = λ k a b. let back : from + (k - from) ≡ k = omega arith in rw back at (sym (in_part (k - from) (omega arith)) ∙ f (k - from) (pos 0) (omega arith) (omega (arith, size)));
    sound = λ b e. absurd (omega arith);
  }

pub returns-in-Some : goal.returns-in-Some
returns-in-Some c =
    let a = c.args in
    let first = IsFirst-from_position c.position.new.self _ c.position.result (λ (x : ℤ). x ≡ pos 0 → ⊥) (λ (x : ℤ). x ≡ pos 0) c.position.ensures.ran
    (YieldsList-from_slice (part a.samples.now a.from a.end c.requires.0 c.requires.1) (search rules)) (λ x q k. search (rules, tests)) (λ x q k. search (rules, tests)) in
    sound_at a.samples.now a.from a.end c.requires.0 c.requires.1 c.in-Some.zeros (rw c.in-Some.is at first)

pub returns-in-None : goal.returns-in-None
returns-in-None c =
    let a = c.args in
    let first = IsFirst-from_position c.position.new.self _ c.position.result (λ (x : ℤ). x ≡ pos 0 → ⊥) (λ (x : ℤ). x ≡ pos 0) c.position.ensures.ran
    (YieldsList-from_slice (part a.samples.now a.from a.end c.requires.0 c.requires.1) (search rules)) (λ x q k. search (rules, tests)) (λ x q k. search (rules, tests)) in
    no_sound a.samples.now a.from a.end c.requires.0 c.requires.1 (rw c.in-None.is at first)
