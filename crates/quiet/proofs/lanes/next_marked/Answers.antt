-- `next_marked` meets its contract: none of the samples that were looked at is marked. Assumes nothing.
use mathlib.Core.Path.{◌≡◌, sym, ap, ◌∙◌}
use mathlib.Core.Bool.{true≢false}
use mathlib.Core.List.{List}
use mathlib.Core.Logic.{◌≢◌}
use Prim.Native.Nat.{ℕ, ◌+◌, ◌-◌, ◌≤◌, ◌<◌}
use native.Mathlib.Omega.{arith}
use borrow.Author.Rules.{rules}
use borrow.Author.Tests.{tests}
use lib.ListN.{length, get_or, take, drop}
use Rattle.std.specs.List.{AllWithin}
use Rattle.std.proofs.lemmas.Iterator.{YieldsList-from_slice, IsFirst-from_position}
use Rattle.std.proofs.lemmas.List.{get_or-take, get_or-drop, length-take-le, length-drop}
use Rattle.quiet.proofs.lanes.next_marked.Goals as goal

-- the marks that are looked at
module _ (marks : List ℕ) (from n : ℕ) where
  abbrev part : List ℕ
  part = take (n - from) (drop from marks)

  part_long : n ≤ length marks → length part ≡ n - from
  part_long h = length-take-le (n - from) (drop from marks) (omega (arith, length-drop from marks))

  unmarked : (r : ℕ) → from + r ≤ n → AllWithin (λ x. x ≡ 0) part 0 r → (i : ℕ) → from ≤ i → i < from + r → get_or marks i 0 ≡ 0
  unmarked r h all i l m =
      let at : from + (i - from) ≡ i = omega arith in
      let here = get_or-take (n - from) (drop from marks) (i - from) 0 (omega arith) ∙ get_or-drop from marks (i - from) 0 ∙ ap (λ (j : ℕ). get_or marks j 0) at in
      sym here ∙ all (i - from) 0 (omega arith) (omega arith)

pub returns-in-Some : goal.returns-in-Some
returns-in-Some c =
    let a = c.args in
    let first = IsFirst-from_position c.position.new.self _ c.position.result (λ x. x ≢ 0) (λ x. x ≡ 0) c.position.ensures.ran (YieldsList-from_slice (part a.marks.now a.from a.n) cc) (λ x q k. search (rules, tests)) (λ x q k. search (rules, tests)) in
    let h = rw c.in-Some.is at first in
    let long = part_long a.marks.now a.from a.n (omega arith) in
    let inside : a.from + c.in-Some.ahead < a.n = omega (arith, h.0) in
    record { least = omega arith; most = omega arith; at_once = λ e. absurd (true≢false (sym e ∙ c.if-held.false)); between = λ e. unmarked a.marks.now a.from a.n c.in-Some.ahead (omega arith) h.2 }

pub returns-in-None : goal.returns-in-None
returns-in-None c =
    let a = c.args in
    let first = IsFirst-from_position c.position.new.self _ c.position.result (λ x. x ≢ 0) (λ x. x ≡ 0) c.position.ensures.ran (YieldsList-from_slice (part a.marks.now a.from a.n) cc) (λ x q k. search (rules, tests)) (λ x q k. search (rules, tests)) in
    let none = rw c.in-None.is at first in
    let long = part_long a.marks.now a.from a.n (omega arith) in
    let all : AllWithin (λ x. x ≡ 0) (part a.marks.now a.from a.n) 0 (a.n - a.from) = rw long at none in
    record { least = c.requires.0; most = omega arith; at_once = λ e. absurd (true≢false (sym e ∙ c.if-held.false)); between = λ e i l m. unmarked a.marks.now a.from a.n (a.n - a.from) (omega arith) all i l (omega arith) }
