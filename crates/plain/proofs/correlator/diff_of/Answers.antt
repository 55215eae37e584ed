-- `diff_of` meets its contract: up to symbol i no distance lies above 0.3, and the diff is their sum. Assumes nothing.
use mathlib.Core.Path.{◌≡◌, ◌∙◌}
use mathlib.Core.Bool.{true, false}
use mathlib.Core.List.{[], ◌∷◌, ◌++◌}
use Prim.Native.Nat.{ℕ, suc, ◌<◌}
use native.Mathlib.Omega.{arith}
use mir.Syntax.{w8}
use mir.Val.{SFits}
use mir.Facts.{to_z-of_z}
use borrow.Author.Rules.{rules}
use lib.IntN.{pos}
use lib.ListN.{length, length-append}
use lib.Ieee.{Float, nan, of_bits}
use Rattle.std.proofs.lemmas.Slice.Zip.{zip_turn, zip_end}
use Rattle.numbers.specs.Below.{any_below}
use Rattle.numbers.specs.Sum.{sum_to}
use Rattle.numbers.proofs.Below.{any_more, any_found}
use Rattle.decode.specs.Correlator.{summed, distances, distance_of, symbol_of, zero_unsigned}
use Rattle.decode.specs.Parts.{values_of}
use Rattle.plain.specs.Values.{unsigned}
use Rattle.plain.proofs.correlator.diff_of.Invariants.{too_far}
use Rattle.plain.proofs.correlator.diff_of.Goals as goal
use Rattle.plain.proofs.correlator.diff_of.Goals.{After-abs-distance}

-- what the call gives is distance i
measured : (c : After-abs-distance) → c.abs-distance.result ≡ distances c.args.signs c.args.gain c.args.shift (unsigned (values_of c.args.values)) (length c.loop-value.yielded)
unfolding distance_of symbol_of zero_unsigned
measured c =
    let turn = zip_turn c.args.values c.args.signs c.loop-value.yielded _ c.loop-value.value-iterator c.next.new.self c.next.result (search rules) (search rules) c.loop-value.yielded_by _ c.in-Some.is c.next.ensures.steps in
    let fits : SFits w8 c.in-Some.sign.now = search rules in
    c.abs-distance.ensures ∙ rw (to_z-of_z {w = w8} {z = c.in-Some.sign.now} fits, turn.2 nan, turn.3 (pos 0))

pub loop-value-init : goal.loop-value-init
unfolding any_below sum_to of_bits
loop-value-init c = search rules

pub loop-value-preserved : goal.loop-value-preserved
unfolding sum_to
loop-value-preserved c =
    let a = c.args in
    let l = c.loop-value in
    let d : ℕ → Float = distances a.signs a.gain a.shift (unsigned (values_of a.values)) in
    let n = length l.yielded in
    let next : length (l.yielded ++ ((c.in-Some.value, c.in-Some.sign) ∷ [])) ≡ suc n = length-append l.yielded _ ∙ omega arith in
    let e = measured c.before in
    let near : too_far d n ≡ false = rw e at c.if-distance.false in
    (rw next (any_more n (too_far d) l.invariant.0 near), rw (next, l.invariant.1, e))

pub returns-then-distance : goal.returns-then-distance
unfolding summed
returns-then-distance c =
    let a = c.args in
    let l = c.loop-value in
    let d : ℕ → Float = distances a.signs a.gain a.shift (unsigned (values_of a.values)) in
    let n = length l.yielded in
    let turn = zip_turn a.values a.signs l.yielded _ l.value-iterator c.next.new.self c.next.result (search rules) (search rules) l.yielded_by _ c.in-Some.is c.next.ensures.steps in
    let values-length : length a.values ≡ 8 = search rules in
    let inside : n < 8 = omega (arith, turn.0) in
    let far : too_far d n ≡ true = rw (measured c.before) at c.if-distance.true in
    rw (any_found 8 (too_far d) n inside far)

pub returns : goal.returns
unfolding summed
returns c =
    let a = c.args in
    let l = c.loop-value in
    let all = zip_end a.values a.signs l.yielded _ l.value-iterator c.next.new.self c.next.result (search rules) (search rules) l.yielded_by c.in-None.is c.next.ensures.steps in
    let values-length : length a.values ≡ 8 = search rules in
    let signs-length : length a.signs ≡ 8 = search rules in
    let done : length l.yielded ≡ 8 = omega (arith, all) in
    let none = rw done at l.invariant.0 in
    rw none (l.invariant.1 ∙ rw done)
