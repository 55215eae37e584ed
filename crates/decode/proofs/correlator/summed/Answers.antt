-- `summed` meets its contract: up to symbol i no distance lies above 0.3, and the diff is their sum. Assumes nothing.
use mathlib.Core.Path.{◌≡◌, ◌∙◌}
use mathlib.Core.Bool.{false, true}
use Prim.Native.Nat.{◌<◌}
use native.Mathlib.Numerals.{add-one}
use native.Mathlib.Omega.{arith}
use mir.Syntax.{w8}
use mir.Facts.{to_z-of_z}
use borrow.Author.Rules.{rules, sfits_of}
use lib.IntN.{pos}
use lib.ListN.{length}
use lib.Ieee.{nan, of_bits}
use Rattle.std.proofs.lemmas.List.{length_push}
use Rattle.std.proofs.lemmas.Slice.Zip.{zip_turn, zip_end}
use Rattle.numbers.specs.Below.{any_below}
use Rattle.numbers.specs.Sum.{sum_to}
use Rattle.numbers.proofs.Below.{any_more, any_found}
use Rattle.decode.specs.Correlator.{summed, distances}
use Rattle.decode.specs.Parts.{values_of}
use Rattle.decode.proofs.correlator.summed.Invariants.{too_far}
use Rattle.decode.proofs.correlator.summed.Goals as goal
use Rattle.decode.proofs.correlator.summed.Goals.{After-distance-sym_diff}

-- what the call gives is the distance at the symbol that the loop has come to
measured : (c : After-distance-sym_diff) → (length c.loop-sign.yielded < 8) × (c.distance-sym_diff.result ≡ distances c.args.target c.args.gain c.args.shift (values_of c.args.values) (length c.loop-sign.yielded))
measured c =
    let t = zip_turn c.args.target c.args.values c.loop-sign.yielded _ _ c.next.new.self _ (cc) (cc) c.loop-sign.yielded_by (c.in-Some.sign, c.in-Some.value) c.in-Some.is c.next.ensures.steps in
    let n : length c.args.target ≡ 8 = omega arith in
    let back = to_z-of_z {w = w8} {z = c.in-Some.sign.now} (sfits_of c.distance-arg-1.given) in
    (omega arith, c.distance-sym_diff.ensures ∙ rw (back, t.2 (pos 0), t.3 nan))

pub loop-sign-init : goal.loop-sign-init
unfolding any_below sum_to of_bits
loop-sign-init c = search rules

pub loop-sign-preserved : goal.loop-sign-preserved
unfolding sum_to
loop-sign-preserved c =
    let l = c.loop-sign in
    let d = distances c.args.target c.args.gain c.args.shift (values_of c.args.values) in
    let n = length l.yielded in
    let m = measured c.before in
    let near : too_far d n ≡ false = rw m.1 at c.if-sym_diff.false in
    rw (length_push l.yielded (c.in-Some.sign, c.in-Some.value), add-one n)
    (any_more n (too_far d) l.invariant.0 near, rw (l.invariant.1, m.1))

pub returns-in-None : goal.returns-in-None
unfolding summed
returns-in-None c =
    let l = c.loop-sign in
    let e = zip_end c.args.target c.args.values l.yielded _ _ c.next.new.self _ (cc) (cc) l.yielded_by c.in-None.is c.next.ensures.steps in
    let n : length c.args.target ≡ 8 = omega arith in
    let m : length c.args.values ≡ 8 = omega arith in
    let done : length l.yielded ≡ 8 = omega arith in
    let none = rw done at l.invariant.0 in
    rw none (l.invariant.1 ∙ rw done)

pub returns-then-sym_diff : goal.returns-then-sym_diff
unfolding summed
returns-then-sym_diff c =
    let d = distances c.args.target c.args.gain c.args.shift (values_of c.args.values) in
    let m = measured c.before in
    let far : too_far d (length c.loop-sign.yielded) ≡ true = rw m.1 at c.if-sym_diff.true in
    rw (any_found 8 (too_far d) (length c.loop-sign.yielded) m.0 far)
