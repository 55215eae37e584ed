-- `counted` meets its contract. The loop's invariant: the count so far and that of the rest are the count of all. Assumes nothing.
use mathlib.Core.Path.{◌≡◌, ◌∙◌}
use mathlib.Core.List.{List}
use Prim.Native.Nat.{ℕ, ◌+◌, ◌<◌}
use native.Mathlib.Numerals.{add-one}
use native.Mathlib.Omega.{arith}
use lib.ListN.{length, get_or, drop_of_length-le}
use lib.Seq.{drop-cons}
use Rattle.std.proofs.lemmas.List.{length_push}
use Rattle.std.proofs.lemmas.Slice.Zip.{zip_turn, zip_end}
use lib.Ieee.{Float, nan}
use Rattle.decode.specs.Slicer.{sliced}
use Rattle.bit_errors.specs.Errors.{bits_of, differences}
use Rattle.bit_errors.proofs.Counts.{first_symbol}
use Rattle.bit_errors.proofs.counted.Invariants.{count_from}
use Rattle.bit_errors.proofs.counted.Goals as goal
use Rattle.bit_errors.proofs.counted.Goals.{After-differing_bits-count}

from_here : (sent received : List Float) (i : ℕ) → i < length sent → i < length received
    → count_from sent received i ≡ differences (sliced (get_or sent i nan)) (sliced (get_or received i nan)) + count_from sent received (i + 1)
from_here sent received i l m =
    rw (drop-cons sent i nan l, drop-cons received i nan m, add-one i) (first_symbol (get_or sent i nan) (get_or received i nan) _ _)

nothing_left : (sent received : List Float) → length sent ≡ 184 → count_from sent received 184 ≡ 0
unfolding bits_of differences
nothing_left sent received l = rw (drop_of_length-le sent {i = 184} (omega arith))

-- the pair that the loop has come to
turn : (c : After-differing_bits-count) → (length c.loop-a.yielded < 184) × (c.in-Some.a.now ≡ get_or c.args.sent.now (length c.loop-a.yielded) nan) × (c.in-Some.b.now ≡ get_or c.args.received.now (length c.loop-a.yielded) nan)
turn c =
    let t = zip_turn c.args.sent.now c.args.received.now c.loop-a.yielded _ _ c.next.new.self _ (cc) (cc) c.loop-a.yielded_by (c.in-Some.a, c.in-Some.b) c.in-Some.is c.next.ensures.steps in
    (omega arith, t.2 nan, t.3 nan)

pub loop-a-preserved : goal.loop-a-preserved
loop-a-preserved c =
    let a = c.args in
    let l = c.loop-a in
    let n = length l.yielded in
    let t = turn c in
    let more = c.differing_bits-count.ensures in
    let first : c.differing_bits-count.result ≡ differences (sliced (get_or a.sent.now n nan)) (sliced (get_or a.received.now n nan)) = more.0 ∙ rw (t.1, t.2) in
    let step = from_here a.sent.now a.received.now n (omega arith) (omega arith) in
    rw (length_push l.yielded (c.in-Some.a, c.in-Some.b))
    (omega (arith, t.0), omega (arith, l.invariant.1, more.1), omega (arith, l.invariant.2, first, step))

pub returns : goal.returns
returns c =
    let a = c.args in
    let l = c.loop-a in
    let e = zip_end a.sent.now a.received.now l.yielded _ _ c.next.new.self _ (cc) (cc) l.yielded_by c.in-None.is c.next.ensures.steps in
    let done : length l.yielded ≡ 184 = omega arith in
    let rest = rw done at l.invariant.2 in
    omega (arith, rest, nothing_left a.sent.now a.received.now (omega arith))
