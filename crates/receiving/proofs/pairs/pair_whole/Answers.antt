-- `pairs::pair_whole` meets its contract: the samples so far, and those of the bytes that are left, are all. Assumes nothing.
use Rattle.std.specs.Prelude.{Some, None}
use mathlib.Core.Path.{◌≡◌, sym, ap, ◌∙◌}
use Prim.Native.Nat.{ℕ, ◌*◌, ◌/◌, ◌≤◌, ◌<◌}
use native.Mathlib.Omega.{arith}
use borrow.Author.Rules.{rules, sfits_of}
use mir.Syntax.{w16}
use mir.Facts.{to_z-of_z}
use lib.ListN.{length, drop, drop_of_length-le}
use Rattle.receiving.proofs.BytePairs.{pairs_more, pairs_end, low_read, high_read, one_kept}
use Rattle.receiving.proofs.pairs.pair_whole.Goals as goal

pub loop-i-preserved : goal.loop-i-preserved
loop-i-preserved c =
    let l = c.loop-i in
    let bytes = c.args.bytes.now in
    let within : l.i < length bytes / 2 = omega (arith, c.as_chunks.ensures.front_len) in
    let made = to_z-of_z {w = w16} {z = c.i16_of_bytes.result} (sfits_of c.i16_of_bytes.type_inv) ∙ c.i16_of_bytes.ensures in
    let pairs = c.as_chunks.result.0.now in
    let low = low_read pairs bytes l.i c.as_chunks.ensures.front within in
    let high = high_read pairs bytes l.i c.as_chunks.ensures.front within in
    rw (made, low, high) (pairs_more _ _ _ _ l.invariant (omega arith) (omega (arith, c.requires)))

pub returns-in-Some : goal.returns-in-Some
returns-in-Some c =
    let l = c.loop-i in
    let bytes = c.args.bytes.now in
    let done : l.i ≡ length c.as_chunks.result.0.now = omega arith in
    let place : length bytes / 2 * 2 ≡ 2 * length c.as_chunks.result.0.now = omega (arith, c.as_chunks.ensures.front_len) in
    let kept = one_kept c.as_chunks.result.1.now c.in-Some.last.now (omega (arith, c.as_chunks.ensures.back_len)) c.in-Some.ensures.value in
    pairs_end _ _ _ _ (rw done at l.invariant) (omega (arith, c.as_chunks.ensures.front_len, c.requires)) (Some _) (ap (λ (k : ℕ). drop k bytes) (sym place) ∙ sym c.as_chunks.ensures.back ∙ kept)

pub returns-in-None : goal.returns-in-None
returns-in-None c =
    let l = c.loop-i in
    let bytes = c.args.bytes.now in
    let done : l.i ≡ length c.as_chunks.result.0.now = omega arith in
    let none : length c.as_chunks.result.1.now ≡ 0 = search rules in
    let out : length bytes ≤ 2 * length c.as_chunks.result.0.now = omega (arith, none, c.as_chunks.ensures.front_len, c.as_chunks.ensures.back_len) in
    pairs_end _ _ _ _ (rw done at l.invariant) (omega (arith, c.as_chunks.ensures.front_len, c.requires)) None (drop_of_length-le bytes out)
