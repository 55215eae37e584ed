-- `repeated` meets its contract: the first i symbols are the burst's signs, again and again.
use mathlib.Core.Path.{◌≡◌, refl, ◌∙◌}
use mathlib.Core.List.{append-nil}
use native.Mathlib.Omega.{arith}
use native.Mathlib.Numerals.{add-one}
use borrow.Author.Rules.{rules}
use mir.Syntax.{w8}
use mir.Facts.{to_z-of_z}
use lib.ListN.{replicate}
use lib.Ieee.{nan, binary32, of_bits}
use Rattle.numbers.specs.Firsts.{firsts}
use Rattle.numbers.proofs.Firsts.{written_step}
use Rattle.encode.specs.Frames.{frame_of, repeated_sign}
use Rattle.encode.proofs.repeated.Invariants.{symbol}
use Rattle.encode.proofs.repeated.Goals as goal

pub loop-i-init : goal.loop-i-init
unfolding firsts
loop-i-init c = refl

pub loop-i-preserved : goal.loop-i-preserved
loop-i-preserved c =
    let l = c.loop-i in
    let signs = c.target-signs.result in
    let back = to_z-of_z {w = w8} {z = repeated_sign signs l.i} (search rules) in
    rw (l.invariant, c.from.ensures, back, add-one l.i) (written_step (symbol signs) l.i (replicate 192 (of_bits binary32 0)) nan (omega arith))

pub returns : goal.returns
unfolding frame_of
returns c =
    let done : c.loop-i.i ≡ 192 = omega arith in
    c.loop-i.invariant ∙ rw (done, c.target-signs.ensures) (append-nil _)
