-- `part::bytes_of` meets its contract: the bytes of the first i samples are written. Assumes nothing.
use mathlib.Core.Path.{◌≡◌, refl, sym, ap, ◌∙◌}
use mathlib.Core.List.{flatten}
use Prim.Native.Nat.{◌+◌, ◌-◌, ◌*◌}
use native.Mathlib.Omega.{arith}
use borrow.Author.Rules.{rules}
use mir.Syntax.{w16}
use mir.Val.{to_z, of_z}
use mir.Facts.{to_z-of_z}
use lib.IntN.{ℤ, pos}
use lib.ListN.{length, get_or}
use lib.Seq.{take_all}
use Rattle.std.proofs.lemmas.Slice.{put_mid-paste}
use Rattle.std.proofs.lemmas.List.Edits.{length-paste}
use Rattle.house.specs.Samples.{bytes_of}
use Rattle.sending.specs.Text.{sample_bytes}
use Rattle.sending.proofs.Bytes.{pair_written}
use Rattle.sending.proofs.part.bytes_of.Goals as goal

pub loop-i-init : goal.loop-i-init
unfolding sample_bytes flatten
loop-i-init c = (refl, refl)

pub loop-i-preserved : goal.loop-i-preserved
loop-i-preserved c =
    let a = c.args in
    let l = c.loop-i in
    let samples-length : length a.samples ≡ 2720 = search rules in
    let sample : ℤ = get_or a.samples l.i (pos 0) in
    let back : to_z w16 (of_z w16 sample) ≡ sample = to_z-of_z {w = w16} {z = sample} (search rules) in
    let pair = c.bytes_of_i16-pair.result in
    let is : pair ≡ bytes_of sample = c.bytes_of_i16-pair.ensures ∙ ap bytes_of back in
    let size : length pair ≡ 2 = search rules in
    let pasted = put_mid-paste (2 * l.i) (2 * l.i + 2 - 2 * l.i) l.bytes c.copy_from_slice.new.self pair 2 c.copy_from_slice.ensures.after (omega arith) (sym size) in
    rw pasted (
      length-paste l.bytes (2 * l.i) pair 2 (omega arith) (omega (arith, size)) ∙ l.invariant.0,
      pair_written a.samples l.bytes pair l.i (omega arith) (omega arith) is size l.invariant.1,
    )

pub returns : goal.returns
returns c =
    let samples = c.args.samples in
    let l = c.loop-i in
    let done : l.i ≡ 2720 = omega arith in
    let samples-length : length samples ≡ 2720 = search rules in
    sym (take_all (2 * l.i) l.bytes (omega arith)) ∙ l.invariant.1 ∙ ap sample_bytes (take_all l.i samples (omega arith))
