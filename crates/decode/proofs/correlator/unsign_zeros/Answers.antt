-- `unsign_zeros` meets its contract. Assumes nothing.
use mathlib.Core.Path.{◌≡◌, ap}
use Prim.Native.Nat.{◌<◌}
use native.Mathlib.Omega.{arith}
use lib.ListN.{length, length-map}
use lib.Ieee.{nan}
use Rattle.std.proofs.lemmas.List.{get_or_default, length-append, length-take, length-drop}
use Rattle.std.proofs.lemmas.List.Edits.{map_over_more}
use Rattle.decode.specs.Correlator.{zero_unsigned}
use Rattle.decode.proofs.correlator.unsign_zeros.Goals as goal

pub loop-value-preserved : goal.loop-value-preserved
unfolding zero_unsigned
loop-value-preserved c =
    let l = c.loop-value in
    let inside : l.value-index < length c.args.values = omega arith in
    let long : length l.value-items ≡ 8 = omega (arith, simp (length-append, length-map, length-take, length-drop) at (ap length l.invariant)) in
    map_over_more zero_unsigned c.args.values l.value-items l.value-index _ inside l.invariant (get_or_default l.value-items l.value-index nan _ (omega arith))
