-- `house::two_bits` meets its contract. Assumes nothing.
use mathlib.Core.Path.{ap}
use mathlib.Core.List.{List}
use Prim.Native.Nat.{ℕ, ◌+◌, ◌*◌}
use native.Mathlib.Omega.{arith}
use lib.ListN.{get_or}
use Rattle.house.specs.Line.{bits_of}
use Rattle.house.proofs.Bits.{bits_two}
use Rattle.house.proofs.two_bits.Goals as goal

pub overflow_mul-result : goal.overflow_mul-result
overflow_mul-result c = rw c.decode_sample-bits.ensures (omega (arith, (bits_two c.args.symbol).0, (bits_two c.args.symbol).1))

pub overflow_add-result : goal.overflow_add-result
overflow_add-result c = rw c.decode_sample-bits.ensures (omega (arith, (bits_two c.args.symbol).0, (bits_two c.args.symbol).1))

pub returns : goal.returns
unfolding bits_of
returns c = ap (λ (bits : List ℕ). 2 * get_or bits 0 0 + get_or bits 1 0) c.decode_sample-bits.ensures
