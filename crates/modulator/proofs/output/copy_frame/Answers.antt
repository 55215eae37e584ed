-- `output::copy_frame` meets its contract. Assumes nothing.
use mathlib.Core.Path.{◌≡◌, sym, ap, ◌∙◌}
use mathlib.Core.List.{List, ◌++◌}
use Prim.Native.Nat.{ℕ, ◌+◌, ◌-◌}
use native.Mathlib.Omega.{arith}
use lib.IntN.{ℤ, pos}
use lib.ListN.{drop, get_or}
use Rattle.numbers.specs.Firsts.{firsts}
use Rattle.numbers.proofs.Firsts.{firsts_stretch}
use Rattle.modulator.proofs.output.copy_frame.Goals as goal

pub returns : goal.returns
returns c =
    let a = c.args in
    let end = c.fewer-end.result in
    let count : a.read + end - a.read ≡ end = omega arith in
    let copied : c.copy_from_slice.new.self ≡ firsts (λ (i : ℕ). get_or a.store.now (a.read + i) (pos 0)) end = c.copy_from_slice.ensures.after ∙ rw count (sym (firsts_stretch a.store.now a.read end (pos 0) (omega arith))) in
    record { count = c.fewer-end.ensures; samples = ap (λ (l : List ℤ). l ++ drop end a.room.now) copied }
