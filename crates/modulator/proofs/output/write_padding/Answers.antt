-- `output::write_padding` meets its contract. Assumes nothing.
use mathlib.Core.Path.{◌≡◌, sym, ap, ◌∙◌}
use mathlib.Core.List.{List, ◌++◌}
use Prim.Native.Nat.{ℕ}
use native.Mathlib.Omega.{arith}
use lib.IntN.{ℤ, pos}
use lib.ListN.{drop}
use lib.Seq.{length-take-le}
use Rattle.numbers.specs.Firsts.{firsts}
use Rattle.numbers.proofs.Firsts.{firsts_replicate}
use Rattle.modulator.proofs.output.write_padding.Goals as goal

pub returns : goal.returns
returns c =
    let end = c.fewer-end.result in
    let filled : c.fill.new.self ≡ firsts (λ (_ : ℕ). pos 0) end = c.fill.ensures.after (λ y h. h) ∙ rw (length-take-le end c.args.room.now (omega (arith, c.fewer-end.ensures))) (sym (firsts_replicate (pos 0) end)) in
    record { count = c.fewer-end.ensures; zeros = ap (λ (l : List ℤ). l ++ drop end c.args.room.now) filled }
