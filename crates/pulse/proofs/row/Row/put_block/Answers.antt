-- `put_block` meets its contract. Assumes nothing.
use mathlib.Core.Path.{◌≡◌, ap, ◌∙◌}
use mathlib.Core.List.{List, ◌++◌}
use Prim.Native.Nat.{ℕ, ◌+◌, ◌*◌, ◌/◌, ◌%◌, ◌≤◌, ◌<◌}
use native.Mathlib.Nat.{mod-lt, mul-le-mul_left}
use native.Mathlib.Omega.{arith}
use lib.IntN.{ℤ, pos}
use lib.ListN.{drop, replicate}
use lib.Ieee.{Float}
use Rattle.numbers.specs.Firsts.{written}
use Rattle.numbers.proofs.Firsts.{firsts_same, written_at}
use Rattle.shaping.specs.Rate.{Known, rate_at}
use Rattle.pulse.specs.Phases.{phase_cut, in_turn, row_sample}
use Rattle.pulse.proofs.Pulses.{symbol_inside}
use Rattle.pulse.proofs.row.Row.put_block.Goals as goal

module _ (p : ℕ) (known : Known p) (row : List Float) (begun cuts : List ℤ) (cut : cuts ≡ written (phase_cut (rate_at p) row) (48 * p) begun) where
  -- what is read in turn of the phases' samples is the row's
  in-turn : (i : ℕ) → i < p * 48 → in_turn p cuts i ≡ row_sample (rate_at p) row i
  in-turn i h =
      let at : ℕ = 48 * (i % p) + i / p in
      let below : i % p < p = mod-lt i (omega arith) in
      let lanes : i / p < 48 = symbol_inside p 48 i h in
      let phase : at / 48 ≡ i % p = omega arith in
      let lane : at % 48 ≡ i / p = omega arith in
      rw cut (written_at (phase_cut (rate_at p) row) (48 * p) begun at (pos 0) (omega arith) ∙ rw (phase, lane))

  block_written : (count : ℕ) (room room' : List ℤ) → count ≤ 48 → room' ≡ written (in_turn p cuts) (p * count) room → room' ≡ written (row_sample (rate_at p) row) (p * count) room
  block_written count room room' h w =
      w ∙ ap (λ (l : List ℤ). l ++ drop (p * count) room) (firsts_same (in_turn p cuts) (row_sample (rate_at p) row) (p * count) λ i l. in-turn i (omega (arith, mul-le-mul_left p h)))

pub returns : goal.returns
returns c =
    let a = c.args in
    block_written a.self.now.p (omega arith) a.self.now.pulses (replicate 480 (pos 0)) _ c.put_phases.ensures a.count a.room.now _ c.requires.0 c.put_in_turn.ensures
