-- `put_by_table` meets its contract: after some turns the sums of whole blocks are written. Assumes nothing.
use mathlib.Core.Path.{◌≡◌, refl}
use Prim.Native.Nat.{ℕ, ◌+◌, ◌*◌, ◌-◌, ◌≤◌, ◌<◌}
use native.Mathlib.Omega.{arith}
use mathlib.Core.List.{List}
use borrow.Rule.Slice.PartMut.{put_mid}
use lib.ListN.{length, take, drop}
use lib.Ieee.{Float}
use Rattle.numbers.specs.Firsts.{firsts, written}
use Rattle.numbers.proofs.Firsts.{written_more}
use Rattle.shaping.specs.Rate.{Known, rate_at}
use Rattle.bulk.specs.Sums.{sum_from}
use Rattle.numbers.proofs.Tail.{tail_lent, tail_back}
use Rattle.demodulator.proofs.RowLaid.{part_sums}
use borrow.Author.Rules.{rules}
use Rattle.demodulator.proofs.row.put_by_table.Goals as goal

pub loop-k-init : goal.loop-k-init
unfolding firsts
loop-k-init c = (search rules, refl, refl, refl)

-- the sums of one block more
module _ (p : ℕ) (known : Known p) (straight first room : List Float) (k : ℕ) where
  abbrev sums : ℕ → Float
  sums = sum_from (rate_at p).taps straight

  abbrev row : List Float
  row = take (k + (8 * p + 48) - k) (drop k straight)

  block_more : (part : List Float) → k ≤ 624 → length straight ≡ 704 → k ≤ length room → room ≡ written sums k first
      → part ≡ written (sum_from (rate_at p).taps row) 48 (take (length room - k) (drop k room))
      → put_mid k (length room - k) room part ≡ written sums (k + 48) first
  block_more part few long within so_far wrote =
      let block = rw (tail_lent room k) at wrote in
      let same : (j : ℕ) → j < 48 → sum_from (rate_at p).taps row j ≡ sums (k + j) = part_sums p known straight k (k + (8 * p + 48) - k) (omega arith) in
      rw (tail_back room k _ within, block, so_far) (written_more sums _ k 48 first same)

pub loop-k-preserved : goal.loop-k-preserved
loop-k-preserved c =
    let a = c.args in
    let l = c.loop-k in
    (search rules, omega arith, search rules, block_more a.p (omega arith) a.straight.now a.room.now l.room l.k _ l.invariant.0 c.requires.2 (omega arith) l.invariant.3 (rw c.samples.ensures at c.put_block.ensures))

pub returns-2 : goal.returns-2
returns-2 c =
    let a = c.args in
    let l = c.loop-k in
    record {
      n = l.k + 48;
      least = omega arith;
      most = omega arith;
      writes = block_more a.p (omega arith) a.straight.now a.room.now l.room l.k _ l.invariant.0 c.requires.2 (omega arith) l.invariant.3 (rw c.samples.ensures at c.put_block.ensures);
    }
