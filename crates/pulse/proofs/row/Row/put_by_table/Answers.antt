-- `put_by_table` meets its contract: after j turns the first j phases are written. Assumes nothing.
use mathlib.Core.Path.{◌≡◌, refl, ap}
use Prim.Native.Nat.{ℕ, ◌+◌, ◌*◌, ◌/◌, ◌%◌, ◌≤◌, ◌<◌}
use native.Mathlib.Omega.{arith}
use lib.ListN.{length, get_or}
use lib.Ieee.{nan, to_signed}
use Rattle.numbers.specs.Firsts.{firsts}
use Rattle.numbers.proofs.Firsts.{firsts_at, written_more}
use Rattle.shaping.specs.Rate.{rate_at}
use Rattle.pulse.specs.Phases.{phase_sum, phase_cut}
use Rattle.numbers.proofs.Tail.{tail_lent, tail_back}
use Rattle.pulse.proofs.row.Row.put_by_table.Goals as goal

pub loop-j-init : goal.loop-j-init
unfolding firsts
loop-j-init c = refl

pub loop-j-preserved : goal.loop-j-preserved
loop-j-preserved c =
    let a = c.args in
    let j = c.loop-j.j in
    let R = rate_at a.self.now.p in
    let row = a.self.now.pulses in
    let room = c.loop-j.room in
    let next : 48 * (j + 1) ≡ 48 * j + 48 = omega arith in
    let within : 48 * j ≤ length room = omega arith in
    let wrote = rw (tail_lent room (48 * j)) at c.put_cuts.ensures in
    let sums = c.phase_sums-sums.result in
    let sums-are = c.phase_sums-sums.ensures in
    let same : (k : ℕ) → k < 48 → to_signed 15 (get_or sums k nan) ≡ phase_cut R row (48 * j + k) =
    λ k h.
    let phase : (48 * j + k) / 48 ≡ j = omega arith in
    let lane : (48 * j + k) % 48 ≡ k = omega arith in
    ap (to_signed 15) (rw (sums-are, phase, lane) (firsts_at (phase_sum R row j) 48 k nan h))
    in
    rw (next, tail_back room (48 * j) _ within, wrote, c.loop-j.invariant) (written_more (phase_cut R row) _ (48 * j) 48 a.room.now same)
