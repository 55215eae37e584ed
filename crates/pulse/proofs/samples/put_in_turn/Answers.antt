-- `put_in_turn` meets its contract: after s turns the samples of the first s symbols are written. Assumes nothing.
use mathlib.Core.Path.{◌≡◌, ap}
use Prim.Native.Nat.{ℕ, ◌+◌, ◌*◌, ◌/◌, ◌%◌, ◌≤◌, ◌<◌}
use native.Mathlib.Nat.{mul-le-mul_left, mul-add-mod_self_left, mod-eq_of_lt}
use native.Mathlib.Omega.{arith}
use lib.IntN.{pos}
use lib.ListN.{length, get_or}
use Rattle.numbers.specs.Firsts.{firsts}
use Rattle.numbers.proofs.Firsts.{written_more}
use Rattle.pulse.specs.Phases.{in_turn}
use Rattle.pulse.proofs.Pulses.{symbol_of}
use Rattle.numbers.proofs.Tail.{tail_lent, tail_back}
use Rattle.pulse.proofs.samples.put_in_turn.Goals as goal

in-turn : (p s j : ℕ) → j < p → 48 * j + s ≡ 48 * ((p * s + j) % p) + (p * s + j) / p
in-turn p s j h = rw (mul-add-mod_self_left p s j, mod-eq_of_lt h, symbol_of p s j h)

-- the room takes symbol s too
room_left : (p s count room : ℕ) → s < count → p * count ≤ room → p * s + p ≤ room
room_left p s count room h enough = omega (arith, mul-le-mul_left {m = s + 1} {n = count} p (omega arith))

pub loop-s-init : goal.loop-s-init
unfolding firsts
loop-s-init c = let none : c.args.p * 0 ≡ 0 = omega arith in rw none

pub loop-s-preserved : goal.loop-s-preserved
loop-s-preserved c =
    let a = c.args in
    let p = a.p in
    let s = c.loop-s.s in
    let room = c.loop-s.room in
    let next : p * (s + 1) ≡ p * s + p = omega arith in
    let within : p * s ≤ length room = let r = room_left p s a.count (length a.room.now) c.loop-s-test.true c.requires.2 in omega arith in
    let wrote = rw (c.samples.ensures, tail_lent room (p * s)) at c.put_symbol.ensures in
    let same : (j : ℕ) → j < p → get_or a.cuts.now (48 * j + s) (pos 0) ≡ in_turn p a.cuts.now (p * s + j) =
    λ j h. ap (λ (k : ℕ). get_or a.cuts.now k (pos 0)) (in-turn p s j h)
    in
    rw (next, c.samples.ensures, tail_back room (p * s) _ within, wrote, c.loop-s.invariant) (written_more (in_turn p a.cuts.now) _ (p * s) p a.room.now same)
