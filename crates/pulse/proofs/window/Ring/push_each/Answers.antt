-- `push_each` meets its contract. The loop's invariant: the symbols so far have been sent, p samples each. Assumes nothing.
use mathlib.Core.Path.{◌≡◌, refl, sym, ◌∙◌}
use Prim.Native.Nat.{ℕ, ◌+◌, ◌*◌, ◌≤◌, ◌<◌}
use native.Mathlib.Nat.{mul-le-mul_left}
use native.Mathlib.Omega.{arith}
use lib.ListN.{length}
use Rattle.shaping.specs.Rate.{rate_at}
use Rattle.pulse.specs.Pulse.{listed}
use Rattle.pulse.proofs.Pulses.{alone}
use Rattle.pulse.proofs.Stream.{sent_none, sent_more}
use Rattle.numbers.proofs.Tail.{tail_lent, tail_back}
use Rattle.pulse.proofs.window.Ring.push_each.Goals as goal

-- the room takes symbol i too
room_left : (p i n room : ℕ) → i < n → p * n ≤ room → p * i + p ≤ room
room_left p i n room h enough = omega (arith, mul-le-mul_left {m = i + 1} {n = n} p (omega arith))

pub loop-i-init : goal.loop-i-init
loop-i-init c =
    let p = c.args.self.now.p in
    let none : p * 0 ≡ 0 = omega arith in
    (refl, rw none (sent_none (rate_at p) _ _ _))

pub loop-i-preserved : goal.loop-i-preserved
loop-i-preserved c =
    let a = c.args in
    let p = a.self.now.p in
    let R = rate_at p in
    let i = c.loop-i.i in
    let room = c.loop-i.room in
    let inv = c.loop-i.invariant in
    let next : p * (i + 1) ≡ p * i + p = omega arith in
    let within : p * i ≤ length room = let r = room_left p i (length a.symbols.now) (length a.room.now) (omega arith) c.requires in omega arith in
    let sent = rw (c.samples.ensures, inv.0, tail_lent room (p * i)) at c.push_symbol.ensures.sent in (
      c.push_symbol.ensures.keeps ∙ inv.0,
      rw (next, c.samples.ensures, inv.0, tail_back room (p * i) _ within) (sent_more R _ _ (p * i) p _ _ _ _ room _ (λ j h. sym (alone p (listed a.symbols.now) i j h)) inv.1 sent),
    )
