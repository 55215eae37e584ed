-- `frame::framed` meets its contract. Assumes nothing.
use mathlib.Core.Path.{◌≡◌, sym}
use Prim.Native.Nat.{◌*◌, ◌≤◌}
use native.Mathlib.Nat.{mul-le-mul_left}
use native.Mathlib.Omega.{arith}
use borrow.Author.Rules.{rules}
use lib.ListN.{length}
use Rattle.shaping.specs.Rate.{samples_in_lem, rate_of}
use Rattle.shaping.proofs.RateFacts.{rate_known}
use Rattle.pulse.proofs.Ready.{says_sent}
use Rattle.modulator.specs.Frame.{listing}
use Rattle.modulator.proofs.Frames.{framed_from}
use Rattle.modulator.proofs.frame.framed.Goals as goal
use Rattle.modulator.proofs.frame.framed.Goals.{Start}

-- the store has room for the longest frame at either rate
stored : (c : Start) → samples_in_lem c.args.m.rate * length c.args.symbols.now ≤ 4000
stored c =
    let known = rate_known c.args.m.rate c.requires.0 in
    omega (arith, mul-le-mul_left (samples_in_lem c.args.m.rate) c.requires.2)

pub overflow_mul-len : goal.overflow_mul-len
overflow_mul-len c =
    let few = stored c.before.before.before.before.before.before.before.before.before.before in
    omega (arith, rw (sym c.samples_in-p.ensures) at few)

pub returns : goal.returns
returns c =
    let a = c.args in
    let store : length a.m.next_transmission ≡ 4000 = search rules in
    let few = stored c.before.before.before.before.before.before.before.before.before.before in
    let sent = says_sent a.m.rate _ _ _ _ c.requires.0 c.requires.1 (omega arith) _ _ _ c.push_symbols-next.ensures in
    rw c.samples_in-p.ensures (framed_from (rate_of a.m.rate) a.padding.0 a.pending a.m (listing a.symbols.now) _ _ sent)
