-- `phase_sums` meets its contract: after q turns each sum has its first q products, and
-- within a turn the first k sums have one more. Assumes nothing.
use mathlib.Core.Path.{◌≡◌, refl}
use Prim.Native.Nat.{ℕ, ◌+◌, ◌-◌, ◌*◌, ◌≤◌, ◌<◌}
use native.Mathlib.Nat.{mul-le-mul_left}
use native.Mathlib.Omega.{arith}
use lib.ListN.{get_or}
use lib.Ieee.{nan}
use Rattle.numbers.specs.Sum.{nought}
use Rattle.numbers.proofs.Lanes.{lanes_start, lanes_step, lanes_sums}
use Rattle.shaping.specs.Rate.{rate_at, tap_count}
use Rattle.shaping.proofs.RateFacts.{facts}
use Rattle.shaping.proofs.Dot.{inside}
use Rattle.pulse.specs.Phases.{first_tap, first_pulse_lem, phase_sum}
use Rattle.pulse.proofs.PhaseSums.{Meets, meets}
use Rattle.pulse.proofs.row.Row.phase_sums.Goals as goal

-- the taps that meet a pulse
met : {p j lead : ℕ} → j < p → lead ≡ first_pulse_lem j → Meets p j lead (p * lead - j)
met {p} {j} h e = rw e (meets p j h)

tap_inside : {p j lead q : ℕ} → j < p → lead ≡ first_pulse_lem j → q < 9 - lead → p * lead - j + p * q < tap_count p
tap_inside {p} {j} {lead} {q} h e l =
    let m = met h e in
    let upto : q ≤ 8 - lead = omega arith in
    omega (arith, mul-le-mul_left p upto, m.last)

pub loop-q-init : goal.loop-q-init
loop-q-init c = lanes_start 48 _

pub bounds-table-first : goal.bounds-table-first
bounds-table-first c = rw (c.requires.0, (facts c.args.self.now.p (omega arith)).number, c.samples-step.ensures) (tap_inside c.requires.1 c.first_pulse-lead.ensures.is c.loop-q-test.true)

pub loop-k-preserved : goal.loop-k-preserved
loop-k-preserved c =
    let a = c.args in
    let at : ℕ = first_tap a.self.now.p a.j + a.self.now.p * c.loop-q.q in
    let lead = c.first_pulse-lead.ensures.is in
    let tap : get_or a.table.now at nan ≡ get_or (rate_at a.self.now.p).taps at nought = rw c.requires.0 (inside (rate_at a.self.now.p).taps at nan nought (omega (arith, rw lead at (tap_inside c.requires.1 lead c.loop-q-test.true), (facts a.self.now.p (omega arith)).number))) in
    lanes_step c.loop-k.invariant c.loop-k-test.true (rw (c.samples-step.ensures, lead, tap))

pub returns : goal.returns
unfolding phase_sum
returns c =
    let done : c.loop-q.q ≡ 9 - first_pulse_lem c.args.j = omega (arith, c.first_pulse-lead.ensures.is) in
    rw done at (lanes_sums c.loop-q.invariant refl)
