-- `put_samples` meets its contract: after s symbols their samples are written. Assumes nothing.
use mathlib.Core.Path.{◌≡◌}
use mathlib.Core.Bool.{true}
use mathlib.Core.List.{List}
use Prim.Native.Nat.{ℕ, ◌+◌, ◌-◌, ◌*◌, ◌/◌, ◌≤◌, ◌<◌}
use native.Mathlib.Nat.{mul-le-mul_left}
use native.Mathlib.Omega.{arith}
use borrow.Author.Rules.{rules}
use borrow.Rule.Slice.PartMut.{put_mid}
use lib.IntN.{ℤ}
use lib.ListN.{length, take, drop}
use lib.Ieee.{Float}
use Rattle.numbers.specs.Firsts.{firsts, written}
use Rattle.numbers.proofs.Firsts.{written_more}
use Rattle.shaping.specs.Rate.{Known, rate_at, tap_count}
use Rattle.shaping.proofs.RateFacts.{facts}
use Rattle.pulse.specs.Pulse.{line_at}
use Rattle.pulse.specs.Phases.{pulses_only, pulse_no, row_sample}
use Rattle.pulse.proofs.Pulses.{symbol_inside}
use Rattle.numbers.proofs.Tail.{tail_lent, tail_back}
use Rattle.pulse.proofs.PhaseSums.{row_sample_lem}
use Rattle.pulse.proofs.window.Ring.put_samples.Invariants.{sampled}
use Rattle.pulse.proofs.window.Ring.put_samples.Goals as goal

-- after s symbols a block's samples are written
module _ (p : ℕ) (known : Known p) (window : List Float) (long : length window ≡ 81) (cursor : ℕ) (symbols : List Float)
    (in_window : cursor < tap_count p) (only : pulses_only p (line_at window cursor) ≡ true)
  where
    abbrev f : ℕ → ℤ
    f = sampled p window cursor symbols

    block : (s count : ℕ) → count ≤ 48 → s + count ≤ length symbols → (row : List Float) → row ≡ firsts (λ (i : ℕ). pulse_no p (line_at window cursor) symbols (s + i)) 56
        → (room₀ room rest : List ℤ) → p * s ≤ length room → room ≡ written f (p * s) room₀
        → rest ≡ written (row_sample (rate_at p) row) (p * count) (take (length room - p * s) (drop (p * s) room))
        → put_mid (p * s) (length room - p * s) room rest ≡ written f (p * (s + count)) room₀
    block s count few left row row_is room₀ room rest within before more =
        let next : p * (s + count) ≡ p * s + p * count = omega arith in
        let wrote = rw (tail_lent room (p * s)) at more in
        let same : (i : ℕ) → i < p * count → row_sample (rate_at p) row i ≡ f (p * s + i) =
        λ i h.
        let inblock : i / p < count = symbol_inside p count i h in
        row_sample_lem (rate_at p) (facts p known) (line_at window cursor) symbols (omega arith) in_window only s row row_is i
        (let most = mul-le-mul_left p few in omega arith) (omega arith)
        in
        rw (next, tail_back room (p * s) _ within, wrote, before) (written_more f _ (p * s) (p * count) room₀ same)

pub loop-s-init : goal.loop-s-init
unfolding firsts
loop-s-init c = let none : c.args.self.now.p * 0 ≡ 0 = omega arith in (search rules, rw none)

pub loop-s-preserved : goal.loop-s-preserved
loop-s-preserved c =
    let a = c.args in
    let l = c.loop-s in
    let full : c.min-count.result ≡ 48 = omega arith in
    (omega arith, rw c.samples.ensures (rw full at (block a.self.now.p (omega arith) a.self.now.values (search rules) a.self.now.cursor a.symbols.now (omega arith) c.requires.1 l.s c.min-count.result (omega arith) (omega arith) _ c.pulse_row-row.ensures.reads a.room.now l.room _ (search rules) l.invariant.1 (rw (c.samples.ensures, c.pulse_row-row.ensures.keeps) at c.put_block.ensures))))

pub returns-2 : goal.returns-2
returns-2 c =
    let a = c.args in
    let l = c.loop-s in
    let last : l.s + c.min-count.result ≡ length a.symbols.now = omega arith in
    rw c.samples.ensures (rw last at (block a.self.now.p (omega arith) a.self.now.values (search rules) a.self.now.cursor a.symbols.now (omega arith) c.requires.1 l.s c.min-count.result (omega arith) (omega arith) _ c.pulse_row-row.ensures.reads a.room.now l.room _ (search rules) l.invariant.1 (rw (c.samples.ensures, c.pulse_row-row.ensures.keeps) at c.put_block.ensures)))
