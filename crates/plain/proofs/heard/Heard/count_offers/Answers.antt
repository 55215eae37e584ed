-- `count_offers` meets its contract: one offer for each reply that is read so far. Assumes nothing.
use mathlib.Core.Path.{◌≡◌, sym, ap, subst, ◌∙◌}
use mathlib.Core.Bool.{false}
use Prim.Native.Nat.{ℕ, ◌+◌, ◌<◌}
use native.Mathlib.Omega.{arith}
use borrow.Author.Rules.{rules}
use lib.ListN.{length}
use Rattle.plain.proofs.ListProgress.{Progress, begun, stepped, counted_all, counted_last, found_within}
use Rattle.plain.proofs.heard.Heard.count_offers.Goals as goal

pub loop-count-init : goal.loop-count-init
loop-count-init c = let a = c.args in λ size short. begun a.self.now.table.now a.self.now.p size a.self.now.recording.now short a.replies.now

pub returns-in-None : goal.returns-in-None
returns-in-None c =
    let q = c.loop-count.invariant (omega arith) (omega arith) in
    counted_all c.args.self.now.table.now c.args.self.now.p (omega arith) c.args.self.now.recording.now (omega arith) c.args.replies.now _ _ q _ c.next_due-next.ensures c.in-None.is

pub resume-from-requires : goal.resume-from-requires
resume-from-requires c =
    let w = found_within c.args.self.now.table.now c.args.self.now.p c.args.self.now.recording.now _ _ c.next_due-next.ensures _ c.in-Some.is in
    omega (arith, w)

pub loop-count-preserved : goal.loop-count-preserved
loop-count-preserved c =
    let more : c.loop-count.count < length c.args.replies.now = search rules in
    λ size short.
    subst (λ (n : ℕ). Progress c.args.self.now.table.now c.args.self.now.p size c.args.self.now.recording.now short c.args.replies.now n (c.loop-count.count + 1))
    (sym c.resume-from.ensures)
    (stepped c.args.self.now.table.now c.args.self.now.p size c.args.self.now.recording.now short c.args.replies.now _ _ false (c.loop-count.invariant size short) _
    c.next_due-next.ensures _ c.in-Some.is more)

pub returns-in-None-last : goal.returns-in-None-last
returns-in-None-last c =
    let q = c.loop-count.invariant (omega arith) (omega arith) in
    let done : length c.args.replies.now ≡ c.loop-count.count = omega arith in
    done ∙ counted_all c.args.self.now.table.now c.args.self.now.p (omega arith) c.args.self.now.recording.now (omega arith) c.args.replies.now _ _ q _ c.next_due-last.ensures c.in-None-last.is

pub returns-in-Some-last : goal.returns-in-Some-last
returns-in-Some-last c =
    let q = c.loop-count.invariant (omega arith) (omega arith) in
    let done : length c.args.replies.now ≡ c.loop-count.count = omega arith in
    ap (λ (n : ℕ). n + 1) done
    ∙ counted_last c.args.self.now.table.now c.args.self.now.p (omega arith) c.args.self.now.recording.now (omega arith) c.args.replies.now _ _ q _
    c.next_due-last.ensures _ c.in-Some-last.is (omega arith)
