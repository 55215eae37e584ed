-- `next_due` meets its contract: what is left of the list from the first sample on is what is left of it from sample k on. Assumes nothing.
use mathlib.Core.Path.{refl, ◌∙◌}
use Prim.Native.Nat.{◌+◌}
use native.Mathlib.Omega.{arith}
use borrow.Author.Rules.{rules}
use Rattle.plain.proofs.RestLaws.{goes_on, finds, finds_none}
use Rattle.plain.proofs.heard.Heard.next_due.Goals as goal

pub loop-k-init : goal.loop-k-init
loop-k-init c = λ t. (t, λ rs. refl)

pub returns-in-Some : goal.returns-in-Some
returns-in-Some c =
    rw c.due_after.ensures
    (finds c.args.self.now.table.now c.args.self.now.p (omega arith) c.args.self.now.recording.now (omega arith) c.args.from c.loop-k.k (search rules)
    c.loop-k.candidate c.loop-k.invariant c.search_at-pursuit.result c.search_at-pursuit.ensures _ c.in-Some.is)

pub loop-k-preserved : goal.loop-k-preserved
loop-k-preserved c =
    λ t.
    let f = c.loop-k.invariant t in
    let g =
    goes_on c.args.self.now.table.now c.args.self.now.p (omega arith) c.args.self.now.recording.now (omega arith) c.loop-k.k (search rules) c.loop-k.candidate
    c.search_at-pursuit.result c.search_at-pursuit.ensures c.in_default.is f.0 in
    (g.0, λ rs. f.1 rs ∙ g.1 rs)

pub returns : goal.returns
returns c =
    finds_none c.args.self.now.table.now c.args.self.now.p (omega arith) c.args.self.now.recording.now (omega arith) c.args.from c.loop-k.k (search rules) c.loop-k.candidate c.loop-k.invariant

-- the last sample was searched
pub returns-in_default : goal.returns-in_default
returns-in_default c =
    finds_none c.args.self.now.table.now c.args.self.now.p (omega arith) c.args.self.now.recording.now (omega arith) c.args.from (c.loop-k.k + 1) (omega arith) c.search_at-pursuit.result.candidate
    λ t.
    let f = c.loop-k.invariant t in
    let g =
    goes_on c.args.self.now.table.now c.args.self.now.p (omega arith) c.args.self.now.recording.now (omega arith) c.loop-k.k (search rules) c.loop-k.candidate
    c.search_at-pursuit.result c.search_at-pursuit.ensures c.in_default.is f.0 in
    (g.0, λ rs. f.1 rs ∙ g.1 rs)
