-- `write_offers` meets its contract: the list so far is at the front of the rooms. Assumes nothing.
use mathlib.Core.Path.{refl, ◌∙◌}
use mathlib.Core.Bool.{false}
use Prim.Native.Nat.{◌+◌, ◌≤◌, ◌<◌}
use native.Mathlib.Omega.{arith}
use borrow.Author.Rules.{rules}
use lib.ListN.{length}
use Rattle.plain.proofs.ListProgress.{found_within, longer}
use Rattle.plain.proofs.RoomLaws.{one_long, writing_begun, writing_ended, writing_filled, writing_step, writing_last}
use Rattle.plain.proofs.heard.Heard.write_offers.Goals as goal

pub loop-count-init : goal.loop-count-init
loop-count-init c =
    let a = c.args in
    (search rules, refl, refl, λ size short. writing_begun a.self.now.table.now a.self.now.p size a.self.now.recording.now short a.replies.now a.numbers.now a.symbols.now)

pub returns-in_default : goal.returns-in_default
returns-in_default c =
    writing_ended c.args.self.now.table.now c.args.self.now.p (omega arith) c.args.self.now.recording.now (omega arith) c.args.replies.now
    c.args.numbers.now c.args.symbols.now _ _ _ _ (c.loop-count.invariant.3 (omega arith) (omega arith)) _ c.next_due-next.ensures c.in_default.is

pub write_entry-requires : goal.write_entry-requires
write_entry-requires c =
    let within = found_within c.args.self.now.table.now c.args.self.now.p c.args.self.now.recording.now _ _ c.next_due-next.ensures _ c.in-Some.is in
    let more =
    longer c.args.self.now.table.now c.args.self.now.p (omega arith) c.args.self.now.recording.now (omega arith) c.args.replies.now _ _
    (c.loop-count.invariant.3 (omega arith) (omega arith)).progress _ c.next_due-next.ensures _ c.in-Some.is in
    (omega (arith, within), (omega (arith, more, c.requires.0, c.requires.1.0, c.loop-count.invariant.1), omega (arith, more, c.requires.0, c.requires.1.1, c.loop-count.invariant.2)))

pub returns-then-count-replies : goal.returns-then-count-replies
returns-then-count-replies c =
    let all : length c.args.replies.now ≤ c.loop-count.count = search rules in
    writing_last c.args.self.now.table.now c.args.self.now.p (omega arith) c.args.self.now.recording.now (omega arith) c.args.replies.now
    c.args.numbers.now c.args.symbols.now _ _ _ _ (c.loop-count.invariant.3 (omega arith) (omega arith)) _ c.next_due-next.ensures _
    c.in-Some.is _ _ c.write_entry.ensures all

pub resume-from-requires : goal.resume-from-requires
resume-from-requires c =
    let within = found_within c.args.self.now.table.now c.args.self.now.p c.args.self.now.recording.now _ _ c.next_due-next.ensures _ c.in-Some.is in
    omega (arith, within)

pub loop-count-preserved : goal.loop-count-preserved
loop-count-preserved c =
    let more : c.loop-count.count < length c.args.replies.now = search rules in
    let further =
    longer c.args.self.now.table.now c.args.self.now.p (omega arith) c.args.self.now.recording.now (omega arith) c.args.replies.now _ _
    (c.loop-count.invariant.3 (omega arith) (omega arith)).progress _ c.next_due-next.ensures _ c.in-Some.is in
    let long =
    one_long c.args.self.now.table.now c.args.self.now.p c.args.self.now.recording.now _ _ _ _ _ _ c.write_entry.ensures
    (omega (arith, further, c.requires.0, c.requires.1.0, c.loop-count.invariant.1)) (omega (arith, further, c.requires.0, c.requires.1.1, c.loop-count.invariant.2)) in
    let reached : c.loop-count.count + 1 ≤ length c.args.replies.now = omega (arith, more) in (
      reached,
      long.0 ∙ c.loop-count.invariant.1,
      long.1 ∙ c.loop-count.invariant.2,
      λ size short.
          writing_step c.args.self.now.table.now c.args.self.now.p size c.args.self.now.recording.now short c.args.replies.now c.args.numbers.now
          c.args.symbols.now _ _ _ _ (c.loop-count.invariant.3 size short) _ c.next_due-next.ensures _ c.in-Some.is _ _ c.write_entry.ensures
          false more _ c.resume-from.ensures,
    )

pub returns : goal.returns
returns c =
    writing_filled c.args.self.now.table.now c.args.self.now.p (omega arith) c.args.self.now.recording.now (omega arith) c.args.replies.now
    c.args.numbers.now c.args.symbols.now _ _ _ _ (c.loop-count.invariant.3 (omega arith) (omega arith)) (omega (arith, c.requires.0))
