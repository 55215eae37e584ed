-- `shaping::sum_samples` meets its contract. The loop's invariant: the sum so far is that of the products passed. Assumes nothing.
use mathlib.Core.Path.{◌≡◌, refl, ◌∙◌}
use mathlib.Core.List.{[], ◌∷◌}
use native.Mathlib.Omega.{arith}
use borrow.Author.Rules.{rules}
use mir.Syntax.{w16}
use mir.Facts.{to_z-of_z}
use lib.IntN.{pos}
use lib.ListN.{length, get_or, length-append}
use lib.Ieee.{nan}
use Rattle.std.proofs.lemmas.Slice.Zip.{zip_turn, zip_end}
use Rattle.shaping.specs.Sum.{sample_in}
use Rattle.shaping.proofs.Dot.{begun, step, ended}
use Rattle.shaping.proofs.sum_samples.Goals as goal

pub loop-tap-init : goal.loop-tap-init
loop-tap-init c = begun c.args.table.now (sample_in c.args.part.now)

pub loop-tap-preserved : goal.loop-tap-preserved
loop-tap-preserved c =
    let a = c.args in
    let l = c.loop-tap in
    let i = length l.yielded in
    let turn = zip_turn a.table.now a.part.now l.yielded c.into_iter-tap-iterator.result l.tap-iterator c.next.new.self c.next.result (search rules) (search rules) l.yielded_by (c.in-Some.tap, c.in-Some.sample) c.in-Some.is c.next.ensures.steps in
    let tap : c.in-Some.tap.now ≡ get_or a.table.now i nan = turn.2 nan in
    let sample : c.in-Some.sample.now ≡ get_or a.part.now i (pos 0) = turn.3 (pos 0) in
    let back = to_z-of_z {w = w16} {z = c.in-Some.sample.now} (search rules) in
    let value : c.from.result ≡ sample_in a.part.now i = c.from.ensures ∙ rw (back, sample) in
    rw (length-append l.yielded ((c.in-Some.tap, c.in-Some.sample) ∷ []), tap) (step a.table.now (sample_in a.part.now) a.table.now l.out c.from.result i refl turn.0 value l.invariant)

pub returns : goal.returns
returns c =
    let a = c.args in
    let l = c.loop-tap in
    let end = zip_end a.table.now a.part.now l.yielded c.into_iter-tap-iterator.result l.tap-iterator c.next.new.self c.next.result (search rules) (search rules) l.yielded_by c.in-None.is c.next.ensures.steps in
    ended a.table.now _ _ (length l.yielded) (omega arith) l.invariant
