-- `pairs::pair_up` meets its contract. Assumes nothing.
use Rattle.std.specs.Prelude.{Some}
use mathlib.Core.Path.{◌∙◌}
use borrow.Author.Rules.{rules, sfits_of}
use mir.Syntax.{w16}
use mir.Facts.{to_z-of_z}
use Rattle.receiving.proofs.BytePairs.{nothing_more, room_left, tail_fits, pairs_held}
use Rattle.receiving.proofs.pairs.pair_up.Goals as goal

pub returns-then-bytes-eq0 : goal.returns-then-bytes-eq0
returns-then-bytes-eq0 c =
    let a = c.args in
    rw c.in-Some.is (nothing_more (Some _) a.bytes.now a.samples.now (search rules))

pub slice_bounds-pair_whole-count-in-Some : goal.slice_bounds-pair_whole-count-in-Some
slice_bounds-pair_whole-count-in-Some c =
    let a = c.args in
    room_left a.bytes.now a.samples.now _ (search rules) (search rules)

pub slice_bounds-pair_whole-start-in-Some : goal.slice_bounds-pair_whole-start-in-Some
slice_bounds-pair_whole-start-in-Some c = slice_bounds-pair_whole-count-in-Some c

pub pair_whole-rest-requires : goal.pair_whole-rest-requires
pair_whole-rest-requires c =
    let a = c.args in
    tail_fits a.bytes.now a.samples.now _ (search rules) (search rules)

-- the sample of the byte that waited, and the others after it
pub returns-else-bytes-eq0 : goal.returns-else-bytes-eq0
returns-else-bytes-eq0 c =
    let made = to_z-of_z {w = w16} {z = c.i16_of_bytes-sample.result} (sfits_of c.i16_of_bytes-sample.type_inv) ∙ c.i16_of_bytes-sample.ensures in
    rw c.in-Some.is (pairs_held _ _ _ _ _ _ made (search rules) (search rules) c.pair_whole-rest.ensures)

pub overflow_add-count : goal.overflow_add-count
overflow_add-count c = let fits = (returns-else-bytes-eq0 c).count in search rules

pub returns-in-None : goal.returns-in-None
returns-in-None c = rw c.in-None.is c.pair_whole.ensures

pub shape_of-samples-else-bytes-eq0 : goal.shape_of-samples-else-bytes-eq0
shape_of-samples-else-bytes-eq0 c = (returns-else-bytes-eq0 c).same_room
