-- `hear` meets its contract. Assumes nothing.
use mathlib.Core.Path.{sym, ◌∙◌}
use mathlib.Core.Logic.{inl, inr}
use native.Mathlib.Omega.{arith}
use lib.ListN.{length}
use Rattle.receiving.proofs.HearPromise.{seen_few, seen_long, looked_all, paired_looked, count_fits, samples_long, admitted_ok, no_room_none, by_room, count_long, fed_most, whole_says, part_says}
use Rattle.receiving.proofs.Receiving.hear.Goals as goal

-- ---- the bytes that are lent
pub slice_bounds-pair_up-end : goal.slice_bounds-pair_up-end
slice_bounds-pair_up-end c = sym (seen_long c.args.bytes.now (length c.args.lines.now) _ c.look_at-looked.ensures)

pub pair_up-paired-requires : goal.pair_up-paired-requires
pair_up-paired-requires c =
    let a = c.args in
    rw (seen_long a.bytes.now (length a.lines.now) _ c.look_at-looked.ensures) (seen_few a.bytes.now (length a.lines.now) _ c.look_at-looked.ensures)

-- ---- their samples
pub slice_bounds-samples-end : goal.slice_bounds-samples-end
slice_bounds-samples-end c = count_fits c.pair_up-paired.ensures

pub slice_bounds-hear_samples-end : goal.slice_bounds-hear_samples-end
slice_bounds-hear_samples-end c = sym (samples_long c.pair_up-paired.ensures)

pub hear_samples-heard-requires : goal.hear_samples-heard-requires
hear_samples-heard-requires c =
    let a = c.args in
    let places = length a.lines.now in
    let p = paired_looked a.bytes.now places _ c.look_at-looked.ensures c.pair_up-paired.ensures in
    record {
      few = omega (arith, samples_long p, p.count);
      room = λ some. by_room places _ some (λ l. p.samples ∙ no_room_none a.self.odd a.bytes.now places l);
    }

pub returns-then-heard-count : goal.returns-then-heard-count
returns-then-heard-count c =
    let a = c.args in
    let p = paired_looked a.bytes.now (length a.lines.now) _ c.look_at-looked.ensures c.pair_up-paired.ensures in
    whole_says _ _ _ _ _ _ _ _ p c.hear_samples-heard.ensures (admitted_ok _ ∙ sym c.is_ok.ensures.value ∙ c.if-is_ok.true) c.if-heard-count.true _
    (looked_all a.bytes.now (length a.lines.now) _ c.look_at-looked.ensures)

pub measure_part-part-requires : goal.measure_part-part-requires
measure_part-part-requires c =
    let a = c.args in
    let p = paired_looked a.bytes.now (length a.lines.now) _ c.look_at-looked.ensures c.pair_up-paired.ensures in
    let most = fed_most _ _ _ _ _ _ _ _ p c.hear_samples-heard.ensures in
    omega (arith, most, count_long _ _ _ _ _ _ _ _ p c.hear_samples-heard.ensures, c.pair_up-paired.ensures.count)

pub returns : goal.returns
returns c =
    let a = c.args in
    let p = paired_looked a.bytes.now (length a.lines.now) _ c.look_at-looked.ensures c.pair_up-paired.ensures in
    part_says _ _ _ _ _ _ _ _ p c.hear_samples-heard.ensures _ c.measure_part-part.ensures
    (elim c.else-is_ok.either [ inl both ↦ inr both.1 | inr refused ↦ inl (admitted_ok _ ∙ sym c.is_ok.ensures.value ∙ refused) ])
