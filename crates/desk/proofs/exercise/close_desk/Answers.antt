-- `close_desk` meets its contract. Assumes nothing.
use mathlib.Core.Path.{sym, ap, ◌∙◌}
use mathlib.Core.Bool.{true, false}
use Rattle.demodulator.specs.Calls.{carrier_paper}
use Rattle.desk.specs.Desk.{receiver_at}
use Rattle.desk.specs.Passage.{gate_paper}
use Rattle.desk.proofs.SeatLaws.{query_refused, query_held, close_turned, close_by}
use Rattle.desk.proofs.exercise.close_desk.Goals as goal

pub returns-in-Err : goal.returns-in-Err
returns-in-Err c =
    let a = c.args in
    let k = close_turned a.desk a.seat _ (sym c.pass-passed.ensures.gate ∙ ap gate_paper c.in-Err.is) in
    record { answers = k.0; leaves = k.1 }

pub returns-in-Err-tested : goal.returns-in-Err-tested
returns-in-Err-tested c =
    let a = c.args in
    let q = query_refused (receiver_at a.desk a.seat) _ (sym (ap carrier_paper c.in-Err-tested.is) ∙ c.data_carrier_detect-tested.ensures) in
    let k = close_by a.desk a.seat false (sym c.pass-passed.ensures.gate ∙ ap gate_paper c.in-Ok.is) q.0 in
    record { answers = q.1 ∙ k.0; leaves = k.1 }

pub returns-in-Ok-tested : goal.returns-in-Ok-tested
returns-in-Ok-tested c =
    let a = c.args in
    let q = query_held (receiver_at a.desk a.seat) _ (sym (ap carrier_paper c.in-Ok-tested.is) ∙ c.data_carrier_detect-tested.ensures) in
    let k = close_by a.desk a.seat true (sym c.pass-passed.ensures.gate ∙ ap gate_paper c.in-Ok.is) q in
    record { answers = k.0; leaves = k.1 }
