-- `output::end_after` meets its contract. Assumes nothing.
use native.Mathlib.Omega.{arith}
use Rattle.modulator.proofs.output.end_after.Goals as goal

pub overflow_sub-unread : goal.overflow_sub-unread
overflow_sub-unread c = omega arith

pub overflow_add-played : goal.overflow_add-played
overflow_add-played c = omega arith

pub overflow_add-padded : goal.overflow_add-padded
overflow_add-padded c = omega arith

pub overflow_add-end : goal.overflow_add-end
overflow_add-end c = omega arith

pub returns : goal.returns
returns c = omega arith
