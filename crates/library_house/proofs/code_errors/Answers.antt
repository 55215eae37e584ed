-- `code_errors` meets its contract. Assumes nothing.
use Rattle.library_house.proofs.code_errors.Goals as goal

pub returns-in-Err : goal.returns-in-Err
returns-in-Err c = rw (c.in-Err.is, c.refusal_code.ensures)
