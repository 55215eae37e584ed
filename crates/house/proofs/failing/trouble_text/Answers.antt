-- `trouble_text` meets its contract.
use Rattle.house.specs.BadLine.{in_room}
use Rattle.house.specs.Trouble.{program_name, reason, trouble_text_lem}
use Rattle.house.proofs.failing.trouble_text.Goals as goal

pub returns-in-Reading : goal.returns-in-Reading
unfolding in_room trouble_text_lem program_name reason
returns-in-Reading c = rw (c.in-Receive.is, c.in-Reading.is)

pub returns-in-Writing : goal.returns-in-Writing
unfolding in_room trouble_text_lem program_name reason
returns-in-Writing c = rw (c.in-Receive.is, c.in-Writing.is)

pub returns-in-Refused : goal.returns-in-Refused
unfolding in_room trouble_text_lem program_name reason
returns-in-Refused c = rw (c.in-Receive.is, c.in-Refused.is)

pub returns-in-Reading-trouble : goal.returns-in-Reading-trouble
unfolding in_room trouble_text_lem program_name reason
returns-in-Reading-trouble c = rw (c.in-Send.is, c.in-Reading-trouble.is)

pub returns-in-Writing-trouble : goal.returns-in-Writing-trouble
unfolding in_room trouble_text_lem program_name reason
returns-in-Writing-trouble c = rw (c.in-Send.is, c.in-Writing-trouble.is)

pub returns-in-Refused-trouble : goal.returns-in-Refused-trouble
unfolding in_room trouble_text_lem program_name reason
returns-in-Refused-trouble c = rw (c.in-Send.is, c.in-Refused-trouble.is)
