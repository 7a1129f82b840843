use Rattle.buf_block.proofs.Desk.{closes_whole, can_end, takes_as_the_machine, lets_go_as_the_machine}
use Rattle.buf_block.proofs.shows.a_desk_that_closes_has_freed_its_blocks.Goals as goal

pub returns-clause-whole : goal.returns-clause-whole
returns-clause-whole c = closes_whole

pub returns-clause-can_end : goal.returns-clause-can_end
returns-clause-can_end c = can_end

pub returns-clause-take : goal.returns-clause-take
returns-clause-take c = takes_as_the_machine

pub returns-clause-let_go : goal.returns-clause-let_go
returns-clause-let_go c = lets_go_as_the_machine
