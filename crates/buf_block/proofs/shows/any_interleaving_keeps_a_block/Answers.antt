use Rattle.buf_block.proofs.Logged.{runs_the_machine, keeps_the_invariant, at_most_once, where_emptied, at_the_end, no_read_behind, taken_or_due, can_let_go}
use Rattle.buf_block.proofs.shows.any_interleaving_keeps_a_block.Goals as goal

pub returns-clause-machine : goal.returns-clause-machine
returns-clause-machine c = runs_the_machine

pub returns-clause-ok : goal.returns-clause-ok
returns-clause-ok c = keeps_the_invariant

pub returns-clause-at_most_once : goal.returns-clause-at_most_once
returns-clause-at_most_once c = at_most_once

pub returns-clause-exactly_once : goal.returns-clause-exactly_once
returns-clause-exactly_once c = where_emptied

pub returns-clause-all_gave_back : goal.returns-clause-all_gave_back
returns-clause-all_gave_back c = at_the_end

pub returns-clause-read : goal.returns-clause-read
returns-clause-read c = no_read_behind

pub returns-clause-taken_or_due : goal.returns-clause-taken_or_due
returns-clause-taken_or_due c = taken_or_due

pub returns-clause-can_let_go : goal.returns-clause-can_let_go
returns-clause-can_let_go c = can_let_go
