use Rattle.buf_block.proofs.Shown.{split_is_the_tables, split_is_step, let_go_is_step, exchange_is_step, read_is_step}
use Rattle.buf_block.proofs.shows.steps_are_the_machines.Goals as goal

pub returns-clause-split_words : goal.returns-clause-split_words
returns-clause-split_words c = split_is_the_tables

pub returns-clause-split : goal.returns-clause-split
returns-clause-split c = split_is_step

pub returns-clause-let_go : goal.returns-clause-let_go
returns-clause-let_go c = let_go_is_step

pub returns-clause-exchange : goal.returns-clause-exchange
returns-clause-exchange c = exchange_is_step

pub returns-clause-read : goal.returns-clause-read
returns-clause-read c = read_is_step
