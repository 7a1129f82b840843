use Rattle.first_exchange.specs.People.{names}
use Rattle.first_exchange.proofs.produce.names_column.Goals as goal

pub returns-clause-array : goal.returns-clause-array
unfolding names
returns-clause-array c = c.column.ensures.array
