use Rattle.first_exchange.specs.People.{ids}
use Rattle.first_exchange.proofs.produce.ids_column.Goals as goal

pub returns-clause-array : goal.returns-clause-array
unfolding ids
returns-clause-array c = c.column.ensures.array
