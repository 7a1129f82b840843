use Rattle.stages.proofs.SmallSchemas.{schema-counted, schema-few, schema-flat}
use Rattle.stages.proofs.plan_laws.schemas_are_small.Goals as goal

pub returns-clause-nodes : goal.returns-clause-nodes
returns-clause-nodes c = schema-few

pub returns-clause-depth : goal.returns-clause-depth
returns-clause-depth c = schema-flat

pub returns-clause-counted : goal.returns-clause-counted
returns-clause-counted c = schema-counted
