use Rattle.tree_check.proofs.SomeSchema.{some-metadata, some-schema}
use Rattle.tree_check.proofs.some.some_schema_answer.Goals as goal

pub returns-clause-kinds : goal.returns-clause-kinds
returns-clause-kinds c = some-schema c.one_reading.ensures.some

pub returns-clause-metadata : goal.returns-clause-metadata
returns-clause-metadata c = some-metadata
