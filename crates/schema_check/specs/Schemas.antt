-- The schemas at which no rule fails.
use Rattle.raw_schema.specs.promise.Members.{SchemaTree}
use Rattle.data_types.specs.promise.KindTrees.{KindTree}
use Rattle.schema_check.specs.promise.Schemas.{TypedOf}

-- ---- the kinds of a schema that meets the rules at each node

-- No rule fails at any node.
abbrev pub SchemaOk : SchemaTree → Type 0
SchemaOk schema = (typed : KindTree) × TypedOf schema typed
