use Rattle.arr_export.proofs.Costs.{mapped}
use Rattle.std.proofs.Common.{arith}
use Rattle.arr_export.proofs.schema.export_schema.Goals as goal

pub struct_schema-requires-clause-units : goal.struct_schema-requires-clause-units
struct_schema-requires-clause-units c = grind (arith, mapped)

pub struct_schema-requires-clause-small : goal.struct_schema-requires-clause-small
struct_schema-requires-clause-small c = grind (arith, mapped)

pub struct_schema-requires-clause-not_deep : goal.struct_schema-requires-clause-not_deep
struct_schema-requires-clause-not_deep c = grind (arith, mapped)

pub returns-clause-tree : goal.returns-clause-tree
returns-clause-tree c = grind (arith, mapped)

pub returns-clause-units : goal.returns-clause-units
returns-clause-units c = grind (arith, mapped)

pub returns-clause-nodes : goal.returns-clause-nodes
returns-clause-nodes c = grind (arith, mapped)
