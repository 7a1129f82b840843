use Rattle.std.proofs.Common.{arith}
use Rattle.schema_check.proofs.SchemaFails.{counts}
use Rattle.schema_check.proofs.schema.children_fit.Goals as goal

pub returns-in_default : goal.returns-in_default
returns-in_default c = grind (arith, counts)

pub returns-in-List : goal.returns-in-List
returns-in-List c = grind (arith, counts)
