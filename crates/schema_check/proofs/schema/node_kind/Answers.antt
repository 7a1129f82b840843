use Rattle.schema_check.proofs.SchemaFails.{fails}
use Rattle.std.proofs.Common.{arith}
use Rattle.schema_check.proofs.schema.node_kind.Goals as goal

pub returns-in-Err-clause-fault : goal.returns-in-Err-clause-fault
returns-in-Err-clause-fault c = grind (arith, fails)
