use Rattle.arr_move.proofs.Vacant.{vacant}
use Rattle.std.proofs.Common.{arith}
use Rattle.arr_move.proofs.fields.vacant_schema.Goals as goal

pub build-requires-clause-not_deep : goal.build-requires-clause-not_deep
build-requires-clause-not_deep c = grind (arith, vacant)

pub discard_parts-requires : goal.discard_parts-requires
discard_parts-requires c = grind (arith, vacant)

pub returns-in-Ok-clause-places : goal.returns-in-Ok-clause-places
returns-in-Ok-clause-places c = grind (arith, vacant)

pub returns-in-Ok-clause-vacant : goal.returns-in-Ok-clause-vacant
returns-in-Ok-clause-vacant c = grind (arith, vacant)

pub returns-in-Ok-clause-cost : goal.returns-in-Ok-clause-cost
returns-in-Ok-clause-cost c = grind (arith, vacant)
