use Rattle.arr_move.proofs.Vacant.{vacant}
use Rattle.std.proofs.Common.{arith}
use Rattle.arr_move.proofs.columns.vacant_struct.Goals as goal

pub build-requires-clause-not_deep : goal.build-requires-clause-not_deep
build-requires-clause-not_deep c = grind (arith, vacant)

pub discard_parts-requires : goal.discard_parts-requires
discard_parts-requires c = grind (arith, vacant)

pub returns-in-Ok-build-clause-places : goal.returns-in-Ok-build-clause-places
returns-in-Ok-build-clause-places c = grind (arith, vacant)

pub returns-in-Ok-build-clause-vacant : goal.returns-in-Ok-build-clause-vacant
returns-in-Ok-build-clause-vacant c = grind (arith, vacant)

pub returns-in-Ok-build-clause-cost : goal.returns-in-Ok-build-clause-cost
returns-in-Ok-build-clause-cost c = grind (arith, vacant)
