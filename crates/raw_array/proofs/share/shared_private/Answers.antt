use Rattle.std.proofs.Common.{arith}
use Rattle.raw_array.proofs.Shares.{shares}
use Rattle.raw_array.proofs.share.shared_private.Goals as goal

pub let_go_all-requires : goal.let_go_all-requires
let_go_all-requires c = grind (arith, shares)

pub returns-in-Err-placed_private-clause-units : goal.returns-in-Err-placed_private-clause-units
returns-in-Err-placed_private-clause-units c = grind (arith, shares)

pub shared_views-requires-clause-amounts : goal.shared_views-requires-clause-amounts
shared_views-requires-clause-amounts c = grind (arith, shares)

pub shared_views-requires-clause-units : goal.shared_views-requires-clause-units
shared_views-requires-clause-units c = grind (arith, shares)

pub placed_private-requires : goal.placed_private-requires
placed_private-requires c = grind (arith, shares)

pub returns-in-Ok-placed_private-clause-shared : goal.returns-in-Ok-placed_private-clause-shared
returns-in-Ok-placed_private-clause-shared c = grind (arith, shares)

pub returns-in-Ok-placed_private-clause-lowered : goal.returns-in-Ok-placed_private-clause-lowered
returns-in-Ok-placed_private-clause-lowered c = grind (arith, shares)

pub returns-in-Ok-placed_private-clause-units : goal.returns-in-Ok-placed_private-clause-units
returns-in-Ok-placed_private-clause-units c = grind (arith, shares)

pub returns-in-Ok-placed_private-clause-blocks : goal.returns-in-Ok-placed_private-clause-blocks
returns-in-Ok-placed_private-clause-blocks c = grind (arith, shares)

pub returns-in-Ok-placed_private-clause-nodes : goal.returns-in-Ok-placed_private-clause-nodes
returns-in-Ok-placed_private-clause-nodes c = grind (arith, shares)

pub returns-in-Err-placed_private-clause-shared : goal.returns-in-Err-placed_private-clause-shared
returns-in-Err-placed_private-clause-shared c = grind (arith, shares)

pub returns-in-Err-placed_private-clause-blocks : goal.returns-in-Err-placed_private-clause-blocks
returns-in-Err-placed_private-clause-blocks c = grind (arith, shares)

pub returns-in-Err-placed_private-clause-nodes : goal.returns-in-Err-placed_private-clause-nodes
returns-in-Err-placed_private-clause-nodes c = grind (arith, shares)

pub returns-in-Err-clause-shared : goal.returns-in-Err-clause-shared
returns-in-Err-clause-shared c = grind (arith, shares)

pub returns-in-Err-clause-lowered : goal.returns-in-Err-clause-lowered
returns-in-Err-clause-lowered c = grind (arith, shares)

pub returns-in-Err-clause-one_lower : goal.returns-in-Err-clause-one_lower
returns-in-Err-clause-one_lower c = grind (arith, shares)

pub returns-in-Err-clause-units : goal.returns-in-Err-clause-units
returns-in-Err-clause-units c = grind (arith, shares)

pub returns-in-Err-clause-blocks : goal.returns-in-Err-clause-blocks
returns-in-Err-clause-blocks c = grind (arith, shares)

pub returns-in-Err-clause-nodes : goal.returns-in-Err-clause-nodes
returns-in-Err-clause-nodes c = grind (arith, shares)
