use Rattle.std.proofs.Common.{arith}
use Rattle.raw_array.proofs.Buffers.{holds_of-count}
use Rattle.union_cols.proofs.tag_tops.vacant_union.Goals as goal

pub let_go_all-requires : goal.let_go_all-requires
let_go_all-requires c = omega (arith, c.requires.room, holds_of-count c.args.views.items)

pub returns-in_default-clause-units : goal.returns-in_default-clause-units
returns-in_default-clause-units c = omega (arith, c.let_go_all.ensures.units, holds_of-count c.args.views.items)
