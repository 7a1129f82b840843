use Rattle.std.proofs.Common.{ap, length, arith}
use Rattle.raw_array.proofs.Buffers.{holds_of-count, length-buffers_of}
use Rattle.union_cols.proofs.TagSteps.{few-starts}
use Rattle.union_cols.proofs.tag_tops.vacant_array.Goals as goal

pub vacant_union-requires-clause-few_views : goal.vacant_union-requires-clause-few_views
vacant_union-requires-clause-few_views c =
    omega (arith, length-buffers_of c.push_blocks.new.views.items, ap length c.in-Ok-push_blocks.ensures.views, few-starts c.args.starts)

pub let_go_all-requires : goal.let_go_all-requires
let_go_all-requires c = omega (arith, c.push_blocks.ensures.units, holds_of-count c.push_blocks.new.views.items, c.args.pass.now.supply)

pub returns-in-Err-clause-units : goal.returns-in-Err-clause-units
returns-in-Err-clause-units c = omega (arith, c.push_blocks.ensures.units, holds_of-count c.push_blocks.new.views.items, c.let_go_all.ensures.units)
