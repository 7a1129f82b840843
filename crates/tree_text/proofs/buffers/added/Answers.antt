use Rattle.std.proofs.Common.{arith}
use Rattle.raw_array.proofs.Buffers.{buffer_lists}
use Rattle.tree_text.proofs.buffers.added.Goals as goal

pub let_go_all-requires : goal.let_go_all-requires
let_go_all-requires c = grind (arith, buffer_lists)

pub returns-after-failed-clause-units : goal.returns-after-failed-clause-units
returns-after-failed-clause-units c = grind (arith, buffer_lists)
