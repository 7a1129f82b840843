use Rattle.raw_array.proofs.Buffers.{buffer_lists}
use Rattle.std.proofs.Common.{arith}
use Rattle.tree_text.proofs.array_tree.give_up_parts.Goals as goal

pub let_go_all-requires : goal.let_go_all-requires
let_go_all-requires c = grind (arith, buffer_lists)

pub release_all-requires : goal.release_all-requires
release_all-requires c = grind (arith, buffer_lists)

pub end-requires : goal.end-requires
end-requires c = grind (arith, buffer_lists)

pub returns-in-Some-clause-units : goal.returns-in-Some-clause-units
returns-in-Some-clause-units c = grind (arith, buffer_lists)

pub returns-in_default-clause-units : goal.returns-in_default-clause-units
returns-in_default-clause-units c = grind (arith, buffer_lists)
