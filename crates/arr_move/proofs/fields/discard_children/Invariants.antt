use Rattle.std.proofs.Common.{◌≡◌, vec_len}
use Rattle.tree_model.specs.promise.TreeData.{trees}
use Rattle.raw_schema.specs.Members.{nodes_of_all}
use Rattle.arr_move.proofs.fields.discard_children.Given as goal

-- the children that are left carry no unit
abbrev pub invariant-loop-child : goal.invariant-loop-child
invariant-loop-child l = nodes_of_all (trees l.children.items) ≡ 0

abbrev pub decreases-loop-child : goal.decreases-loop-child
decreases-loop-child l = vec_len l.children
