use Rattle.std.proofs.Common.{◌≡◌, ◌+◌, ◌*◌, ◌≤◌, length}
use Rattle.raw_place.specs.Kept.{values_of}
use Rattle.tree_model.specs.promise.TreeData.{trees}
use Rattle.tree_model.specs.Tree.{Depth, depth_of_all}
use Rattle.raw_array.specs.Members.{cost_of_all}
use Rattle.raw_array.proofs.+ending.Given as goal

abbrev pub decreases-array::RawArray::end : goal.decreases-array::RawArray::end
decreases-array::RawArray::end a = 2 * Depth a.self

abbrev pub decreases-release::end_all : goal.decreases-release::end_all
decreases-release::end_all a = 2 * depth_of_all (trees (values_of a.children)) + 1

-- the units of the children that are left are still to come
abbrev pub invariant-release::end_all-loop-child : goal.invariant-release::end_all-loop-child
invariant-release::end_all-loop-child l =
    (l.pass.units + cost_of_all (trees (values_of l.children)) ≡ l.initial.pass.units + cost_of_all (trees (values_of l.initial.children)))
    × (depth_of_all (trees (values_of l.children)) ≤ depth_of_all (trees (values_of l.initial.children)))
    × (l.pass.blocks ≡ l.initial.pass.blocks)
    × (l.pass.nodes ≡ l.initial.pass.nodes)

abbrev pub decreases-release::end_all-loop-child : goal.decreases-release::end_all-loop-child
decreases-release::end_all-loop-child l = length (values_of l.children)
