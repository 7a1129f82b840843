use Rattle.std.proofs.Common.{◌≡◌, ◌+◌, ◌*◌, ◌≤◌, length}
use Rattle.raw_place.specs.Kept.{values_of}
use Rattle.tree_model.specs.promise.TreeData.{trees}
use Rattle.tree_model.specs.Tree.{Depth, depth_of_all}
use Rattle.raw_schema.specs.Members.{nodes_of_all}
use Rattle.raw_schema.proofs.+ending.Given as goal

abbrev pub decreases-schema::RawSchema::end : goal.decreases-schema::RawSchema::end
decreases-schema::RawSchema::end a = 2 * Depth a.self

abbrev pub decreases-release::end_all : goal.decreases-release::end_all
decreases-release::end_all a = 2 * depth_of_all (trees (values_of a.children)) + 1

-- the units of the children that are left are still to come
abbrev pub invariant-release::end_all-loop-child : goal.invariant-release::end_all-loop-child
invariant-release::end_all-loop-child l =
    (l.pass.units + nodes_of_all (trees (values_of l.children)) ≡ l.initial.pass.units + nodes_of_all (trees (values_of l.initial.children)))
    × (depth_of_all (trees (values_of l.children)) ≤ depth_of_all (trees (values_of l.initial.children)))
    × (l.pass.blocks ≡ l.initial.pass.blocks)
    × (l.pass.nodes ≡ l.initial.pass.nodes)

abbrev pub decreases-release::end_all-loop-child : goal.decreases-release::end_all-loop-child
decreases-release::end_all-loop-child l = length (values_of l.children)
