use Rattle.std.proofs.Common.{◌≡◌, ◌+◌, ◌*◌, ◌-◌, take}
use Rattle.raw_place.specs.Kept.{values_of, value_if}
use Rattle.tree_model.specs.promise.TreeData.{trees, maybe_tree}
use Rattle.tree_model.specs.Tree.{Depth, depth_of_all, depth_of_maybe}
use Rattle.raw_schema.specs.Members.{nodes_of_all}
use Rattle.raw_schema.specs.View.{tree_of_node}
use Rattle.raw_schema.proofs.+copied.Given as goal

abbrev pub decreases-schema::RawSchema::copied : goal.decreases-schema::RawSchema::copied
decreases-schema::RawSchema::copied a = 3 * Depth a.self.now

abbrev pub decreases-share::copied_node : goal.decreases-share::copied_node
decreases-share::copied_node a = 3 * Depth (tree_of_node a.node.now) - 1

abbrev pub decreases-share::copied_behind : goal.decreases-share::copied_behind
decreases-share::copied_behind a = 3 * depth_of_maybe (maybe_tree (value_if a.tree.now)) + 1

abbrev pub decreases-share::copied_all : goal.decreases-share::copied_all
decreases-share::copied_all a = 3 * depth_of_all (trees (values_of a.children.now)) + 1

abbrev pub invariant-share::copied_all-loop-i : goal.invariant-share::copied_all-loop-i
invariant-share::copied_all-loop-i l =
    (l.copies.items ≡ take l.i (values_of l.children))
    × (l.pass.units + nodes_of_all (trees l.copies.items) ≡ l.initial.pass.units)
    × (l.pass.blocks ≡ l.initial.pass.blocks)
    × (l.pass.nodes ≡ l.initial.pass.nodes)
