use Rattle.std.proofs.Common.{◌≡◌, ◌+◌, ◌*◌, ◌-◌, ◌≤◌, map, take, get_or, length, vec_len, vec_capacity}
use Rattle.raw_place.specs.Kept.{values_of, value_if}
use Rattle.tree_model.specs.promise.TreeData.{Released, trees, maybe_tree}
use Rattle.tree_model.specs.Tree.{Depth, depth_of_all, depth_of_maybe, map_tree}
use Rattle.tree_model.proofs.SoFar.{so_far}
use Rattle.raw_array.specs.Members.{cost_of_all, shared_members, lowered_members}
use Rattle.raw_array.specs.View.{tree_of_node}
use Rattle.raw_array.proofs.+shared.Given as goal

abbrev pub decreases-array::RawArray::shared : goal.decreases-array::RawArray::shared
decreases-array::RawArray::shared a = 4 * Depth a.self.now

abbrev pub decreases-share::shared_node : goal.decreases-share::shared_node
decreases-share::shared_node a = 4 * Depth (tree_of_node a.node.now) - 1

abbrev pub decreases-share::shared_behind : goal.decreases-share::shared_behind
decreases-share::shared_behind a = 4 * depth_of_maybe (maybe_tree (value_if a.tree.now)) + 1

abbrev pub decreases-share::shared_all : goal.decreases-share::shared_all
decreases-share::shared_all a = 4 * depth_of_all (trees (values_of a.children.now)) + 2

abbrev pub decreases-share::shared_child : goal.decreases-share::shared_child
decreases-share::shared_child a = 4 * Depth (get_or (values_of a.children.now) a.i Released) + 1

-- the first i children are shared, and lowered where they were; their units are out
abbrev pub invariant-share::shared_all-loop-i : goal.invariant-share::shared_all-loop-i
invariant-share::shared_all-loop-i l =
    (values_of l.children ≡ so_far (map_tree lowered_members) l.i (values_of l.initial.children))
    × (l.copies.items ≡ map (map_tree shared_members) (take l.i (values_of l.initial.children)))
    × (l.pass.units + cost_of_all (trees l.copies.items) ≡ l.initial.pass.units)
    × (l.pass.blocks ≡ l.initial.pass.blocks)
    × (l.pass.nodes ≡ l.initial.pass.nodes)
    × (vec_len l.copies ≡ l.i)
    × (length (values_of l.initial.children) ≤ vec_capacity l.copies)
