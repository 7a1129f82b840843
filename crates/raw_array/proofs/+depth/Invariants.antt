use Rattle.std.proofs.Common.{◌≡◌, ◌+◌, ◌*◌, ◌≤◌, take}
use Rattle.raw_place.specs.Kept.{values_of}
use Rattle.tree_model.specs.promise.TreeData.{trees}
use Rattle.tree_model.specs.Tree.{Depth, depth_of_all}
use Rattle.raw_array.proofs.+depth.Given as goal

abbrev pub decreases-array::RawArray::depth : goal.decreases-array::RawArray::depth
decreases-array::RawArray::depth a = 2 * Depth a.self.now

abbrev pub decreases-measures::deepest : goal.decreases-measures::deepest
decreases-measures::deepest a = 2 * depth_of_all (trees (values_of a.children.now)) + 1

abbrev pub invariant-measures::deepest-loop-i : goal.invariant-measures::deepest-loop-i
invariant-measures::deepest-loop-i l = (l.depth ≡ depth_of_all (trees (take l.i (values_of l.children)))) × (l.depth ≤ 128)
