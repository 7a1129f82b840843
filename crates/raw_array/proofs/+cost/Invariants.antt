use Rattle.std.proofs.Common.{◌≡◌, ◌+◌, ◌-◌, ◌*◌, ◌^◌, take, min}
use Rattle.raw_place.specs.Kept.{values_of}
use Rattle.tree_model.specs.promise.TreeData.{trees}
use Rattle.tree_model.specs.Tree.{Depth, depth_of_all}
use Rattle.raw_array.specs.Members.{cost_of_all}
use Rattle.raw_array.proofs.+cost.Given as goal

abbrev pub decreases-array::RawArray::cost : goal.decreases-array::RawArray::cost
decreases-array::RawArray::cost a = 2 * Depth a.self.now

abbrev pub decreases-measures::costs : goal.decreases-measures::costs
decreases-measures::costs a = 2 * depth_of_all (trees (values_of a.children.now)) + 1

abbrev pub invariant-measures::costs-loop-i : goal.invariant-measures::costs-loop-i
invariant-measures::costs-loop-i l = l.cost ≡ min (cost_of_all (trees (take l.i (values_of l.children)))) (2 ^ 64 - 1)
