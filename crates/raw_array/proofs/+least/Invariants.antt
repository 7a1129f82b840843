use Rattle.std.proofs.Common.{◌≡◌, ◌+◌, ◌*◌, ◌≤◌, take}
use Rattle.raw_place.specs.Kept.{values_of}
use Rattle.tree_model.specs.promise.TreeData.{trees}
use Rattle.tree_model.specs.Tree.{Depth, depth_of_all}
use Rattle.raw_array.specs.promise.Members.{whole}
use Rattle.raw_array.specs.Members.{least_of_all}
use Rattle.raw_array.proofs.+least.Given as goal

abbrev pub decreases-array::RawArray::least_amount : goal.decreases-array::RawArray::least_amount
decreases-array::RawArray::least_amount a = 2 * Depth a.self.now

abbrev pub decreases-measures::least_below : goal.decreases-measures::least_below
decreases-measures::least_below a = 2 * depth_of_all (trees (values_of a.children.now)) + 1

abbrev pub invariant-measures::least_below-loop-i : goal.invariant-measures::least_below-loop-i
invariant-measures::least_below-loop-i l = (l.least ≡ least_of_all (trees (take l.i (values_of l.children)))) × (l.least ≤ whole)
