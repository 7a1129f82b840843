use Rattle.std.proofs.Common.{◌≡◌, ◌+◌, ◌-◌, ◌*◌, ◌^◌, take, min}
use Rattle.raw_place.specs.Kept.{values_of}
use Rattle.tree_model.specs.promise.TreeData.{trees}
use Rattle.tree_model.specs.Tree.{Depth, depth_of_all}
use Rattle.raw_schema.specs.Members.{nodes_of_all}
use Rattle.raw_schema.proofs.+cost.Given as goal

abbrev pub decreases-schema::RawSchema::cost : goal.decreases-schema::RawSchema::cost
decreases-schema::RawSchema::cost a = 2 * Depth a.self.now

abbrev pub decreases-measures::cost_of_all : goal.decreases-measures::cost_of_all
decreases-measures::cost_of_all a = 2 * depth_of_all (trees (values_of a.children.now)) + 1

abbrev pub invariant-measures::cost_of_all-loop-i : goal.invariant-measures::cost_of_all-loop-i
invariant-measures::cost_of_all-loop-i l = l.cost ≡ min (nodes_of_all (trees (take l.i (values_of l.children)))) (2 ^ 64 - 1)
