use Rattle.std.proofs.Common.{◌≤◌, take}
use Rattle.tree_model.specs.promise.TreeData.{trees}
use Rattle.tree_model.specs.Tree.{depth_of_all}
use Rattle.test_parts.proofs.arrays.are_flat.Given as goal

abbrev pub invariant-loop-child : goal.invariant-loop-child
invariant-loop-child l = depth_of_all (trees (take l.child-index l.children)) ≤ 9
