use Rattle.std.proofs.Common.{◌+◌, ◌*◌, map}
use Rattle.tree_model.specs.promise.TreeData.{trees}
use Rattle.tree_model.specs.Tree.{Depth, depth_of_all}
use Rattle.data_types.specs.promise.TypedView.{typed_of}
use Rattle.value_text.proofs.bound.+bounds.Given as goal

abbrev pub decreases-bound_of : goal.decreases-bound_of
decreases-bound_of a = 2 * Depth (typed_of a.typed.now)

abbrev pub decreases-kids_bound : goal.decreases-kids_bound
decreases-kids_bound a = 2 * depth_of_all (trees (map typed_of a.kids.now)) + 1
