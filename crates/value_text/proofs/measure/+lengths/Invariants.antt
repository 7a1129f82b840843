use Rattle.std.proofs.Common.{◌+◌, ◌*◌, map}
use Rattle.tree_model.specs.promise.TreeData.{trees}
use Rattle.tree_model.specs.Tree.{Depth, depth_of_all}
use Rattle.data_types.specs.promise.TypedView.{typed_of}
use Rattle.value_text.specs.Lengths.{TellsKids}
use Rattle.value_text.proofs.measure.+lengths.Given as goal

abbrev pub decreases-lengths_of : goal.decreases-lengths_of
decreases-lengths_of a = 2 * Depth (typed_of a.typed.now)

abbrev pub decreases-kid_lengths : goal.decreases-kid_lengths
decreases-kid_lengths a = 2 * depth_of_all (trees (map typed_of a.kids.now)) + 1

-- the children so far
abbrev pub invariant-kid_lengths-loop-k : goal.invariant-kid_lengths-loop-k
invariant-kid_lengths-loop-k l = TellsKids l.lengths.items (map typed_of l.kids) l.array l.k
