use Rattle.std.proofs.Common.{◌≡◌, ◌+◌, ◌*◌, map, take}
use Rattle.tree_model.specs.promise.TreeData.{trees}
use Rattle.tree_model.specs.Tree.{Depth, depth_of_all}
use Rattle.data_types.specs.promise.TypedView.{typed_of}
use Rattle.pipe_top.proofs.kept_kinds.+kinds.Given as goal

abbrev pub decreases-kept_kinds : goal.decreases-kept_kinds
decreases-kept_kinds a = 2 * Depth (typed_of a.typed.now) + 1

abbrev pub decreases-kept_kids : goal.decreases-kept_kids
decreases-kept_kids a = 2 * depth_of_all (trees (map typed_of a.kids.now)) + 2

-- the kinds of the kids so far
abbrev pub invariant-kept_kids-loop-kid : goal.invariant-kept_kids-loop-kid
invariant-kept_kids-loop-kid l = map typed_of l.copies.items ≡ map typed_of (take l.kid-index l.kids)
