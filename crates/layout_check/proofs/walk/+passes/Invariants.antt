use Rattle.std.proofs.Common.{◌≡◌, ◌+◌, ◌*◌, map, drop}
use Rattle.std.specs.Prelude.{is_none}
use Rattle.tree_model.specs.promise.TreeParts.{children_of}
use Rattle.tree_model.specs.promise.TreeData.{trees, maybe_tree}
use Rattle.tree_model.specs.Tree.{Depth, depth_of_all, depth_of_maybe}
use Rattle.data_types.specs.promise.TypedView.{typed_of}
use Rattle.data_types.specs.TypedView.{dict_in}
use Rattle.data_types.specs.promise.Ways.{Steps}
use Rattle.layout_rules.specs.Walk.{children_fault}
use Rattle.layout_check.proofs.walk.+passes.Given as goal

abbrev pub decreases-passes : goal.decreases-passes
decreases-passes a = 2 * Depth (typed_of a.typed.now)

abbrev pub decreases-children_pass : goal.decreases-children_pass
decreases-children_pass a = 2 * depth_of_all (trees (map typed_of a.kids.now)) + 1

abbrev pub decreases-dictionary_passes : goal.decreases-dictionary_passes
decreases-dictionary_passes a = 2 * depth_of_maybe (maybe_tree (dict_in a.dict.now)) + 1

-- what is left of the walk passes exactly where the whole does
abbrev pub invariant-children_pass-loop-i : goal.invariant-children_pass-loop-i
invariant-children_pass-loop-i l = (path : Steps)
    → is_none (children_fault (map typed_of l.kids) 0 path (children_of l.array))
    ≡ is_none (children_fault (drop l.i (map typed_of l.kids)) l.i path (drop l.i (children_of l.array)))
