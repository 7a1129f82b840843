use Rattle.std.proofs.Common.{◌≡◌, ◌+◌, ◌*◌, ◌++◌, map}
use Rattle.tree_model.specs.promise.TreeData.{trees, maybe_tree}
use Rattle.tree_model.specs.Tree.{Depth, depth_of_all, depth_of_maybe}
use Rattle.data_types.specs.promise.TypedView.{typed_of}
use Rattle.data_types.specs.TypedView.{dict_in}
use Rattle.data_types.specs.promise.Ways.{steps_of}
use Rattle.tree_text.specs.Report.{visits_text}
use Rattle.tree_text.specs.Below.{children_visits}
use Rattle.tree_text.proofs.report_tree.+report.Given as goal

abbrev pub decreases-push_tree : goal.decreases-push_tree
decreases-push_tree a = 2 * Depth (typed_of a.typed.now)

abbrev pub decreases-push_children : goal.decreases-push_children
decreases-push_children a = 2 * depth_of_all (trees (map typed_of a.kids.now)) + 1

abbrev pub decreases-push_dictionary : goal.decreases-push_dictionary
decreases-push_dictionary a = 2 * depth_of_maybe (maybe_tree (dict_in a.dict.now)) + 1

-- what is written and what is left are the lines of all children
abbrev pub invariant-push_children-loop-i : goal.invariant-push_children-loop-i
invariant-push_children-loop-i l =
    l.text.items ++ visits_text (children_visits l.kids l.i (steps_of l.path) l.array)
    ≡ l.initial.text.items ++ visits_text (children_visits l.kids 0 (steps_of l.path) l.array)
