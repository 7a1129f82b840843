use Rattle.std.proofs.Common.{◌≡◌, ◌+◌, ◌*◌, ◌++◌, take}
use Rattle.tree_model.specs.promise.TreeData.{trees}
use Rattle.tree_model.specs.promise.TreeParts.{children_of}
use Rattle.tree_model.specs.Tree.{Depth}
use Rattle.stream_face.specs.promise.Shown.{names_of_all}
use Rattle.pipe_top.proofs.kept_names.+names.Given as goal

abbrev pub decreases-add_names : goal.decreases-add_names
decreases-add_names a = 2 * Depth a.schema.now + 1

abbrev pub decreases-add_child_names : goal.decreases-add_child_names
decreases-add_child_names a = 2 * Depth a.schema.now

-- the names of the children so far
abbrev pub invariant-add_child_names-loop-i : goal.invariant-add_child_names-loop-i
invariant-add_child_names-loop-i l = l.names.items ≡ l.initial.names.items ++ names_of_all (trees (take l.i (children_of l.schema)))
