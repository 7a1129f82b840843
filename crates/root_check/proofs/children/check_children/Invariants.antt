use Rattle.std.proofs.Common.{◌≡◌, map, drop}
use Rattle.tree_model.specs.promise.TreeParts.{children_of}
use Rattle.data_types.specs.promise.TypedView.{typed_of}
use Rattle.root_check.specs.promise.Children.{children_fault}
use Rattle.root_check.proofs.children.check_children.Given as goal

-- what is left has the same first fault
abbrev pub invariant-loop-i : goal.invariant-loop-i
invariant-loop-i l =
    children_fault (map typed_of l.kids) 0 (children_of l.array)
    ≡ children_fault (drop l.i (map typed_of l.kids)) l.i (drop l.i (children_of l.array))
