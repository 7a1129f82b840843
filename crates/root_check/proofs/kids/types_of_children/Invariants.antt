use Rattle.std.proofs.Common.{map, take, All}
use Rattle.std.specs.List.{AllZip}
use Rattle.tree_model.specs.promise.TreeParts.{children_of}
use Rattle.data_types.specs.KindTrees.{TypedOk}
use Rattle.data_types.specs.promise.TypedView.{typed_of}
use Rattle.schema_check.specs.promise.Schemas.{TypedOf}
use Rattle.root_check.proofs.kids.types_of_children.Given as goal

-- the children so far have these kinds
abbrev pub invariant-loop-i : goal.invariant-loop-i
invariant-loop-i l = AllZip TypedOf (take l.i (children_of l.schema)) (map typed_of l.kids.items) × All TypedOk (map typed_of l.kids.items)
