use Rattle.std.proofs.Common.{◌+◌, ◌*◌, ◌-◌, map, take}
use Rattle.tree_model.specs.promise.TreeParts.{children_of}
use Rattle.tree_model.specs.promise.TreeData.{trees}
use Rattle.data_types.specs.promise.TypedView.{typed_of}
use Rattle.schema_check.specs.promise.Schemas.{KidsTyped}
use Rattle.schema_check.proofs.schema.+typed.Given as goal

abbrev pub decreases-typed_from : goal.decreases-typed_from
decreases-typed_from a = 2 * (64 - a.path.now.depth) + 1

abbrev pub decreases-typed_kids : goal.decreases-typed_kids
decreases-typed_kids a = 2 * (64 - a.path.now.depth)

abbrev pub decreases-typed_dictionary : goal.decreases-typed_dictionary
decreases-typed_dictionary a = 2 * (64 - a.path.now.depth)

-- the children so far have these kinds
abbrev pub invariant-typed_kids-loop-i : goal.invariant-typed_kids-loop-i
invariant-typed_kids-loop-i l = KidsTyped (l.path.depth + 1 + 1) (trees (take l.i (children_of l.schema))) (trees (map typed_of l.kids.items))
