-- The kinds of a schema that is in order, as a tree. No node of it is released.
use Rattle.std.specs.Prelude.{ℕ, ◌+◌}
use Rattle.data_types.specs.declared.kind.DataType.{DataType}
use Rattle.data_types.specs.declared.kind.DataType.TheVariants as kinds
use Rattle.tree_model.specs.promise.TreeData.{Tree, Trees, no_trees, more_trees}
use Rattle.tree_model.specs.promise.TreeParts.{members_or}

abbrev pub KindTree : Type 0
KindTree = Tree DataType

-- the type at the root, and Null where there is none
abbrev pub kind_in : KindTree → DataType
kind_in typed = members_or kinds.Null typed

abbrev pub tree_count : {A : Type 0} → Trees A → ℕ
tree_count no_trees = 0
tree_count (more_trees t ts) = tree_count ts + 1

-- the most levels of a tree of kinds
abbrev pub most_levels : ℕ
most_levels = 64
