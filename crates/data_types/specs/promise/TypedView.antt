-- The kinds that the code keeps, as a tree.
use Rattle.std.specs.Prelude.{Option, None, Some}
use Rattle.std.specs.Global.{Box}
use Rattle.tree_model.specs.promise.TreeData.{Live, trees, maybe_tree}
use Rattle.data_types.specs.promise.KindTrees.{KindTree}
use Rattle.data_types.specs.declared.typed.Typed.{Typed}
use Rattle.data_types.specs.declared.typed.Typed.TheFolds.{fold-Typed}

abbrev pub dict_of : Option (Box KindTree) → Option KindTree
dict_of None = None
dict_of (Some dict) = Some dict.value

abbrev pub typed_of : Typed → KindTree
typed_of = fold-Typed KindTree (λ t. Live t.kind (trees t.kids.items) (maybe_tree (dict_of t.dict)))
