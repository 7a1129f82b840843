-- One level of the kinds that the code keeps: the node's own, its children's and its dictionary's.
use Rattle.std.specs.Prelude.{List, map, Option, None, Some}
use Rattle.std.specs.Global.{Box}
use Rattle.data_types.specs.declared.kind.DataType.{DataType}
use Rattle.data_types.specs.promise.KindTrees.{KindTree}
use Rattle.data_types.specs.declared.typed.Typed.{Typed, out-Typed}
use Rattle.data_types.specs.promise.TypedView.{typed_of, dict_of}
use Rattle.tree_model.specs.promise.TreeData.{Live, trees, maybe_tree}
use Rattle.data_types.specs.declared.typed.Typed.TheOpen.{Typed-F}

-- ---- one level of the code's tree

abbrev pub kind_of : Typed → DataType
kind_of t = (out-Typed t).kind

abbrev pub kids_of : Typed → List KindTree
kids_of t = map typed_of (out-Typed t).kids.items

abbrev pub dict_in : Option (Box Typed) → Option KindTree
dict_in None = None
dict_in (Some dict) = Some (typed_of dict.value)

abbrev pub layer : Typed-F KindTree → KindTree
layer t = Live t.kind (trees t.kids.items) (maybe_tree (dict_of t.dict))
