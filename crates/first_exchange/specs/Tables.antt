-- The tables that the consumer takes.
use Rattle.std.specs.Prelude.{◌≡◌, length}
use Rattle.tree_model.specs.promise.TreeParts.{children_of}
use Rattle.data_types.specs.promise.KindTrees.{KindTree}
use Rattle.arr_import.specs.Window.{IsStruct}

-- a struct of two columns, whatever their types
pub record IsOfTwo (typed : KindTree) : Type 0 where
  pub is_struct : IsStruct typed
  pub two : length (children_of typed) ≡ 2
