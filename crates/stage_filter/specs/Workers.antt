-- The rows of a chunk that pass a test, by their numbers, as workers find them piece by piece.
use Rattle.std.specs.Prelude.{◌≡◌, ℕ, ◌-◌, ◌<◌, ◌≤◌, ◌^◌, List, [], length, get_or, Vec}
use Rattle.std.specs.Global.{Global}
use Rattle.std.specs.List.{filter}
use Rattle.data_types.specs.promise.Table.{Row}
use Rattle.data_types.specs.promise.Value.{Null}
use Rattle.tree_model.specs.promise.TreeParts.{children_of}
use Rattle.data_types.specs.promise.KindTrees.{KindTree}
use Rattle.layout_rules.specs.promise.Layout.{natural}
use Rattle.arr_import.specs.Window.{IsStruct}
use Rattle.fan_out.specs.Pieces.{GivesPieces}
use Rattle.stage_model.specs.promise.Stages.{passes}
use Rattle.stage_model.specs.declared.stage.Const.{Const}
use Rattle.stage_model.specs.declared.stage.Test.{Test}
use Rattle.stage_filter.specs.Kept.{numbers}

-- of this many rows from one on, the numbers of those whose item in a column passes
abbrev pub row_numbers : ℕ → Test → Const → List Row → ℕ → ℕ → List ℕ
row_numbers column test constant rows from count = filter (λ i. passes test constant (get_or (get_or rows i []) column Null)) (numbers from count)

-- rows of these kinds, with the column
pub record HaveColumn (column : ℕ) (typed : KindTree) (rows : List Row) : Type 0 where
  pub struct : IsStruct typed
  pub within : column < length (children_of typed)
  pub few : length rows ≤ 2 ^ 30

-- what was found in each piece of the rows, of as many as there are workers, in order
abbrev pub AreFound : ℕ → Test → Const → List Row → ℕ → List (Vec ℕ Global) → Type 0
AreFound column test constant rows workers found =
    GivesPieces (λ from to kept. kept.items ≡ row_numbers column test constant rows (natural from) (natural to - natural from)) (length rows) workers found
