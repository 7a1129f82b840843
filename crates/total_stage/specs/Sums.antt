-- The totals of picked columns, in the making.
use Rattle.std.specs.Prelude.{◌≡◌, ◌⊎◌, ℕ, ◌-◌, ◌<◌, ◌≤◌, ◌^◌, List, [], length, get_or, take, drop, Vec}
use Rattle.std.specs.Global.{Global}
use Rattle.data_types.specs.promise.Table.{Row}
use Rattle.data_types.specs.promise.Value.{Null}
use Rattle.tree_model.specs.promise.TreeParts.{children_of}
use Rattle.raw_array.specs.promise.Members.{ArrayTree}
use Rattle.data_types.specs.promise.KindTrees.{KindTree}
use Rattle.data_types.specs.KindTrees.{TypedOk}
use Rattle.layout_rules.specs.promise.Layout.{natural}
use Rattle.layout_rules.specs.promise.Values.{rows_of}
use Rattle.layout_rules.specs.promise.Walk.{ChunkOk}
use Rattle.arr_import.specs.Window.{IsStruct}
use Rattle.fan_out.specs.Pieces.{GivesPieces}
use Rattle.stage_model.specs.Stages.{numbers_at}
use Rattle.total_stage.specs.Totals.{AreTotals, IsSmallItem}
use Rattle.total_stage.specs.declared.numbers.Totals.{Totals}

-- the totals of each picked column of these rows
pub record AreSums (sums : List Totals) (picks : List ℕ) (rows : List Row) : Type 0 where
  pub count : length sums ≡ length picks
  pub each : (k : ℕ) (none : Totals) → k < length picks → AreTotals (get_or sums k none) (numbers_at (get_or picks k 0) rows)

-- the same, or nothing yet of no rows
abbrev pub HaveBegun : List Totals → List ℕ → List Row → Type 0
HaveBegun sums picks rows = ((sums ≡ []) × (rows ≡ [])) ⊎ AreSums sums picks rows

-- rows of these kinds, with the picked columns, whose numbers are small
pub record CanSum (picks : List ℕ) (typed : KindTree) (rows : List Row) : Type 0 where
  pub struct : IsStruct typed
  pub within : (k : ℕ) → k < length picks → get_or picks k 0 < length (children_of typed)
  pub small : (k i : ℕ) → k < length picks → i < length rows → IsSmallItem (get_or (get_or rows i []) (get_or picks k 0) Null)
  pub few : length rows ≤ 2 ^ 30

-- a chunk of such rows
pub record CanAdd (picks : List ℕ) (typed : KindTree) (chunk : ArrayTree) : Type 0 where
  pub types : TypedOk typed
  pub ok : ChunkOk typed chunk
  pub sum : CanSum picks typed (rows_of typed chunk)

-- the rows from one number up to another and without it
abbrev pub rows_between : ℕ → ℕ → List Row → List Row
rows_between from to rows = take (to - from) (drop from rows)

-- the totals of each piece of the rows, of as many as there are workers, in order
abbrev pub AreParts : List ℕ → List Row → ℕ → List (Vec Totals Global) → Type 0
AreParts picks rows workers parts =
    GivesPieces (λ from to sums. AreSums sums.items picks (rows_between (natural from) (natural to) rows)) (length rows) workers parts
