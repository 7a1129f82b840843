-- A chunk's rows as groups of the items of a column, and the lists that these are of another one.
use Rattle.std.specs.Prelude.{◌≡◌, ◌<◌, ◌≤◌, ◌+◌, ℕ, List, All, length, map, None}
use Rattle.col_build.specs.promise.Encoding.{narrow_limit}
use Rattle.data_types.specs.promise.Parts.{column_values}
use Rattle.data_types.specs.promise.Table.{Flat}
use Rattle.data_types.specs.promise.Value.{Value}
use Rattle.data_types.specs.declared.kind.DataType.{DataType}
use Rattle.tree_model.specs.promise.TreeParts.{child_at, children_of}
use Rattle.raw_array.specs.promise.Members.{ArrayTree, members_of}
use Rattle.data_types.specs.promise.ColumnKinds.{type_of_kind}
use Rattle.data_types.specs.promise.KindTrees.{KindTree}
use Rattle.layout_rules.specs.promise.Layout.{first}
use Rattle.layout_rules.specs.promise.Values.{rows_of, tree_items}
use Rattle.layout_rules.specs.promise.Walk.{ChunkOk, LayoutOk}
use Rattle.array_laws.specs.Items.{AreApart}
use Rattle.column_fill.specs.Gathered.{values_at}
use Rattle.column_fill.specs.declared.runs.Run.{Run}
use Rattle.data_types.specs.promise.Groups.{distinct}
use Rattle.data_types.specs.Groups.{offsets_of, order_of, places_of}
use Rattle.row_groups.specs.declared.groups.Groups.{Groups}
use Rattle.list_cols.specs.promise.Faults.{first_wrong}
use Rattle.list_cols.specs.Faults.{nests}

-- for each distinct value the items of an array that are where it is, counted from an item of the array on
abbrev pub grouped_lists : KindTree → ArrayTree → ℕ → List Value → List (List Value)
grouped_lists typed array start vs = map (λ key. values_at typed array start (places_of key vs)) (distinct vs)

-- the groups of these values
pub record AreGroups (groups : Groups) (vs : List Value) : Type 0 where
  pub firsts : length groups.firsts.items ≡ length (distinct vs)
  pub order : groups.order.items ≡ order_of vs
  pub offsets : groups.offsets.items ≡ offsets_of vs
  pub inside : All (λ i. i < length vs) groups.order.items
  pub apart : AreApart groups.order.items
  pub all : length groups.order.items ≡ length vs

-- a lawful array of a flat type that has an item for each of them
pub record HasItems (kind : DataType) (array : ArrayTree) (start : ℕ) (vs : List Value) : Type 0 where
  pub ok : LayoutOk (type_of_kind (Flat kind)) array
  pub long : start + length vs ≤ tree_items array

-- ---- an item alone

-- an item once
abbrev pub run_at : ℕ → ℕ → Run
run_at start i = record { item = start + i; times = 1 }

-- ---- of a chunk

-- the values by which its rows are grouped
abbrev pub row_keys : ℕ → KindTree → ArrayTree → List Value
row_keys column typed array = column_values column (rows_of typed array)

-- a lawful chunk of flat columns
pub record CanNest (column : ℕ) (typed : KindTree) (array : ArrayTree) : Type 0 where
  pub inside : column < length (children_of typed)
  pub fitting : first_wrong nests 0 (children_of typed) ≡ None
  pub chunk : ChunkOk typed array

-- these items of the column are the first of each distinct value
pub record AreFirsts (column : ℕ) (typed : KindTree) (array : ArrayTree) (firsts : List ℕ) : Type 0 where
  pub keys : values_at (child_at typed column) (child_at array column) (first (members_of array)) firsts ≡ distinct (row_keys column typed array)
  pub inside : All (λ i. i < tree_items array) firsts
  pub apart : AreApart firsts

-- the groups of its rows, by the items of the column
pub record AreRowGroups (column : ℕ) (typed : KindTree) (array : ArrayTree) (groups : Groups) : Type 0 where
  pub are : AreGroups groups (row_keys column typed array)
  pub firsts : AreFirsts column typed array groups.firsts.items
  pub few : tree_items array < narrow_limit
