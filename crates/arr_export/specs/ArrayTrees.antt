-- The type of a column, what indices into a dictionary are, which columns a table may have, and their rows.
use Rattle.std.specs.Prelude.{◌≡◌, ◌≤◌, ◌<◌, ℕ, pos, List, [], ◌∷◌, map, get_or, Option, None, Some, All}
use Rattle.data_types.specs.declared.kind.DataType.{DataType}
use Rattle.data_types.specs.declared.kind.DataType.TheVariants as kinds
use Rattle.data_types.specs.promise.Table.{Row}
use Rattle.data_types.specs.promise.Value.{Value, Null, Whole}
use Rattle.tree_model.specs.promise.TreeData.{Live, no_trees, maybe_tree}
use Rattle.tree_model.specs.promise.TreeParts.{IsLive}
use Rattle.tree_model.specs.Tree.{Depth}
use Rattle.raw_array.specs.promise.Members.{ArrayTree, ArrayMembers}
use Rattle.col_build.specs.Encoding.{Fits}
use Rattle.col_build.specs.Finished.{IsEncoded}
use Rattle.col_build.specs.declared.column.FinishedColumn.{FinishedColumn}
use Rattle.data_types.specs.promise.KindTrees.{KindTree}
use Rattle.layout_rules.specs.promise.Values.{each, field_items, tree_items, value_at, values_of}
use Rattle.layout_rules.specs.promise.Walk.{LayoutOk}
use Rattle.raw_array.specs.declared.array.ReleaseKind.TheVariants.{Assembled}

-- ---- a column

-- the type of a column
abbrev pub flat_type : DataType → Option KindTree → KindTree
flat_type kind dictionary = Live kind no_trees (maybe_tree dictionary)

-- ---- indices into a dictionary

abbrev pub IsIndexKind : DataType → Type 0
IsIndexKind (kinds.Int bits signed) = Unit {0}
IsIndexKind _ = ⊥

-- null, or one of this many places
abbrev pub IsPlaceOf : ℕ → Value → Type 0
IsPlaceOf total Null = Unit {0}
IsPlaceOf total (Whole (pos place)) = place < total
IsPlaceOf total _ = ⊥

-- the values are indices into the dictionary
pub record AreIndices (kind : DataType) (values : List Value) (dictionary : ArrayTree) : Type 0 where
  pub kind_ok : IsIndexKind kind
  pub live : IsLive dictionary
  pub not_deep : Depth dictionary ≤ 127
  pub places : All (IsPlaceOf (tree_items dictionary)) values

abbrev pub AreIndicesIf : DataType → List Value → Option ArrayTree → Type 0
AreIndicesIf kind values None = Unit {0}
AreIndicesIf kind values (Some dictionary) = AreIndices kind values dictionary

-- the finished column has these values, which are indices where there is a dictionary
pub record HasValues (column : FinishedColumn) (dictionary : Option ArrayTree) (kind : DataType) (values : List Value) : Type 0 where
  pub is_encoded : IsEncoded column kind values
  pub fits : Fits kind values
  pub indices : AreIndicesIf kind values dictionary

-- null, or what a dictionary of these values has at an index
abbrev pub looked_up : List Value → Value → Value
looked_up entries (Whole (pos place)) = get_or entries place Null
looked_up entries _ = Null

-- ---- a table

-- a column that a table of this many rows may have
pub record IsColumn (rows : ℕ) (column : ArrayTree) : Type 0 where
  pub live : IsLive column
  pub not_deep : Depth column ≤ 127
  pub long : rows ≤ tree_items column

-- there is a lawful column for each type, and no type is released
abbrev pub AreLawful : List KindTree → List ArrayTree → Type 0
AreLawful [] [] = Unit {0}
AreLawful (type ∷ types) (column ∷ columns) = IsLive type × LayoutOk type column × AreLawful types columns
AreLawful _ _ = ⊥

-- the columns have these values
abbrev pub HaveValues : List KindTree → List ArrayTree → List (List Value) → Type 0
HaveValues [] [] [] = Unit {0}
HaveValues (type ∷ types) (column ∷ columns) (values ∷ others) = (values_of type column ≡ values) × HaveValues types columns others
HaveValues _ _ _ = ⊥

-- the first rows of columns: row i is item i of each column
abbrev pub rows_of_columns : List KindTree → List ArrayTree → ℕ → List Row
rows_of_columns types columns rows = each (field_items (map value_at types) columns) 0 rows

-- the same by the columns' values
abbrev pub rows_of_values : List (List Value) → ℕ → List Row
rows_of_values columns rows = each (λ i. map (λ values. get_or values i Null) columns) 0 rows

-- a struct with as many items as there are rows, none of them null
abbrev pub table_members : ℕ → ArrayMembers
table_members rows = record { length = pos rows; null_count = pos 0; offset = pos 0; buffers = None ∷ []; kind = Assembled }
