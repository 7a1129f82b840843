-- The columns of a chunk as the children of a union ("Arrow Columnar Format", "Union Layout"): an item of the union is that of the
-- first column that isn't null there.
use Rattle.std.specs.Prelude.{ℕ, ◌==◌, ◌^◌, ◌-◌, pos, Bool, not, ◌&&◌, ◌||◌, nat_lt, if◌then◌else◌, List, map, get_or, position}
use Rattle.std.specs.Prelude.{Option, Some, None}
use Rattle.data_types.specs.promise.Table.{Row}
use Rattle.data_types.specs.promise.Value.{Null, is_null}
use Rattle.tree_model.specs.promise.TreeData.{trees}
use Rattle.raw_array.specs.promise.Members.{ArrayTree}
use Rattle.layout_rules.specs.promise.Values.{each, tree_items}
use Rattle.union_cols.specs.declared.tag_fault.TagFault.{TagFault}
use Rattle.union_cols.specs.declared.tag_fault.TagFault.TheVariants.{Columns, TooLong}
use Rattle.union_cols.specs.promise.Unions.{UnionItem, or_zero}

-- ---- the items

-- the number of the column that an item comes from: of the row's first value that isn't null, and 0 where all are null
abbrev pub tag_of : Row → ℕ
tag_of row = or_zero (position (λ value. not (is_null value)) row)

abbrev pub tagged_item : Row → UnionItem
tagged_item row = record { id = pos (tag_of row); value = get_or row (tag_of row) Null }

-- of each row an item: the number of its first column that isn't null, and the value there
abbrev pub tagged_items : List Row → List UnionItem
tagged_items rows = map tagged_item rows

-- ---- the trees

-- how many blocks they make: one of the ids and one of the offsets, and none for no rows
abbrev pub tag_blocks : Bool → ArrayTree → ℕ
tag_blocks dense array = if tree_items array == 0 then 0 else if dense then 2 else 1

-- ---- the fault

-- an id is a byte with a sign, an offset of a dense union has four
abbrev pub most_columns : ℕ
most_columns = 128

abbrev pub most_dense_rows : ℕ
most_dense_rows = 2 ^ 31 - 1

-- Why this many columns with this many rows make no union: there are none or too many, or there are more rows than offsets.
abbrev pub tag_fault : Bool → ℕ → ℕ → Option TagFault
tag_fault dense columns rows =
    if (columns == 0) || nat_lt most_columns columns then Some (Columns columns)
    else if dense && nat_lt most_dense_rows rows then Some TooLong
    else None
