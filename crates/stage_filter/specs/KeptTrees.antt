-- The arrays that are made of some items of an array, by numbers that are counted from an item of its window on: a struct is one
-- of arrays of its columns ("Arrow Columnar Format", "Struct Layout" and "Dictionary-encoded Layout").
use Rattle.std.specs.Prelude.{ℕ, ◌+◌, true, List, [], ◌∷◌, length, get_or, drop, None, Some}
use Rattle.data_types.specs.promise.Table.{Column, Kind, Flat, Dict, Columns, Members, no_members, more_members}
use Rattle.data_types.specs.promise.Value.{Value}
use Rattle.data_types.specs.declared.kind.DataType.{DataType}
use Rattle.data_types.specs.declared.kind.DataType.TheVariants as kinds
use Rattle.tree_model.specs.promise.TreeData.{Released}
use Rattle.tree_model.specs.promise.TreeParts.{children_of}
use Rattle.tree_model.specs.Tree.{dictionary_at}
use Rattle.raw_array.specs.promise.Members.{ArrayTree, members_of}
use Rattle.data_types.specs.promise.ColumnKinds.{type_of_kind}
use Rattle.layout_rules.specs.promise.Layout.{first}
use Rattle.arr_export.specs.promise.ArrayTrees.{column_tree, table_tree}
use Rattle.arr_export.specs.ArrayTrees.{flat_type}
use Rattle.column_fill.specs.Gathered.{values_at}

-- indices are signed numbers of 32 bits
abbrev pub index_type : DataType
index_type = kinds.Int 32 true

-- the indices of these items into the array's dictionary: what the array has where it is read as numbers alone
abbrev pub indices_at : ArrayTree → ℕ → List ℕ → List Value
indices_at array start kept = values_at (flat_type index_type None) array start kept

abbrev mutual
  -- the array of these items; one with a dictionary has their indices, and the array's own dictionary
  pub kept_tree : Kind → ArrayTree → ℕ → List ℕ → ArrayTree
  kept_tree (Flat kind) array start kept = column_tree kind (values_at (type_of_kind (Flat kind)) array start kept) None
  kept_tree (Dict kind) array start kept = column_tree index_type (indices_at array start kept) (Some (dictionary_at array))
  kept_tree (Columns members) array start kept =
      table_tree (length kept) (kept_members members (children_of array) (first (members_of array) + start) kept)

  pub kept_members : Members → List ArrayTree → ℕ → List ℕ → List ArrayTree
  kept_members no_members children start kept = []
  kept_members (more_members name kind rest) children start kept =
      kept_tree kind (get_or children 0 Released) start kept ∷ kept_members rest (drop 1 children) start kept

abbrev pub kept_columns : List Column → List ArrayTree → ℕ → List ℕ → List ArrayTree
kept_columns [] children start kept = []
kept_columns (c ∷ cs) children start kept = kept_tree c.kind (get_or children 0 Released) start kept ∷ kept_columns cs (drop 1 children) start kept

-- the struct of these items of a struct of columns
abbrev pub kept_struct : List Column → ArrayTree → ℕ → List ℕ → ArrayTree
kept_struct columns array start kept = table_tree (length kept) (kept_columns columns (children_of array) (first (members_of array) + start) kept)

-- the chunk of the rows of these numbers
abbrev pub kept_chunk : List Column → ArrayTree → List ℕ → ArrayTree
kept_chunk columns chunk kept = kept_struct columns chunk 0 kept
