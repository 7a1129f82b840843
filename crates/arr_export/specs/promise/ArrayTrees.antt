-- Columns and tables as array trees ("The Arrow C Data Interface", "The ArrowArray structure"; "Arrow Columnar Format",
-- "Dictionary-encoded Layout" and "Struct Layout").
use Rattle.std.specs.Prelude.{ℕ, pos, List, [], ◌∷◌, Option, None, Some}
use Rattle.data_types.specs.declared.kind.DataType.{DataType}
use Rattle.data_types.specs.promise.Value.{Value}
use Rattle.tree_model.specs.promise.TreeData.{Live, no_trees, trees, absent, maybe_tree}
use Rattle.raw_array.specs.promise.Members.{Buffer, ArrayMembers, ArrayTree, whole}
use Rattle.raw_array.specs.declared.array.ReleaseKind.TheVariants.{Exported, Assembled}
use Rattle.col_build.specs.promise.Encoding.{encoded}

-- ---- a column

-- a buffer that is the whole of a new block
abbrev pub made : List ℕ → Buffer
made bytes = record { bytes = bytes; amount = whole }

abbrev pub made_if : Option (List ℕ) → Option Buffer
made_if None = None
made_if (Some bytes) = Some (made bytes)

abbrev pub made_buffers : List (Option (List ℕ)) → List (Option Buffer)
made_buffers [] = []
made_buffers (bytes ∷ buffers) = made_if bytes ∷ made_buffers buffers

-- the encoding of the values, from its first item on
abbrev pub column_members : DataType → List Value → ArrayMembers
column_members kind values = record {
  length = pos (encoded kind values).length;
  null_count = pos (encoded kind values).null_count;
  offset = pos 0;
  buffers = made_buffers (encoded kind values).buffers;
  kind = Exported;
}

abbrev pub column_tree : DataType → List Value → Option ArrayTree → ArrayTree
column_tree kind values dictionary = Live (column_members kind values) no_trees (maybe_tree dictionary)

-- ---- a table

-- a struct with as many items as there are rows, none of them null
abbrev pub table_tree : ℕ → List ArrayTree → ArrayTree
table_tree rows columns =
    Live (record { length = pos rows; null_count = pos 0; offset = pos 0; buffers = None ∷ []; kind = Assembled }) (trees columns) absent
