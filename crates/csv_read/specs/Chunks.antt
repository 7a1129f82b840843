-- The chunk of rows: a struct with a column for each column of the table ("Arrow Columnar Format", "Struct Layout").
use Rattle.std.specs.Prelude.{◌≡◌, ℕ, ◌+◌, List, [], ◌∷◌, length, None}
use Rattle.std.specs.List.{AllZip, sum_by}
use Rattle.data_types.specs.promise.Table.{Column, Row, Kind, Flat}
use Rattle.data_types.specs.promise.Value.{Value}
use Rattle.tree_model.specs.promise.TreeData.{Released}
use Rattle.data_types.specs.declared.kind.DataType.{DataType}
use Rattle.raw_array.specs.promise.Members.{ArrayTree, holds, members_of}
use Rattle.col_build.specs.Encoding.{Fits}
use Rattle.col_build.specs.promise.Finished.{blocks_of}
use Rattle.col_build.specs.Holding.{Holds}
use Rattle.col_build.specs.declared.builder.Builder.{Builder}
use Rattle.arr_export.specs.promise.ArrayTrees.{column_tree, table_tree}
use Rattle.csv_read.specs.Body.{column_values}

-- the array of a column of plain values
abbrev pub column_array : Kind → List Value → ArrayTree
column_array (Flat kind) values = column_tree kind values None
column_array _ values = Released

abbrev pub column_arrays : ℕ → List Column → List Row → List ArrayTree
column_arrays place [] rows = []
column_arrays place (c ∷ cs) rows = column_array c.kind (column_values place rows) ∷ column_arrays (place + 1) cs rows

abbrev pub chunk_of : List Column → List Row → ArrayTree
chunk_of columns rows = table_tree (length rows) (column_arrays 0 columns rows)

-- ---- how many blocks a chunk is made of

abbrev pub column_blocks : Kind → List Value → ℕ
column_blocks (Flat kind) values = blocks_of kind values
column_blocks _ values = 0

abbrev pub blocks_from : ℕ → List Column → List Row → ℕ
blocks_from place [] rows = 0
blocks_from place (c ∷ cs) rows = column_blocks c.kind (column_values place rows) + blocks_from (place + 1) cs rows

abbrev pub chunk_blocks : List Column → List Row → ℕ
chunk_blocks columns rows = blocks_from 0 columns rows

-- ---- the columns have an encoding

abbrev pub FitsKind : Kind → List Value → Type 0
FitsKind (Flat kind) values = Fits kind values
FitsKind _ values = ⊥

abbrev pub FitFrom : ℕ → List Column → List Row → Type 0
FitFrom place [] rows = Unit {0}
FitFrom place (c ∷ cs) rows = FitsKind c.kind (column_values place rows) × FitFrom (place + 1) cs rows

-- ---- the arrays of builders

-- the array of the column that a builder holds
abbrev pub IsColumnOf : Builder → ArrayTree → Type 0
IsColumnOf builder tree = (kind : DataType) (values : List Value) → Holds builder kind values → tree ≡ column_tree kind values None

abbrev pub AreColumnsOf : List Builder → List ArrayTree → Type 0
AreColumnsOf builders trees = AllZip IsColumnOf builders trees

-- how many blocks an array has of its own, and how many those of a list have
abbrev pub own_blocks : ArrayTree → ℕ
own_blocks tree = holds (members_of tree)

abbrev pub all_blocks : List ArrayTree → ℕ
all_blocks trees = sum_by own_blocks trees
