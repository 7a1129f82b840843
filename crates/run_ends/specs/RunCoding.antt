-- Values as runs ("Arrow Columnar Format", "Run-End Encoded Layout"), and the schema and the array of such runs.
use Rattle.std.specs.Prelude.{◌≡◌, ℕ, ◌+◌, pos, Bool, true, false, codes, List, [], ◌∷◌, length, map, get_or, drop, Some, None}
use Rattle.data_types.specs.declared.kind.DataType.{DataType}
use Rattle.data_types.specs.declared.kind.DataType.TheVariants as kinds
use Rattle.data_types.specs.promise.Groups.{same}
use Rattle.data_types.specs.promise.Value.{Value}
use Rattle.data_types.specs.promise.Value.Value.{Null, Whole}
use Rattle.tree_model.specs.promise.TreeData.{Live, no_trees, trees, absent}
use Rattle.raw_schema.specs.promise.Members.{SchemaTree}
use Rattle.raw_array.specs.promise.Members.{ArrayTree}
use Rattle.raw_array.specs.declared.array.ReleaseKind.TheVariants.{Assembled}
use Rattle.col_build.specs.promise.Finished.{blocks_of}
use Rattle.data_types.specs.promise.KindTrees.{kind_in}
use Rattle.schema_check.specs.promise.ColumnSchema.{node, values_schema}
use Rattle.arr_export.specs.promise.ArrayTrees.{column_tree}
use Rattle.arr_export.specs.ArrayTrees.{flat_type}
use Rattle.run_ends.specs.promise.Runs.{RunTree, run_values}
use Rattle.run_ends.specs.promise.RunCoding.{Run, runs_from}

-- whether two values of flat types are the same: a null is the same as any null, and floats are by their bits
abbrev pub is_same : Value → Value → Bool
is_same a b = same a b

-- a run begins at an item and ends before another, where the next runs begin
abbrev pub IsRun : List Value → ℕ → ℕ → Type 0
IsRun values i stop = runs_from i (drop i values) ≡ record { value = get_or values i Null; stop = stop } ∷ runs_from stop (drop stop values)

-- no two runs that are side by side have the same value
abbrev pub AreApart : List Run → Type 0
AreApart [] = Unit {0}
AreApart (run ∷ []) = Unit {0}
AreApart (run ∷ next ∷ rest) = (is_same run.value next.value ≡ false) × AreApart (next ∷ rest)

-- ---- as a schema and an array

abbrev pub end_kind : DataType
end_kind = kinds.Int 32 true

abbrev pub end_of : Run → Value
end_of run = Whole (pos run.stop)

abbrev pub value_of : Run → Value
value_of run = run.value

-- the kinds: ends of 32 bits, and values of a flat type
abbrev pub runs_type : DataType → RunTree
runs_type kind = record { ends = flat_type end_kind None; values = flat_type kind None }

-- the ends, none of which is null
abbrev pub ends_schema : SchemaTree
ends_schema = node (codes "i") (Some (codes "run_ends")) (pos 0) no_trees absent

-- a root without a name, over the ends and values that may be null
abbrev pub runs_schema : DataType → SchemaTree
runs_schema kind =
    node (codes "+r") None (pos 0)
    (trees (ends_schema ∷ values_schema (Some (codes "values")) kind ∷ []))
    absent

-- an array of this many items over its ends and its values
abbrev pub over_runs : ℕ → ArrayTree → ArrayTree → ArrayTree
over_runs count ends values =
    Live (record { length = pos count; null_count = pos 0; offset = pos 0; buffers = []; kind = Assembled }) (trees (ends ∷ values ∷ [])) absent

abbrev pub tree_of_runs : DataType → ℕ → List Run → ArrayTree
tree_of_runs kind count runs = over_runs count (column_tree end_kind (map end_of runs) None) (column_tree kind (map value_of runs) None)

-- the array of values as runs
abbrev pub runs_tree : DataType → List Value → ArrayTree
runs_tree kind values = tree_of_runs kind (length values) (runs_from 0 values)

-- the blocks of it: those of the ends, and those of the runs' values
abbrev pub runs_blocks : DataType → List Value → ℕ
runs_blocks kind values = blocks_of end_kind (map end_of (runs_from 0 values)) + blocks_of kind (map value_of (runs_from 0 values))

-- ---- the items of runs as a column

abbrev pub decoded_tree : RunTree → ArrayTree → ArrayTree
decoded_tree u array = column_tree (kind_in u.values) (run_values u array) None
