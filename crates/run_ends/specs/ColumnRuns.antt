-- What contracts see of a column whose runs are looked for.
use Rattle.std.specs.Prelude.{List}
use Rattle.data_types.specs.promise.Value.{Value}
use Rattle.data_types.specs.promise.TypedView.{typed_of}
use Rattle.layout_rules.specs.promise.Values.{values_of}
use Rattle.run_ends.specs.declared.column_runs.ColumnRuns.{ColumnRuns}

-- the values of its items
abbrev pub values_in : ColumnRuns → List Value
values_in runs = values_of (typed_of runs.typed.now) runs.array.now
