-- A line for each row of a chunk of which the lists in a column are spread out, or the rows grouped by a column ("Arrow Columnar Format",
-- "Variable-size List Layout"); or the first fault: of the schema, of the chunk, of the number of its columns, of the number of that
-- column, of the kinds of the columns, and of how many rows, items and bytes there would be. It depends on the rows alone, whatever columns
-- they are made.
use Rattle.std.specs.Prelude.{ℕ, if◌then◌else◌, List, length, map, nat_lt, Option, None, Some}
use Rattle.data_types.specs.promise.Table.{Row}
use Rattle.data_types.specs.promise.KindTrees.{KindTree}
use Rattle.layout_rules.specs.promise.Values.{rows_of}
use Rattle.list_cols.specs.promise.Faults.{explode_fault, most_columns}
use Rattle.list_cols.specs.promise.NestFaults.{nest_fault}
use Rattle.list_cols.specs.promise.Nested.{Explode, Nest}
use Rattle.list_cols.specs.declared.fault.ListFault.{ListFault}
use Rattle.raw_array.specs.promise.Members.{ArrayTree}
use Rattle.raw_schema.specs.promise.Members.{SchemaTree}
use Rattle.tree_model.specs.promise.TreeParts.{children_of}
use Rattle.data_types.specs.promise.ValueTexts.{lines_text}
use Rattle.tree_top.specs.promise.ChunkAnswer.{ChunkAnswer}
use Rattle.tree_top.specs.promise.ForeignAnswer.{row_value}
use Rattle.tree_top.specs.promise.TextOrFault.{Answer, Text, unless}
use Rattle.tree_top.specs.declared.fault.TreeRunFault.{TreeRunFault}
use Rattle.tree_top.specs.declared.fault.TreeRunFault.TheVariants as run

-- ---- the column

-- why such a chunk of this many columns has none of this number
abbrev pub column_fault : ℕ → ℕ → Option TreeRunFault
column_fault column count =
    if nat_lt most_columns count then Some (run.TooManyColumns count) else if nat_lt column count then None else Some (run.Column column)

-- ---- the rows

-- a line for each of these rows, where there are this column and no fault of the lists
abbrev pub rows_anew : ℕ → KindTree → Option ListFault → List Row → Answer
rows_anew column typed fault rows =
    unless (λ wrong. wrong) (column_fault column (length (children_of typed))) (unless run.Lists fault (Text (lines_text (map row_value rows))))

-- spread out
abbrev pub ExplodeAnswer : ℕ → SchemaTree → ArrayTree → Answer → Type 0
ExplodeAnswer column schema array answer =
    ChunkAnswer (λ typed array.
    let rows = rows_of typed array in
    rows_anew column typed (explode_fault column typed rows) (Explode column rows)) schema array answer

-- grouped
abbrev pub NestAnswer : ℕ → SchemaTree → ArrayTree → Answer → Type 0
NestAnswer column schema array answer =
    ChunkAnswer (λ typed array.
    let rows = rows_of typed array in
    rows_anew column typed (nest_fault column typed rows) (Nest (length (children_of typed)) column rows)) schema array answer
