-- A line for each run of equal values of a flat column: the place behind its last item, and its value ("Arrow Columnar Format",
-- "Run-End Encoded Layout"); or the first fault of the schema, of the array, and of the column's kind and its number of items. It is given
-- by the values alone, whatever tree their runs are made.
use Rattle.std.specs.Prelude.{◌≡◌, ℕ, List, map, Result}
use Rattle.data_types.specs.promise.Value.{Value}
use Rattle.data_types.specs.promise.KindTrees.{KindTree}
use Rattle.layout_rules.specs.promise.Values.{tree_items, values_of}
use Rattle.layout_rules.specs.promise.Walk.{first_fault}
use Rattle.raw_array.specs.promise.Members.{ArrayTree}
use Rattle.raw_schema.specs.promise.Members.{SchemaTree}
use Rattle.run_ends.specs.promise.CodeFaults.{code_fault}
use Rattle.run_ends.specs.promise.RunCoding.{Run, runs_from}
use Rattle.schema_check.specs.promise.SchemaAnswers.{FirstFault, SchemaReads}
use Rattle.data_types.specs.promise.NumberedTexts.{numbered_text}
use Rattle.tree_top.specs.promise.Refusals.{layout_told, schema_told}
use Rattle.tree_top.specs.promise.TextOrFault.{Answer, Text, by, unless}
use Rattle.tree_top.specs.declared.fault.TreeRunFault.TheVariants as run

-- the runs, each with the place behind its last item
abbrev pub runs_text : List Value → List ℕ
runs_text values = numbered_text (map (λ (run : Run). (run.stop, run.value)) (runs_from 0 values))

-- the schema is read first, then no rule of arrays may fail at any node, and then the column is flat and ends of 32 bits name its items
abbrev pub RunsAnswer : SchemaTree → ArrayTree → Answer → Type 0
RunsAnswer schema array answer = (read : Result KindTree FirstFault) × SchemaReads schema read
    × (answer ≡ by schema_told read (λ typed. unless layout_told (first_fault typed array)
    (unless run.Code (code_fault typed (tree_items array)) (Text (runs_text (values_of typed array))))))
