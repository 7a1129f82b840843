-- A line for each item of an array of any kind, or the first fault of its schema and of the array.
use Rattle.std.specs.Prelude.{◌≡◌, Result}
use Rattle.data_types.specs.promise.KindTrees.{KindTree}
use Rattle.layout_rules.specs.promise.Values.{values_of}
use Rattle.layout_rules.specs.promise.Walk.{first_fault}
use Rattle.raw_array.specs.promise.Members.{ArrayTree}
use Rattle.raw_schema.specs.promise.Members.{SchemaTree}
use Rattle.schema_check.specs.promise.SchemaAnswers.{FirstFault, SchemaReads}
use Rattle.data_types.specs.promise.ValueTexts.{lines_text}
use Rattle.tree_top.specs.promise.Refusals.{layout_told, schema_told}
use Rattle.tree_top.specs.promise.TextOrFault.{Answer, Text, by, unless}

-- the schema is read first, and then no rule of arrays may fail at any node
abbrev pub RowsAnswer : SchemaTree → ArrayTree → Answer → Type 0
RowsAnswer schema array answer = (read : Result KindTree FirstFault) × SchemaReads schema read
    × (answer ≡ by schema_told read (λ typed. unless layout_told (first_fault typed array) (Text (lines_text (values_of typed array)))))
