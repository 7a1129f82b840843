-- A line for each item of a run-end encoded array: the value of its run; or the first fault of its schema and of the array ("Arrow
-- Columnar Format", "Run-End Encoded Layout").
use Rattle.std.specs.Prelude.{◌≡◌, Result}
use Rattle.raw_array.specs.promise.Members.{ArrayTree}
use Rattle.raw_schema.specs.promise.Members.{SchemaTree}
use Rattle.run_ends.specs.promise.RunRules.{runs_fault}
use Rattle.run_ends.specs.promise.RunSchemas.{RunsReads, SchemaFound}
use Rattle.run_ends.specs.promise.Runs.{RunTree, run_values}
use Rattle.data_types.specs.promise.ValueTexts.{lines_text}
use Rattle.tree_top.specs.promise.RunRefusals.{runs_fault_told, runs_schema_fault}
use Rattle.tree_top.specs.promise.TextOrFault.{Answer, Text, by, unless}
use Rattle.tree_top.specs.declared.fault.TreeRunFault.TheVariants as run

-- the schema is read first, and then no rule of run-end encoded arrays may fail
abbrev pub FlatAnswer : SchemaTree → ArrayTree → Answer → Type 0
FlatAnswer schema array answer = (read : Result RunTree SchemaFound) × RunsReads schema read
    × (answer ≡ by (λ fault. run.RunsSchema (runs_schema_fault fault)) read
    (λ u. unless (λ fault. run.Runs (runs_fault_told fault)) (runs_fault u array) (Text (lines_text (run_values u array)))))
