use Rattle.std.specs.Prelude.{All}
use Rattle.data_types.specs.ColumnForms.{KindsOk}
use Rattle.data_types.specs.ColumnView.{kind_of}
use Rattle.text_cases.proofs.stages.columns_from.Given as goal

abbrev pub invariant-loop-entry : goal.invariant-loop-entry
invariant-loop-entry l = All (λ c. KindsOk (kind_of c.kind)) l.columns.items
