-- What a run answers: the text of the table that was read or the report of the tree that was checked, or the first fault.
use Rattle.std.specs.Prelude.{◌≡◌, ◌<◌, ℕ, List, length, Option, Some, IfSome, Result}
use Rattle.data_types.specs.promise.Table.{Column, Row}
use Rattle.data_types.specs.declared.row_fault.RowFault.{RowFault}
use Rattle.csv_model.specs.promise.Reading.{Record, body}
use Rattle.csv_model.specs.promise.Text.{table_text}
use Rattle.csv_model.specs.declared.fault.HeaderFault.{HeaderFault}
use Rattle.stage_model.specs.promise.Links.{Whole}
use Rattle.stage_model.specs.promise.Stages.{table}
use Rattle.stage_model.specs.promise.Typing.{Stage, plan_of}
use Rattle.stage_model.specs.declared.fault.PlanFault.{PlanFault}
use Rattle.tree_check.specs.promise.Checks.{Checked}
use Rattle.run_model.specs.promise.Words.{made_of}
use Rattle.run_model.specs.promise.Answer.{Answer, Text, Request, Task, fault_of_row, fault_of_header, fault_of_plan}
use Rattle.run_model.specs.declared.fault.RunFault.TheVariants as run
use Rattle.tree_check.specs.promise.Runs.{input_limit, is_too_long}
use Rattle.run_model.specs.promise.RunAnswer.{AnswersWithin, by, input_by}

-- ---- parts of the answer

-- the text of the table that the stages make of these rows, where no record is refused
abbrev pub answer_of_rows : List ℕ → List Column → List Stage → Result (List Row) RowFault → Answer
answer_of_rows mark columns stages read = by fault_of_row read (λ rows. Text (table_text mark (Whole (table columns rows) stages)))

-- the answer to the records behind a header of these columns, where the stages fit them
abbrev pub answer_of_plan : List ℕ → List Column → Result (List Stage) PlanFault → List Record → Answer
answer_of_plan mark columns planned records = by fault_of_plan planned (λ stages. answer_of_rows mark columns stages (body mark columns records))

abbrev pub answer_of_columns : Request → Result (List Column) HeaderFault → List Record → Answer
answer_of_columns request found records =
    by fault_of_header found (λ columns. answer_of_plan request.mark columns (plan_of columns request.stages) records)

-- the report of a tree, or its fault
abbrev pub answer_of_check : Checked → Answer
answer_of_check checked = by run.Tree checked Text

-- the answer to a task and the bytes of an input
abbrev pub AnswersBytes : Task → List ℕ → Answer → Type 0
AnswersBytes task bytes answer = AnswersWithin (is_too_long bytes) task bytes answer

-- ---- the answer to the words

-- the bytes are those that are stated, where some are stated
abbrev pub AreBytes : Option (List ℕ) → List ℕ → Type 0
AreBytes told bytes = IfSome told (λ l. l ≡ bytes)

-- an input, stated or not, is too long
abbrev pub IsTooLong : Option (List ℕ) → Type 0
IsTooLong told = (bytes : List ℕ) × AreBytes told bytes × (input_limit < length bytes)

-- the input of a run with these words, where its source states it
abbrev pub IsInput : List (List ℕ) → Option (List ℕ) → List ℕ → Type 0
IsInput words left bytes = input_by (made_of words) left ≡ Some bytes
