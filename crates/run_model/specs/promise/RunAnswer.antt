-- What a run answers: the text of the table that was read or the report of the tree that was checked, or the first fault.
use Rattle.std.specs.Prelude.{◌≡◌, ℕ, Bool, true, false, List, Option, None, Some, IfSome, Result, Ok, Err}
use Rattle.stage_plan.specs.promise.Entries.{entries_of}
use Rattle.csv_model.specs.promise.Header.{header_of}
use Rattle.csv_model.specs.promise.Reading.{Record, behind_header, body, records_of}
use Rattle.csv_model.specs.promise.Text.{table_text}
use Rattle.stage_model.specs.promise.Links.{Whole}
use Rattle.stage_model.specs.promise.Stages.{table}
use Rattle.stage_model.specs.promise.Typing.{plan_of}
use Rattle.tree_check.specs.promise.Checks.{Checked, ChecksTo}
use Rattle.csv_model.specs.promise.Made.{made}
use Rattle.tree_check.specs.promise.Runs.{is_too_long}
use Rattle.run_model.specs.promise.Words.{made_of}
use Rattle.run_model.specs.promise.Answer.{Answer, Text, Fault, Request, Task, Table, Tree, Asks, fault_of_row, fault_of_header, fault_of_plan}
use Rattle.run_model.specs.declared.fault.RunFault.{RunFault}
use Rattle.run_model.specs.declared.fault.RunFault.TheVariants as run

-- ---- the answer to what is asked for of a table

-- an answer by what was read, where it was; else the fault
abbrev pub by : {K F : Type 0} → (F → RunFault) → Result K F → (K → Answer) → Answer
by fault_of (Ok read) said = said read
by fault_of (Err fault) said = Fault (fault_of fault)

-- The answer to the records of a text, the first of which is the header: the text of the table that the stages make of its rows. The header
-- is read first, then the stages over its columns, and then the rows.
abbrev pub answer_of_records : Request → List Record → Answer
answer_of_records request records =
    by fault_of_header (header_of (entries_of request.entries) records) (λ columns.
    by fault_of_plan (plan_of columns request.stages) (λ stages.
    by fault_of_row (body request.mark columns (behind_header records)) (λ rows.
    Text (table_text request.mark (Whole (table columns rows) stages)))))

-- ---- the answer to what is asked for

-- the answer to a task, and to an input that isn't too long
abbrev pub AnswersTask : Task → List ℕ → Answer → Type 0
AnswersTask (Table request) bytes answer = answer ≡ answer_of_records request (records_of bytes)
AnswersTask Tree bytes answer = (checked : Checked) × ChecksTo bytes checked × (answer ≡ by run.Tree checked Text)

-- the answer, where it is given whether the input is too long
abbrev pub AnswersWithin : Bool → Task → List ℕ → Answer → Type 0
AnswersWithin true task bytes answer = answer ≡ Fault run.InputTooLong
AnswersWithin false task bytes answer = AnswersTask task bytes answer

-- ---- the answer to the words

-- the bytes that a run reads: those that the source states that it has, or those of the rows that are made in place of them
abbrev pub input_by : Option ℕ → Option (List ℕ) → Option (List ℕ)
input_by None left = left
input_by (Some rows) left = Some (made rows)

-- the bytes are the input of a run with these words: those that its source states or that are made; where it states none, any may
-- be
abbrev pub AreInput : List (List ℕ) → Option (List ℕ) → List ℕ → Type 0
AreInput words left bytes = IfSome (input_by (made_of words) left) (λ stated. stated ≡ bytes)

-- the answer to what is asked for and the bytes of the input
abbrev pub IsAnswerTo : Result Task RunFault → List ℕ → Answer → Type 0
IsAnswerTo (Ok task) bytes answer = AnswersWithin (is_too_long bytes) task bytes answer
IsAnswerTo (Err fault) bytes answer = answer ≡ Fault fault

-- the answer to the words of the command and the bytes of its input
pub record IsAnswer (words : List (List ℕ)) (bytes : List ℕ) (answer : Answer) : Type 0 where
  pub asked : Result Task RunFault
  pub asks : Asks words asked
  pub is : IsAnswerTo asked bytes answer
