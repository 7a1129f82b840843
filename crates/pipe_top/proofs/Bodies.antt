-- The answer to the records of a text, from what its parts come to.
use Rattle.std.proofs.Common.{◌≡◌, ◌≢◌, ◌∙◌, ◌⊎◌, ℕ, List, [], None, Some, Result, Ok, Err, ap, sym, refl, inl, inr}
use Rattle.csv_model.specs.promise.Batches.{batches_if, batches_in, rows_before}
use Rattle.csv_model.specs.promise.Header.{header_of}
use Rattle.csv_model.specs.promise.Reading.{Record, behind_header, body}
use Rattle.csv_model.specs.promise.Text.{table_text}
use Rattle.csv_model.specs.declared.fault.HeaderFault.{HeaderFault}
use Rattle.csv_model.specs.declared.fault.HeaderFault.TheVariants as header
use Rattle.stage_plan.specs.promise.Entries.{entries_of}
use Rattle.csv_source.specs.Sources.{stream_of}
use Rattle.data_types.specs.Parts.{joined_rows}
use Rattle.data_types.specs.promise.Table.{Column, Row}
use Rattle.data_types.specs.declared.row_fault.RowFault.{RowFault}
use Rattle.csv_write.specs.Faults.{IfRow}
use Rattle.csv_write.specs.declared.fault.DriveFault.{DriveFault}
use Rattle.csv_write.specs.declared.fault.DriveFault.TheVariants as chain
use Rattle.stage_model.specs.promise.Links.{Whole}
use Rattle.stage_model.specs.Links.{BatchesGiveTheWhole}
use Rattle.stage_model.specs.promise.Stages.{table}
use Rattle.stage_model.specs.promise.Typing.{Stage, plan_of}
use Rattle.stage_model.specs.declared.fault.PlanFault.{PlanFault}
use Rattle.stage_model.specs.declared.fault.PlanFault.TheVariants as plan
use Rattle.stage_model.specs.declared.stage.StageText.{StageText}
use Rattle.stage_plan.specs.declared.types.TypeEntry.{TypeEntry}
use Rattle.stream_face.specs.Streams.{Stream}
use Rattle.run_model.specs.promise.Answer.{Fault, Request, Text, fault_of_header, fault_of_plan, fault_of_row}
use Rattle.run_model.specs.declared.fault.RunFault.{RunFault}
use Rattle.run_model.specs.declared.fault.RunFault.TheVariants as run
use Rattle.run_model.specs.promise.RunAnswer.{answer_of_records}
use Rattle.run_model.specs.RunAnswer.{answer_of_columns, answer_of_plan, answer_of_rows}
use Rattle.pipe_top.specs.ChainFaults.{fault_of_chain}

-- ---- the header

header-answer : (f : HeaderFault) (entries : List TypeEntry) (records : List Record) → header_of (entries_of entries) records ≡ Err f
    → (request : Request) → request.entries ≡ entries → answer_of_records request records ≡ Fault (fault_of_header f)
header-answer f entries records is request same =
    ap (λ es. answer_of_columns request (header_of (entries_of es) records) (behind_header records)) same
    ∙ ap (λ h. answer_of_columns request h (behind_header records)) is

-- the fault of a header is the answer's, unless memory runs out
pub header-told : (f : HeaderFault) (fault : RunFault) (entries : List TypeEntry) (records : List Record) → fault ≡ fault_of_header f
    → (f ≢ header.NoMemory → header_of (entries_of entries) records ≡ Err f)
    → (fault ≡ run.NoMemory) ⊎ ((request : Request) → request.entries ≡ entries → answer_of_records request records ≡ Fault fault)
header-told header.NoMemory fault entries records told is = inl told
header-told header.NoHeader fault entries records told is =
    inr (λ request same. header-answer header.NoHeader entries records (is (λ e. cc)) request same ∙ ap Fault (sym told))
header-told (header.TooManyColumns count) fault entries records told is =
    inr (λ request same. header-answer (header.TooManyColumns count) entries records (is (λ e. cc)) request same ∙ ap Fault (sym told))
header-told (header.NotText column) fault entries records told is =
    inr (λ request same. header-answer (header.NotText column) entries records (is (λ e. cc)) request same ∙ ap Fault (sym told))
header-told (header.Twice column) fault entries records told is =
    inr (λ request same. header-answer (header.Twice column) entries records (is (λ e. cc)) request same ∙ ap Fault (sym told))
header-told (header.Unknown entry) fault entries records told is =
    inr (λ request same. header-answer (header.Unknown entry) entries records (is (λ e. cc)) request same ∙ ap Fault (sym told))

-- ---- the stages

-- so is that of a plan
pub plan-told : (f : PlanFault) (fault : RunFault) (columns : List Column) (stages : List StageText) → fault ≡ fault_of_plan f
    → (f ≢ plan.NoMemory → plan_of columns stages ≡ Err f)
    → (fault ≡ run.NoMemory)
    ⊎ ((mark : List ℕ) (records : List Record) → answer_of_plan mark columns (plan_of columns stages) records ≡ Fault fault)
plan-told plan.NoMemory fault columns stages told is = inl told
plan-told (plan.At stage rule) fault columns stages told is =
    inr (λ mark records. ap (λ p. answer_of_plan mark columns p records) (is (λ e. cc)) ∙ ap Fault (sym told))

-- ---- over the columns of a header

module _ (request : Request) (records : List Record) (columns : List Column) (found : header_of (entries_of request.entries) records ≡ Ok columns) where
  pub over-columns : answer_of_records request records
      ≡ answer_of_plan request.mark columns (plan_of columns request.stages) (behind_header records)
  over-columns = ap (λ h. answer_of_columns request h (behind_header records)) found

  module _ (stages : List Stage) (planned : plan_of columns request.stages ≡ Ok stages) where
    pub over-stages : answer_of_records request records ≡ answer_of_rows request.mark columns stages (body request.mark columns (behind_header records))
    over-stages = over-columns ∙ ap (λ p. answer_of_plan request.mark columns p (behind_header records)) planned

    whole-answer : (read : Result (List Row) RowFault) → body request.mark columns (behind_header records) ≡ read → BatchesGiveTheWhole
        → (before : List Row) → (batches_if read request.batch before).ending ≡ None
        → answer_of_records request records
        ≡ Text (table_text request.mark (Whole (table columns (joined_rows (batches_in request.mark columns
        (behind_header records) request.batch).chunks)) stages))
    whole-answer (Ok rows) is whole before ends =
        over-stages ∙ ap (answer_of_rows request.mark columns stages) is
        ∙ ap (λ rs. Text (table_text request.mark (Whole (table columns rs) stages)))
        (sym (whole request.mark columns (behind_header records) request.batch [] rows is))
    whole-answer (Err fault) is whole before ends = absurd (cc)

    row-answer : (fault : RowFault) (read : Result (List Row) RowFault) → body request.mark columns (behind_header records) ≡ read
        → (before : List Row) → (batches_if read request.batch before).ending ≡ Some fault
        → answer_of_records request records ≡ Fault (fault_of_row fault)
    row-answer fault (Ok rows) is before ends = absurd (cc)
    row-answer fault (Err other) is before ends =
        let same : other ≡ fault = cc in
        over-stages ∙ ap (answer_of_rows request.mark columns stages) is ∙ ap (λ f. Fault (fault_of_row f)) same

    abbrev before : List Row
    before = rows_before request.mark 1 columns (behind_header records)

    -- where the batches end well, the answer is the text of the table that the stages make of their rows
    pub driven-text : BatchesGiveTheWhole → (batches_in request.mark columns (behind_header records) request.batch).ending ≡ None
        → answer_of_records request records
        ≡ Text (table_text request.mark (Whole (table columns (joined_rows (batches_in request.mark columns
        (behind_header records) request.batch).chunks)) stages))
    driven-text whole ends = whole-answer (body request.mark columns (behind_header records)) refl whole before ends

    -- and where they end at a record, it is its fault
    pub driven-fault : (fault : RowFault) → (batches_in request.mark columns (behind_header records) request.batch).ending ≡ Some fault
        → answer_of_records request records ≡ Fault (fault_of_row fault)
    driven-fault fault ends = row-answer fault (body request.mark columns (behind_header records)) refl before ends

    -- so it is where the chain gives no text
    pub driven-told : (chain-fault : DriveFault) (fault : RunFault) → fault ≡ fault_of_chain chain-fault
        → IfRow chain-fault (λ row. (batches_in request.mark columns (behind_header records) request.batch).ending ≡ Some row)
        → (fault ≡ run.NoMemory) ⊎ (answer_of_records request records ≡ Fault fault)
    driven-told (chain.Row row) fault told ends = inr (driven-fault row ends ∙ ap Fault (sym told))
    driven-told chain.NoMemory fault told ends = inl told

-- ---- what is read

-- the fault of a header over these entries and records
pub told-here : (fault : RunFault) (request : Request) (entries : List TypeEntry) (rs records : List Record)
    → (fault ≡ run.NoMemory) ⊎ ((request : Request) → request.entries ≡ entries → answer_of_records request rs ≡ Fault fault)
    → entries ≡ request.entries → rs ≡ records → (fault ≡ run.NoMemory) ⊎ (answer_of_records request records ≡ Fault fault)
told-here fault request entries rs records (inl memory) same all = inl memory
told-here fault request entries rs records (inr told) same all = inr (ap (answer_of_records request) (sym all) ∙ told request (sym same))

-- the fault of a stage that doesn't fit the columns of this header
pub plan-here : (fault : RunFault) (request : Request) (columns : List Column) (texts : List StageText) (records : List Record)
    → header_of (entries_of request.entries) records ≡ Ok columns → texts ≡ request.stages
    → (fault ≡ run.NoMemory) ⊎ ((mark : List ℕ) (rows : List Record) → answer_of_plan mark columns (plan_of columns texts) rows ≡ Fault fault)
    → (fault ≡ run.NoMemory) ⊎ (answer_of_records request records ≡ Fault fault)
plan-here fault request columns texts records found same (inl memory) = inl memory
plan-here fault request columns texts records found same (inr told) =
    inr (over-columns request records columns found
    ∙ ap (λ stages. answer_of_plan request.mark columns (plan_of columns stages) (behind_header records)) (sym same)
    ∙ told request.mark (behind_header records))

pub source-is : (s : Stream) (mark given : List ℕ) (columns cols : List Column) (records rs : List Record) (batch : ℕ)
    → s ≡ stream_of cols (batches_in given cols rs batch) → given ≡ mark → cols ≡ columns → rs ≡ records
    → s ≡ stream_of columns (batches_in mark columns records batch)
source-is s mark given columns cols records rs batch is same_mark same_columns same_records =
    is ∙ ap (λ m. stream_of cols (batches_in m cols rs batch)) same_mark
    ∙ ap (λ cs. stream_of cs (batches_in mark cs rs batch)) same_columns
    ∙ ap (λ r. stream_of columns (batches_in mark columns r batch)) same_records
