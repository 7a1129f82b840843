-- Worked examples of runs: texts, faults, links and traffic, by the stages that have a name and those that have none yet.
use Rattle.std.specs.Prelude.{ℕ, ◌+◌, false, true, pos, List, [], ◌∷◌, codes, get_or, map, Option, Result, Ok, Err}
use Rattle.csv_model.specs.promise.Batches.{batches_in}
use Rattle.csv_model.specs.Batches.{Batches}
use Rattle.csv_model.specs.promise.Header.{Entry, header_of}
use Rattle.csv_model.specs.promise.Reading.{Record, behind_header, body, records_of}
use Rattle.csv_model.specs.promise.Text.{table_text}
use Rattle.csv_model.specs.declared.fault.HeaderFault.{HeaderFault}
use Rattle.data_types.specs.declared.kind.DataType.{DataType}
use Rattle.data_types.specs.declared.kind.DataType.TheVariants as kinds
use Rattle.data_types.specs.declared.row_fault.RowFault.{RowFault}
use Rattle.data_types.specs.Parts.{joined_rows}
use Rattle.data_types.specs.promise.Table.{Column, Flat, Dict, Row}
use Rattle.data_types.specs.promise.Value.{Null, Bytes, Whole as Number, bytes_of}
use Rattle.stage_model.specs.promise.Links.{Link, Links, Whole}
use Rattle.stage_model.specs.promise.StageGrammar.{stage_of}
use Rattle.stage_model.specs.promise.Stages.{table}
use Rattle.stage_model.specs.promise.Traffic.{run_blocks, run_nodes}
use Rattle.stage_model.specs.promise.Typing.{Stage, plan_of}
use Rattle.stage_model.specs.declared.fault.PlanFault.{PlanFault}
use Rattle.stage_model.specs.declared.fault.StageFault.{StageFault}
use Rattle.stage_model.specs.declared.stage.StageText.{StageText}

-- ---- what is asked for

-- types, stages, the size of a batch, the mark for null
pub record WorkedRun : Type 0 where
  pub entries : List Entry
  pub stages : List (List ℕ)
  pub batch : ℕ
  pub mark : List ℕ

-- with batches of 1024 rows, and no mark
abbrev pub by : List Entry → List (List ℕ) → WorkedRun
by entries stages = record { entries = entries; stages = stages; batch = 1024; mark = [] }

abbrev pub of_size : ℕ → WorkedRun → WorkedRun
of_size batch asked = record { entries = asked.entries; stages = asked.stages; batch = batch; mark = asked.mark }

abbrev pub marked : List ℕ → WorkedRun → WorkedRun
marked mark asked = record { entries = asked.entries; stages = asked.stages; batch = asked.batch; mark = mark }

abbrev pub asks : List ℕ → DataType → Entry
asks name kind = record { name = name; kind = kind }

abbrev pub long : DataType
long = kinds.Int 64 true

-- ---- what comes of it

pub data Outcome : Type 0 where
  BadStage : ℕ → StageFault → Outcome
  BadHeader : HeaderFault → Outcome
  BadPlan : PlanFault → Outcome
  BadRow : RowFault → Outcome
  -- the text, the blocks and the nodes
  Written : List ℕ → ℕ → ℕ → Outcome

abbrev pub text_of : Outcome → List ℕ
text_of (Written text blocks nodes) = text
text_of _ = []

-- the stages of texts, or the first that is none
pub data StagesRead : Type 0 where
  Read : List StageText → StagesRead
  Stopped : ℕ → StageFault → StagesRead

abbrev pub with_text : Result StageText StageFault → ℕ → StagesRead → StagesRead
with_text (Err fault) number rest = Stopped number fault
with_text (Ok stage) number (Read stages) = Read (stage ∷ stages)
with_text (Ok stage) number (Stopped n fault) = Stopped n fault

abbrev pub stages_read : ℕ → List (List ℕ) → StagesRead
stages_read number [] = Read []
stages_read number (text ∷ rest) = with_text (stage_of text) number (stages_read (number + 1) rest)

abbrev pub written : List ℕ → List Link → Outcome
written text links = Written text (run_blocks links) (run_nodes links)

abbrev pub of_rows : WorkedRun → List Column → List Stage → Result (List Row) RowFault → List Record → Outcome
of_rows asked columns stages (Err fault) records = BadRow fault
of_rows asked columns stages (Ok rows) records =
    written (table_text asked.mark (Whole (table columns rows) stages)) (Links columns (batches_in asked.mark columns records asked.batch) stages)

abbrev pub of_plan : WorkedRun → List Column → Result (List Stage) PlanFault → List Record → Outcome
of_plan asked columns (Err fault) records = BadPlan fault
of_plan asked columns (Ok stages) records = of_rows asked columns stages (body asked.mark columns records) records

abbrev pub of_header : WorkedRun → List StageText → Result (List Column) HeaderFault → List Record → Outcome
of_header asked stages (Err fault) records = BadHeader fault
of_header asked stages (Ok columns) records = of_plan asked columns (plan_of columns stages) records

abbrev pub of_stages : WorkedRun → StagesRead → List Record → Outcome
of_stages asked (Stopped number fault) records = BadStage number fault
of_stages asked (Read stages) records = of_header asked stages (header_of asked.entries records) (behind_header records)

-- what comes of a run over this input
abbrev pub outcome : WorkedRun → List ℕ → Outcome
outcome asked bytes = of_stages asked (stages_read 1 asked.stages) (records_of bytes)

-- ---- the chunks of each link of a run

abbrev pub chunks_of : List Link → List (List (List Row))
chunks_of links = map (λ link. link.chunks) links

abbrev pub links_planned : WorkedRun → List Column → Result (List Stage) PlanFault → List Record → List (List (List Row))
links_planned asked columns (Err fault) records = []
links_planned asked columns (Ok stages) records = chunks_of (Links columns (batches_in asked.mark columns records asked.batch) stages)

abbrev pub links_over : WorkedRun → List StageText → Result (List Column) HeaderFault → List Record → List (List (List Row))
links_over asked stages (Err fault) records = []
links_over asked stages (Ok columns) records = links_planned asked columns (plan_of columns stages) records

abbrev pub links_read : WorkedRun → StagesRead → List Record → List (List (List Row))
links_read asked (Stopped number fault) records = []
links_read asked (Read stages) records = links_over asked stages (header_of asked.entries records) (behind_header records)

abbrev pub link_rows : WorkedRun → List ℕ → List (List (List Row))
link_rows asked bytes = links_read asked (stages_read 1 asked.stages) (records_of bytes)

-- a row of one number
abbrev pub one : ℕ → Row
one n = Number (pos n) ∷ []

-- ---- a text of four records, and the types of its columns

abbrev pub payments : List ℕ
payments = codes "id,name,amount,paid\n1,item1,1.25,true\n2,item2,2.25,false\n3,item3,3.25,true\n4,item4,4.25,false\n"

abbrev pub payment_types : List Entry
payment_types = asks (codes "id") long ∷ asks (codes "amount") (kinds.Decimal 10 (pos 2) false) ∷ asks (codes "paid") kinds.Bool ∷ []

-- stages of all kinds but select, drop and slice
abbrev pub chain : List (List ℕ)
chain =
    codes "pack=p,id,amount" ∷ codes "unpack=p" ∷ codes "dict=name" ∷ codes "filter=paid,eq,true" ∷ codes "plain=name" ∷ codes "totals=id,amount" ∷ []

-- ---- a source that is no text: a column with a dictionary beside one of numbers

abbrev pub dict_columns : List Column
dict_columns = record { name = codes "k"; kind = Dict (kinds.Utf8 false) } ∷ record { name = codes "n"; kind = Flat long } ∷ []

abbrev pub dict_chunks : List (List Row)
dict_chunks = ((Bytes (codes "x") ∷ one 1) ∷ (Bytes (codes "y") ∷ one 2) ∷ (Bytes (codes "x") ∷ one 3) ∷ []) ∷ []

abbrev pub text_planned : Result (List Stage) PlanFault → List ℕ
text_planned (Err fault) = []
text_planned (Ok stages) = table_text [] (Whole (table dict_columns (joined_rows dict_chunks)) stages)

abbrev pub text_read : StagesRead → List ℕ
text_read (Stopped number fault) = []
text_read (Read stages) = text_planned (plan_of dict_columns stages)

-- its text behind these stages
abbrev pub dict_text : List (List ℕ) → List ℕ
dict_text stages = text_read (stages_read 1 stages)

-- ---- batches of one column of text

abbrev pub text_column : List Column
text_column = record { name = codes "n"; kind = Flat (kinds.Utf8 false) } ∷ []

abbrev pub batch_texts : List ℕ → ℕ → List (List (List ℕ))
batch_texts bytes batch = map (λ rows. map (λ row. bytes_of (get_or row 0 Null)) rows) (Batches [] bytes text_column batch).chunks

abbrev pub batch_ending : List ℕ → ℕ → Option RowFault
batch_ending bytes batch = (Batches [] bytes text_column batch).ending
