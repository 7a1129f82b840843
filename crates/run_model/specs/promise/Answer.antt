-- What a run is asked for by its words, or why they are refused; the form of an answer; the fault of a run by those of its parts,
-- with the cause and the status of each.
use Rattle.std.specs.Prelude.{◌≡◌, ℕ, ◌+◌, Bool, true, false, List, [], ◌∷◌, Option, None, Some, Result, Ok, Err, codes}
use Rattle.data_types.specs.declared.row_fault.RowFault.{RowFault}
use Rattle.data_types.specs.declared.row_fault.RowFault.TheVariants as row
use Rattle.csv_model.specs.declared.fault.HeaderFault.{HeaderFault}
use Rattle.csv_model.specs.declared.fault.HeaderFault.TheVariants as header
use Rattle.stage_model.specs.promise.StageGrammar.{stage_of}
use Rattle.stage_model.specs.declared.fault.PlanFault.{PlanFault}
use Rattle.stage_model.specs.declared.fault.PlanFault.TheVariants as plan
use Rattle.stage_model.specs.declared.fault.StageFault.{StageFault}
use Rattle.stage_model.specs.declared.stage.StageText.{StageText}
use Rattle.stage_plan.specs.promise.Types.{Reads}
use Rattle.stage_plan.specs.declared.fault.TypesFault.{TypesFault}
use Rattle.stage_plan.specs.declared.fault.TypesFault.TheVariants as types
use Rattle.stage_plan.specs.declared.types.TypeEntry.{TypeEntry}
use Rattle.std.specs.Option.{unwrap_or}
use Rattle.tree_check.specs.promise.Runs.{Cause, OfWords, OfTexts, OfPlan, OfRecords, OfTree, OfLength, Reading, Writing, Memory}
use Rattle.run_model.specs.promise.Words.{Options, words_of}
use Rattle.run_model.specs.declared.words.WordsFault.{WordsFault}
use Rattle.run_model.specs.declared.fault.RunFault.{RunFault}
use Rattle.run_model.specs.declared.fault.RunFault.TheVariants as run

-- ---- the faults of a run

-- the text that is to be written, or the fault that is to be reported
pub data Answer : Type 0 where
  Text : List ℕ → Answer
  Fault : RunFault → Answer

-- the fault of a run whose first refused record is this
abbrev pub fault_of_row : RowFault → RunFault
fault_of_row (row.Ragged number found) = run.Ragged number found
fault_of_row (row.Field number column) = run.Field number column

-- the fault of a run whose header is refused
abbrev pub fault_of_header : HeaderFault → RunFault
fault_of_header header.NoHeader = run.NoHeader
fault_of_header (header.TooManyColumns count) = run.TooManyColumns count
fault_of_header (header.NotText column) = run.HeaderText column
fault_of_header (header.Twice column) = run.HeaderTwice column
fault_of_header (header.Unknown entry) = run.HeaderUnknown entry
fault_of_header header.NoMemory = run.NoMemory

-- the fault of a run whose stages don't fit the columns
abbrev pub fault_of_plan : PlanFault → RunFault
fault_of_plan (plan.At stage rule) = run.Plan stage rule
fault_of_plan plan.NoMemory = run.NoMemory

-- ---- what is asked for

-- what is asked for: types of columns by name, stages, the most rows of a batch, and the mark for null
pub record Request : Type 0 where
  pub entries : List TypeEntry
  pub stages : List StageText
  pub batch : ℕ
  pub mark : List ℕ

-- a table by stages, or a tree to check
pub data Task : Type 0 where
  Table : Request → Task
  Tree : Task

-- ---- what the words ask for

-- the entries that are asked for, or the fault of the schema text
abbrev pub asked_by : Result (List TypeEntry) TypesFault → Result (List TypeEntry) RunFault
asked_by (Ok entries) = Ok entries
asked_by (Err (types.At entry rule)) = Err (run.Schema entry rule)
asked_by (Err types.NoMemory) = Err run.NoMemory

-- what a schema text reads as, and no entries where there is none
abbrev pub EntriesRead : Option (List ℕ) → Result (List TypeEntry) TypesFault → Type 0
EntriesRead None read = read ≡ Ok []
EntriesRead (Some text) read = Reads text read

abbrev pub EntriesAsk : Option (List ℕ) → Result (List TypeEntry) RunFault → Type 0
EntriesAsk schema asked = (read : Result (List TypeEntry) TypesFault) × EntriesRead schema read × (asked ≡ asked_by read)

-- a stage before others, or the first text that is none
abbrev pub stage_before : ℕ → Result StageText StageFault → Result (List StageText) RunFault → Result (List StageText) RunFault
stage_before number (Err fault) rest = Err (run.Stage number fault)
stage_before number (Ok stage) (Ok stages) = Ok (stage ∷ stages)
stage_before number (Ok stage) (Err fault) = Err fault

-- the stages that texts spell, the first of which has this number
abbrev pub stages_from : ℕ → List (List ℕ) → Result (List StageText) RunFault
stages_from number [] = Ok []
stages_from number (text ∷ texts) = stage_before number (stage_of text) (stages_from (number + 1) texts)

-- what is asked for with these stages and entries
abbrev pub request_with : Options → List StageText → Result (List TypeEntry) RunFault → Result Request RunFault
request_with options stages (Ok entries) = Ok (record { entries = entries; stages = stages; batch = options.batch; mark = unwrap_or options.null [] })
request_with options stages (Err fault) = Err fault

-- what options with these stages ask for: a stage text is refused before the schema text
abbrev pub StagesAsk : Options → Result (List StageText) RunFault → Result Request RunFault → Type 0
StagesAsk options (Ok stages) asked =
    (entries : Result (List TypeEntry) RunFault) × EntriesAsk options.schema entries × (asked ≡ request_with options stages entries)
StagesAsk options (Err fault) asked = asked ≡ Err fault

-- what options ask for of a table; stages are counted from 1
abbrev pub RequestIs : Options → Result Request RunFault → Type 0
RequestIs options asked = StagesAsk options (stages_from 1 options.stages) asked

-- what is asked for of a table is the task
abbrev pub table_of : Result Request RunFault → Result Task RunFault
table_of (Ok request) = Ok (Table request)
table_of (Err fault) = Err fault

-- a tree is to be checked, or else a table is asked for
abbrev pub TaskIs : Bool → Options → Result Task RunFault → Type 0
TaskIs true options asked = asked ≡ Ok Tree
TaskIs false options asked = (request : Result Request RunFault) × RequestIs options request × (asked ≡ table_of request)

-- the types of the columns of a table that is made from a number
abbrev pub chain_schema : List ℕ
chain_schema = codes "id:l;amount:d:10,2;paid:b"

-- the stages over them
abbrev pub chain_stages : List (List ℕ)
chain_stages =
    codes "pack=p,id,amount" ∷
    codes "unpack=p" ∷
    codes "dict=name" ∷
    codes "filter=paid,eq,true" ∷
    codes "plain=name" ∷
    codes "totals=id,amount" ∷
    []

-- the options that are meant: where rows are made in place of an input, those of this chain, with the numbers as taken and no mark
abbrev pub meant_by : Option ℕ → Options → Options
meant_by None options = options
meant_by (Some rows) options = record options { schema = Some chain_schema; null = None; stages = chain_stages }

abbrev pub OptionsAsk : Result Options WordsFault → Result Task RunFault → Type 0
OptionsAsk (Ok options) asked = TaskIs options.check (meant_by options.selftest options) asked
OptionsAsk (Err fault) asked = asked ≡ Err (run.Words fault)

-- the words ask for this, or are refused for this fault, whatever the input is
abbrev pub Asks : List (List ℕ) → Result Task RunFault → Type 0
Asks words asked = OptionsAsk (words_of words) asked

-- ---- causes

abbrev pub cause_of : RunFault → Cause
cause_of (run.Words fault) = OfWords
cause_of (run.Stage number fault) = OfTexts
cause_of (run.Schema entry rule) = OfTexts
cause_of (run.Plan number rule) = OfPlan
cause_of run.NoHeader = OfRecords
cause_of (run.TooManyColumns count) = OfRecords
cause_of (run.HeaderText column) = OfRecords
cause_of (run.HeaderTwice column) = OfRecords
cause_of (run.HeaderUnknown entry) = OfRecords
cause_of (run.Ragged number found) = OfRecords
cause_of (run.Field number column) = OfRecords
cause_of (run.Tree fault) = OfTree
cause_of run.InputTooLong = OfLength
cause_of run.ReadFault = Reading
cause_of (run.WriteFault taken) = Writing taken
cause_of run.NoMemory = Memory
