-- No answer is a fault with an out-of-memory inside it.
use Rattle.std.proofs.Common.{◌≡◌, ◌∙◌, ◌+◌, ℕ, Bool, true, false, List, [], ◌∷◌, suc, Option, None, Some, Result, Ok, Err, ap, inl, inr, refl}
use Rattle.std.specs.Option.{ok_or}
use Rattle.data_types.specs.promise.Table.{Column, Row}
use Rattle.data_types.specs.declared.row_fault.RowFault.{RowFault}
use Rattle.data_types.specs.declared.row_fault.RowFault.TheVariants as row
use Rattle.csv_model.specs.promise.Header.{header_of}
use Rattle.csv_model.specs.promise.Reading.{Record, behind_header, body, records_of}
use Rattle.csv_model.specs.declared.fault.HeaderFault.{HeaderFault}
use Rattle.csv_model.specs.declared.fault.HeaderFault.TheVariants as header
use Rattle.stage_plan.specs.promise.Entries.{entries_of}
use Rattle.fmt_string.specs.declared.fault.FormatFault.TheVariants as format
use Rattle.data_types.specs.promise.KindTrees.{KindTree}
use Rattle.data_types.specs.promise.Ways.{Steps}
use Rattle.layout_rules.specs.promise.Walk.{Fault as ArrayFault, first_fault}
use Rattle.raw_array.specs.promise.Members.{ArrayTree}
use Rattle.raw_schema.specs.promise.Members.{SchemaMembers, SchemaTree}
use Rattle.schema_check.specs.promise.SchemaAnswers.{FirstFault, SchemaReads}
use Rattle.schema_check.specs.promise.Schemas.{DictFault, FailsHere, FaultFrom, KidFault}
use Rattle.schema_check.specs.declared.rule.SchemaRule.{SchemaRule}
use Rattle.schema_check.specs.declared.rule.SchemaRule.TheVariants as rules
use Rattle.schema_meta.specs.declared.fault.MetaFault.TheVariants as meta
use Rattle.stage_model.specs.promise.StageGrammar.{Cut, StageWord, cut_at, equals_sign, read_by, stage_cut, stage_of, stage_words}
use Rattle.stage_model.specs.StageGrammar.{word_named}
use Rattle.stage_model.specs.promise.Typing.{Stage, plan_of}
use Rattle.stage_model.specs.declared.fault.PlanFault.{PlanFault}
use Rattle.stage_model.specs.declared.fault.PlanFault.TheVariants as plan
use Rattle.stage_model.specs.declared.fault.StageFault.{StageFault}
use Rattle.stage_model.specs.declared.fault.StageFault.TheVariants as stage
use Rattle.stage_model.specs.declared.stage.StageText.{StageText}
use Rattle.stage_plan.specs.declared.fault.TypesFault.{TypesFault}
use Rattle.stage_plan.specs.declared.fault.TypesFault.TheVariants as types
use Rattle.stage_plan.specs.declared.types.TypeEntry.{TypeEntry}
use Rattle.tree_check.specs.promise.Checks.{Checked, ReadComes, array_if, kinds_checked}
use Rattle.tree_model.specs.promise.TreeData.{Released, Live, Trees, no_trees, more_trees, MaybeTree, absent, present}
use Rattle.tree_text.specs.promise.Answers.{Reads}
use Rattle.tree_text.specs.declared.fault.TextFault.{TextFault}
use Rattle.tree_text.specs.declared.fault.TextFault.TheVariants as texts
use Rattle.tree_check.specs.declared.fault.TreeFault.TheVariants as trees
use Rattle.run_model.specs.promise.Words.{Options, words_of}
use Rattle.run_model.specs.declared.words.WordsFault.{WordsFault}
use Rattle.run_model.specs.promise.Answer.{Answer, EntriesAsk, Fault, OptionsAsk, Request, StagesAsk, Table, Task, TaskIs, Text, Tree, asked_by}
use Rattle.run_model.specs.promise.Answer.{meant_by, request_with, stage_before, stages_from, table_of}
use Rattle.run_model.specs.promise.MemoryFaults.{has_memory_inside}
use Rattle.pipe_top.specs.MemoryFaults.{is_stage_memory, is_text_memory, memory_inside, rule_has_memory}
use Rattle.run_model.specs.Outcomes.{is_decided}
use Rattle.run_model.specs.declared.fault.RunFault.{RunFault}
use Rattle.run_model.specs.declared.fault.RunFault.TheVariants as run
use Rattle.run_model.specs.promise.RunAnswer.{AnswersWithin, IsAnswer, IsAnswerTo}
use Rattle.run_model.specs.RunAnswer.{answer_of_check, answer_of_columns, answer_of_plan, answer_of_rows}
use Rattle.tree_check.specs.promise.Runs.{is_too_long}

-- ---- of a result and of an answer

abbrev inside : {A : Type 0} → Result A RunFault → Bool
inside (Ok x) = false
inside (Err fault) = memory_inside fault

abbrev within : Answer → Bool
within (Text text) = false
within (Fault fault) = memory_inside fault

-- ---- stage texts

abbrev of_stage : Result StageText StageFault → Bool
of_stage (Ok stage) = false
of_stage (Err fault) = is_stage_memory fault

or-arguments : (read : Option StageText) → of_stage (ok_or read stage.BadArguments) ≡ false
or-arguments None = refl
or-arguments (Some read) = refl

read-by : (word : Option StageWord) (arguments : Option (List ℕ)) → of_stage (read_by word arguments) ≡ false
read-by None arguments = refl
read-by (Some word) None = refl
read-by (Some word) (Some arguments) = or-arguments (word.read arguments)

stage-cut : (words : List StageWord) (text : List ℕ) (cut : Option Cut) → of_stage (stage_cut words text cut) ≡ false
stage-cut words text None = read-by (word_named words text) None
stage-cut words text (Some cut) = read-by (word_named words cut.front) (Some cut.behind)

before : (number : ℕ) (stage : Result StageText StageFault) (rest : Result (List StageText) RunFault) → of_stage stage ≡ false → inside rest ≡ false
    → inside (stage_before number stage rest) ≡ false
before number (Err fault) rest here behind = here
before number (Ok stage) (Ok stages) here behind = refl
before number (Ok stage) (Err fault) here behind = behind

of-stages : (number : ℕ) (texts : List (List ℕ)) → inside (stages_from number texts) ≡ false
of-stages number [] = refl
of-stages number (text ∷ texts) =
    before number (stage_of text) (stages_from (number + 1) texts) (stage-cut stage_words text (cut_at equals_sign text)) (of-stages (number + 1) texts)

-- ---- what words ask for

of-entries : (read : Result (List TypeEntry) TypesFault) → inside (asked_by read) ≡ false
of-entries (Ok entries) = refl
of-entries (Err (types.At entry rule)) = refl
of-entries (Err types.NoMemory) = refl

entries-ask : (schema : Option (List ℕ)) (asked : Result (List TypeEntry) RunFault) → EntriesAsk schema asked → inside asked ≡ false
entries-ask schema asked is = ap inside is.2 ∙ of-entries is.0

with-entries : (options : Options) (stages : List StageText) (asked : Result (List TypeEntry) RunFault) → inside asked ≡ false
    → inside (request_with options stages asked) ≡ false
with-entries options stages (Ok entries) is = refl
with-entries options stages (Err fault) is = is

stages-ask : (options : Options) (stages : Result (List StageText) RunFault) (asked : Result Request RunFault) → inside stages ≡ false
    → StagesAsk options stages asked → inside asked ≡ false
stages-ask options (Ok stages) asked none is = ap inside is.2 ∙ with-entries options stages is.0 (entries-ask options.schema is.0 is.1)
stages-ask options (Err fault) asked none is = ap inside is ∙ none

of-table : (request : Result Request RunFault) → inside (table_of request) ≡ inside request
of-table (Ok request) = refl
of-table (Err fault) = refl

task-is : (check : Bool) (options : Options) (asked : Result Task RunFault) → TaskIs check options asked → inside asked ≡ false
task-is true options asked is = ap inside is
task-is false options asked is =
    ap inside is.2 ∙ of-table is.0 ∙ stages-ask options (stages_from 1 options.stages) is.0 (of-stages 1 options.stages) is.1

options-ask : (options : Result Options WordsFault) (asked : Result Task RunFault) → OptionsAsk options asked → inside asked ≡ false
options-ask (Ok options) asked is = task-is options.check (meant_by options.selftest options) asked is
options-ask (Err fault) asked is = ap inside is

-- ---- trees

fails-here : (level : ℕ) (tree : SchemaTree) (rule : SchemaRule) → FailsHere level tree rule → rule_has_memory rule ≡ false
fails-here level tree rules.Deep fails = refl
fails-here level tree rules.Released fails = refl
fails-here level tree (rules.Format (format.At rule place)) fails = refl
fails-here level Released (rules.Format format.NoMemory) fails = absurd fails
fails-here level (Live s kids dict) (rules.Format format.NoMemory) fails = absurd fails
fails-here level Released (rules.Meta meta.NoMemory) fails = absurd fails
fails-here level (Live s kids dict) (rules.Meta meta.NoMemory) fails = absurd fails
fails-here level tree (rules.Meta (meta.Short place)) fails = refl
fails-here level tree (rules.Meta (meta.Negative place)) fails = refl
fails-here level tree (rules.Meta (meta.Trailing place)) fails = refl
fails-here level tree rules.ChildCount fails = refl
fails-here level tree rules.DictIndexType fails = refl
fails-here level tree rules.MapShape fails = refl

mutual
  fault-from : (level : ℕ) (tree : SchemaTree) (path : Steps) (rule : SchemaRule) → FaultFrom level tree path rule → rule_has_memory rule ≡ false
  fault-from level tree [] rule fault = fails-here level tree rule fault
  fault-from level Released (step ∷ path) rule fault = absurd fault
  fault-from level (Live s kids dict) (step ∷ path) rule fault = elim fault.1 [
    | inl kid ↦ kid-fault (level + 1) kids 0 step path rule kid
    | inr below ↦ dict-fault (level + 1) dict path rule below.2
  ]

  kid-fault : (level : ℕ) (kids : Trees SchemaMembers) (k step : ℕ) (path : Steps) (rule : SchemaRule) → KidFault level kids k step path rule
      → rule_has_memory rule ≡ false
  kid-fault level no_trees k step path rule fault = absurd fault
  kid-fault level (more_trees kid kids) k step path rule fault = elim fault [
    | inl here ↦ fault-from level kid path rule here.1
    | inr later ↦ kid-fault level kids (suc k) step path rule later.1
  ]

  dict-fault : (level : ℕ) (dict : MaybeTree SchemaMembers) (path : Steps) (rule : SchemaRule) → DictFault level dict path rule
      → rule_has_memory rule ≡ false
  dict-fault level absent path rule fault = absurd fault
  dict-fault level (present dict) path rule fault = fault-from level dict path rule fault

of-array : (typed : KindTree) (array : ArrayTree) (fault : Option ArrayFault) → within (answer_of_check (array_if typed array fault)) ≡ false
of-array typed array None = refl
of-array typed array (Some fault) = refl

of-kinds : (schema : SchemaTree) (array : ArrayTree) (read : Result KindTree FirstFault) → SchemaReads schema read
    → within (answer_of_check (kinds_checked read array)) ≡ false
of-kinds schema array (Ok typed) reads = of-array typed array (first_fault typed array)
of-kinds schema array (Err first) reads = fault-from 1 schema first.path first.rule reads

of-text : (bytes : List ℕ) (fault : TextFault) → Reads bytes (Err fault) → is_text_memory fault ≡ false
of-text bytes (texts.Line line) reads = refl
of-text bytes texts.TooManyLines reads = refl
of-text bytes texts.NoMemory reads = absurd reads

of-read : (bytes : List ℕ) (read : Result (SchemaTree × ArrayTree) TextFault) (checked : Checked) → Reads bytes read → ReadComes read checked
    → within (answer_of_check checked) ≡ false
of-read bytes (Ok read) checked reads comes = ap (λ c. within (answer_of_check c)) comes.2 ∙ of-kinds read.0 read.1 comes.0 comes.1
of-read bytes (Err fault) checked reads comes = ap (λ c. within (answer_of_check c)) comes ∙ of-text bytes fault reads

-- ---- tables

of-rows : (mark : List ℕ) (columns : List Column) (stages : List Stage) (read : Result (List Row) RowFault)
    → within (answer_of_rows mark columns stages read) ≡ false
of-rows mark columns stages (Ok rows) = refl
of-rows mark columns stages (Err (row.Ragged number found)) = refl
of-rows mark columns stages (Err (row.Field number column)) = refl

of-plan : (mark : List ℕ) (columns : List Column) (stages : Result (List Stage) PlanFault) (records : List Record)
    → within (answer_of_plan mark columns stages records) ≡ false
of-plan mark columns (Ok stages) records = of-rows mark columns stages (body mark columns records)
of-plan mark columns (Err (plan.At stage rule)) records = refl
of-plan mark columns (Err plan.NoMemory) records = refl

of-columns : (request : Request) (columns : Result (List Column) HeaderFault) (records : List Record)
    → within (answer_of_columns request columns records) ≡ false
of-columns request (Ok columns) records = of-plan request.mark columns (plan_of columns request.stages) records
of-columns request (Err header.NoHeader) records = refl
of-columns request (Err (header.TooManyColumns count)) records = refl
of-columns request (Err (header.NotText column)) records = refl
of-columns request (Err (header.Twice column)) records = refl
of-columns request (Err (header.Unknown entry)) records = refl
of-columns request (Err header.NoMemory) records = refl

-- ---- answers

of-within : (long : Bool) (task : Task) (bytes : List ℕ) (answer : Answer) → AnswersWithin long task bytes answer → within answer ≡ false
of-within true task bytes answer is = ap within is
of-within false (Table request) bytes answer is =
    let records = records_of bytes in
    ap within is ∙ of-columns request (header_of (entries_of request.entries) records) (behind_header records)
of-within false Tree bytes answer is = ap within is.2 ∙ of-read bytes is.1.read is.0 is.1.reads is.1.comes

of-answer-to : (asked : Result Task RunFault) (bytes : List ℕ) (answer : Answer) → inside asked ≡ false → IsAnswerTo asked bytes answer
    → within answer ≡ false
of-answer-to (Ok task) bytes answer none is = of-within (is_too_long bytes) task bytes answer is
of-answer-to (Err fault) bytes answer none is = ap within is ∙ none

pub of-answer : (words : List (List ℕ)) (bytes : List ℕ) (answer : Answer) → IsAnswer words bytes answer → within answer ≡ false
of-answer words bytes answer is = of-answer-to is.asked bytes answer (options-ask (words_of words) is.asked is.asks) is.is

-- ---- faults of a run

by-parts : (fault : RunFault) → has_memory_inside fault ≡ memory_inside fault
by-parts (run.Stage number stage.NoMemory) = refl
by-parts (run.Tree (trees.Text texts.NoMemory)) = refl
by-parts (run.Tree (trees.Schema path (rules.Format format.NoMemory))) = refl
by-parts (run.Tree (trees.Schema path (rules.Meta meta.NoMemory))) = refl
by-parts _ = refl

pub of-fault : (words : List (List ℕ)) (bytes : List ℕ) (fault : RunFault) → (is_decided fault ≡ true → IsAnswer words bytes (Fault fault))
    → has_memory_inside fault ≡ false
of-fault words bytes (run.Stage number fault) answer =
    by-parts (run.Stage number fault) ∙ of-answer words bytes (Fault (run.Stage number fault)) (answer refl)
of-fault words bytes (run.Tree fault) answer = by-parts (run.Tree fault) ∙ of-answer words bytes (Fault (run.Tree fault)) (answer refl)
of-fault words bytes _ answer = refl
