-- What the program for trees answers: the text of a command, or the first fault of the words, the input, its text, the schema and
-- the array.
use Rattle.std.specs.Prelude.{◌≡◌, ◌+◌, ◌-◌, ◌*◌, ℕ, Bool, true, false, List, [], ◌∷◌, length, map, string_bytes, if◌then◌else◌, codes, Option, None, Some, Result, Ok, Err, String}
use Rattle.std.specs.Global.{Global}
use Rattle.std.specs.Option.{option_and_then}
use Rattle.std.specs.Str.{bytes_eq}
use Rattle.unit_pass.specs.promise.Tally.{risen}
use Rattle.data_types.specs.promise.KindTrees.{KindTree}
use Rattle.list_cols.specs.promise.Exploded.{exploded_blocks}
use Rattle.list_cols.specs.promise.NestedTables.{nested_blocks}
use Rattle.schema_check.specs.promise.Schemas.{TypedOf}
use Rattle.tree_model.specs.promise.TreeParts.{children_of}
use Rattle.tree_model.specs.promise.TreeCost.{Holds, Nodes}
use Rattle.raw_array.specs.promise.Members.{ArrayTree, holds}
use Rattle.raw_schema.specs.promise.Members.{SchemaTree}
use Rattle.tree_check.specs.promise.Runs.{is_too_long}
use Rattle.tree_text.specs.promise.Answers.{Reads}
use Rattle.tree_text.specs.promise.TreeText.{TreeIs}
use Rattle.tree_text.specs.declared.fault.TextFault.{TextFault}
use Rattle.union_cols.specs.promise.Tags.{tag_blocks}
use Rattle.tree_top.specs.promise.Columns.{column_number}
use Rattle.tree_top.specs.promise.FlatAnswer.{FlatAnswer}
use Rattle.tree_top.specs.promise.ForeignAnswer.{ForeignAnswer}
use Rattle.tree_top.specs.promise.ListsAnswer.{ExplodeAnswer, NestAnswer}
use Rattle.tree_top.specs.promise.RowsAnswer.{RowsAnswer}
use Rattle.tree_top.specs.promise.RunsAnswer.{RunsAnswer}
use Rattle.tree_top.specs.promise.TextOrFault.{Answer, Fault, Text}
use Rattle.tree_top.specs.promise.TagAnswer.{TagAnswer}
use Rattle.tree_top.specs.promise.UnionAnswer.{UnionAnswer}
use Rattle.tree_top.specs.declared.command.Command.{Command}
use Rattle.tree_top.specs.declared.command.Command.TheVariants as commands
use Rattle.tree_top.specs.declared.fault.TreeRunFault.TheVariants as run

-- ---- commands

abbrev pub command_named : List ℕ → Option Command
command_named word =
    if bytes_eq word (codes "union") then Some commands.Union
    else if bytes_eq word (codes "tag") then Some (commands.Tag false)
    else if bytes_eq word (codes "tagdense") then Some (commands.Tag true)
    else if bytes_eq word (codes "foreign") then Some commands.Foreign
    else if bytes_eq word (codes "runs") then Some commands.Runs
    else if bytes_eq word (codes "flat") then Some commands.Flat
    else None

-- a command of a column with a number
abbrev pub column_command : List ℕ → ℕ → Option Command
column_command word column =
    if bytes_eq word (codes "explode") then Some (commands.Explode column)
    else if bytes_eq word (codes "nest") then Some (commands.Nest column)
    else None

-- the command that the words are, if they are one: no words are that of the rows
abbrev pub command_of : List (List ℕ) → Option Command
command_of [] = Some commands.Rows
command_of (word ∷ []) = command_named word
command_of (word ∷ number ∷ []) = option_and_then (column_command word) (column_number number)
command_of (word ∷ number ∷ next ∷ more) = None

abbrev pub texts_of : List (String Global) → List (List ℕ)
texts_of words = map (λ s. string_bytes s) words

-- ---- the text of a command, or its fault

-- the answer of a command to the two trees of a text
abbrev pub TreesAnswer : Command → SchemaTree → ArrayTree → Answer → Type 0
TreesAnswer commands.Rows schema array answer = RowsAnswer schema array answer
TreesAnswer commands.Union schema array answer = UnionAnswer schema array answer
TreesAnswer (commands.Tag dense) schema array answer = TagAnswer dense schema array answer
TreesAnswer commands.Foreign schema array answer = ForeignAnswer schema array answer
TreesAnswer commands.Runs schema array answer = RunsAnswer schema array answer
TreesAnswer commands.Flat schema array answer = FlatAnswer schema array answer
TreesAnswer (commands.Explode column) schema array answer = ExplodeAnswer column schema array answer
TreesAnswer (commands.Nest column) schema array answer = NestAnswer column schema array answer

-- to what was read of a text
abbrev pub ReadAnswer : Command → Result (SchemaTree × ArrayTree) TextFault → Answer → Type 0
ReadAnswer command (Ok read) answer = TreesAnswer command read.0 read.1 answer
ReadAnswer command (Err fault) answer = answer ≡ Fault (run.Text fault)

-- to a text that isn't too long, which is read first
pub record TextAnswer (command : Command) (bytes : List ℕ) (answer : Answer) : Type 0 where
  pub read : Result (SchemaTree × ArrayTree) TextFault
  pub reads : Reads bytes read
  pub is : ReadAnswer command read answer

-- ---- the answer to words and bytes

-- where it is given whether the input is too long
abbrev pub AnswerWithin : Bool → Command → List ℕ → Answer → Type 0
AnswerWithin true command bytes answer = answer ≡ Fault run.InputTooLong
AnswerWithin false command bytes answer = TextAnswer command bytes answer

-- where there may be no command
abbrev pub IsAnswerTo : Option Command → List ℕ → Answer → Type 0
IsAnswerTo (Some command) bytes answer = AnswerWithin (is_too_long bytes) command bytes answer
IsAnswerTo None bytes answer = answer ≡ Fault run.Words

-- ---- what is made

-- the counts of blocks and nodes rise by what a command makes of its trees, behind those of the trees
abbrev pub Makes : Command → SchemaTree → ArrayTree → ℕ → ℕ → ℕ → ℕ → Type 0
Makes commands.Rows schema array old_blocks old_nodes blocks nodes = (blocks ≡ old_blocks) × (nodes ≡ old_nodes)
Makes commands.Union schema array old_blocks old_nodes blocks nodes = (blocks ≡ old_blocks) × (nodes ≡ old_nodes)
-- a union over the columns: its schema's node and its own, and its buffers
Makes (commands.Tag dense) schema array old_blocks old_nodes blocks nodes = (blocks ≡ risen old_blocks (tag_blocks dense array)) × (nodes ≡ risen old_nodes 2)
-- the producer's own block
Makes commands.Foreign schema array old_blocks old_nodes blocks nodes = (blocks ≡ risen old_blocks 1) × (nodes ≡ old_nodes)
Makes commands.Runs schema array old_blocks old_nodes blocks nodes = (blocks ≡ old_blocks) × (nodes ≡ old_nodes)
Makes commands.Flat schema array old_blocks old_nodes blocks nodes = (blocks ≡ old_blocks) × (nodes ≡ old_nodes)
-- a node for each column, one for their table and two of the schema; a block for each of the columns' buffers
Makes (commands.Explode column) schema array old_blocks old_nodes blocks nodes =
    (typed : KindTree) × TypedOf schema typed × (blocks ≡ risen old_blocks (exploded_blocks column typed array))
    × (nodes ≡ risen old_nodes (length (children_of typed) + 3))
-- two nodes for each column of the new array, one of the schema and two for each list in it; a block for each of the array's buffers
Makes (commands.Nest column) schema array old_blocks old_nodes blocks nodes =
    (typed : KindTree) × TypedOf schema typed × (blocks ≡ risen old_blocks (nested_blocks column typed array))
    × (nodes ≡ risen old_nodes (4 * length (children_of typed) - 1))

-- The counts rise by the trees of a text, a block for each buffer that is there and a node for each live node of the schema and of
-- the array, and then by what the command makes.
pub record CountsCommand (command : Command) (bytes : List ℕ) (old_blocks old_nodes blocks nodes : ℕ) : Type 0 where
  pub schema : SchemaTree
  pub array : ArrayTree
  pub text : TreeIs bytes schema array
  pub made : Makes command schema array (risen old_blocks (Holds holds array)) (risen old_nodes (Nodes schema + Nodes array)) blocks nodes
