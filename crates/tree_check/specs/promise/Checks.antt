-- What the check of a text of trees comes to: a report, or the first fault of the text, of the schema or of the array.
use Rattle.std.specs.Prelude.{◌≡◌, ℕ, ◌+◌, List, Option, None, Some, Result, Ok, Err}
use Rattle.unit_pass.specs.promise.Tally.{risen}
use Rattle.tree_model.specs.promise.TreeCost.{Holds, Nodes}
use Rattle.raw_schema.specs.promise.Members.{SchemaTree}
use Rattle.raw_array.specs.promise.Members.{ArrayTree, holds}
use Rattle.data_types.specs.promise.Ways.{path_of}
use Rattle.data_types.specs.promise.KindTrees.{KindTree}
use Rattle.schema_check.specs.promise.SchemaAnswers.{FirstFault, SchemaReads}
use Rattle.layout_rules.specs.promise.Walk.{Fault, first_fault}
use Rattle.layout_rules.specs.declared.rule.LayoutFault.{LayoutFault}
use Rattle.tree_text.specs.promise.Answers.{Reads}
use Rattle.tree_text.specs.promise.Report.{ReportOf}
use Rattle.tree_text.specs.promise.TreeText.{TreeIs}
use Rattle.tree_text.specs.declared.fault.TextFault.{TextFault}
use Rattle.tree_check.specs.declared.fault.TreeFault.{TreeFault}
use Rattle.tree_check.specs.declared.fault.TreeFault.TheVariants as trees

-- ---- the faults

-- the first fault of an array, as the code tells it
abbrev pub array_told : Fault → LayoutFault
array_told fault = record {
  path = path_of fault.path;
  rule = fault.rule;
  place = fault.numbers.place;
  left = fault.numbers.left;
  right = fault.numbers.right;
}

-- ---- the check

-- a report, or the first fault
abbrev pub Checked : Type 0
Checked = Result (List ℕ) TreeFault

abbrev pub array_if : KindTree → ArrayTree → Option Fault → Checked
array_if typed array None = Ok (ReportOf typed array)
array_if typed array (Some fault) = Err (trees.Layout (array_told fault))

-- The schema comes first. An array under a schema of these kinds comes to its report, where no rule fails at any node. It may be of any
-- kind, so it isn't asked to be a table.
abbrev pub kinds_checked : Result KindTree FirstFault → ArrayTree → Checked
kinds_checked (Ok typed) array = array_if typed array (first_fault typed array)
kinds_checked (Err first) array = Err (trees.Schema (path_of first.path) first.rule)

-- two trees come to this
abbrev pub TreesCome : SchemaTree → ArrayTree → Checked → Type 0
TreesCome schema array checked = (read : Result KindTree FirstFault) × SchemaReads schema read × (checked ≡ kinds_checked read array)

-- what was read of a text comes to this
abbrev pub ReadComes : Result (SchemaTree × ArrayTree) TextFault → Checked → Type 0
ReadComes (Ok read) checked = TreesCome read.0 read.1 checked
ReadComes (Err fault) checked = checked ≡ Err (trees.Text fault)

-- The check of a text comes to this: the text is read first.
pub record ChecksTo (bytes : List ℕ) (checked : Checked) : Type 0 where
  pub read : Result (SchemaTree × ArrayTree) TextFault
  pub reads : Reads bytes read
  pub comes : ReadComes read checked

-- ---- what is made

-- The counts of blocks and nodes rise by those of the trees of a text: a block for each buffer that is there, and a node for
-- each live node of the schema and of the array.
pub record CountsTrees (bytes : List ℕ) (old_blocks old_nodes blocks nodes : ℕ) : Type 0 where
  pub schema : SchemaTree
  pub array : ArrayTree
  pub text : TreeIs bytes schema array
  pub blocks_are : blocks ≡ risen old_blocks (Holds holds array)
  pub nodes_are : nodes ≡ risen old_nodes (Nodes schema + Nodes array)
