-- The faults of the parts as those of the check, and what an answer says of them.
use Rattle.std.specs.Prelude.{Err}
use Rattle.data_types.specs.promise.Ways.{path_of, steps_of}
use Rattle.layout_rules.specs.Found.{fault_of}
use Rattle.layout_rules.specs.promise.Walk.{Fault}
use Rattle.layout_rules.specs.declared.rule.LayoutFault.{LayoutFault}
use Rattle.schema_check.specs.promise.SchemaAnswers.{FirstFault}
use Rattle.schema_check.specs.declared.schema.SchemaFault.{SchemaFault}
use Rattle.schema_check.specs.declared.schema.SchemaFault.TheVariants as schemas
use Rattle.tree_text.specs.declared.fault.TextFault.{TextFault}
use Rattle.tree_text.specs.declared.fault.TextFault.TheVariants as texts
use Rattle.tree_check.specs.declared.fault.CheckFault.{CheckFault}
use Rattle.tree_check.specs.declared.fault.CheckFault.TheVariants as check
use Rattle.tree_check.specs.declared.fault.TreeFault.{TreeFault}
use Rattle.tree_check.specs.declared.fault.TreeFault.TheVariants as trees
use Rattle.tree_check.specs.promise.Checks.{Checked, array_told}

-- ---- the first faults

-- of a schema
abbrev pub schema_fault : FirstFault → TreeFault
schema_fault first = trees.Schema (path_of first.path) first.rule

-- of an array
abbrev pub array_fault : Fault → TreeFault
array_fault fault = trees.Layout (array_told fault)

-- ---- the program's answers

-- the fault of a text, of a schema or of an array as the check's: out of memory is itself
abbrev pub text_refused : TextFault → CheckFault
text_refused texts.NoMemory = check.NoMemory
text_refused (texts.Line line) = check.Tree (trees.Text (texts.Line line))
text_refused texts.TooManyLines = check.Tree (trees.Text texts.TooManyLines)

abbrev pub schema_refused : SchemaFault → CheckFault
schema_refused schemas.NoMemory = check.NoMemory
schema_refused (schemas.At path rule) = check.Tree (schema_fault (record { path = steps_of path; rule = rule }))

abbrev pub array_refused : LayoutFault → CheckFault
array_refused fault = check.Tree (array_fault (fault_of fault))

-- it is what the check comes to, if it is no out-of-memory
abbrev pub IsToldOf : (Checked → Type 0) → CheckFault → Type 0
IsToldOf Comes (check.Tree fault) = Comes (Err fault)
IsToldOf Comes check.NoMemory = Unit {0}
