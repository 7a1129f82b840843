-- Why two structures are not taken.
use Rattle.std.specs.Prelude.{◌≡◌, Some}
use Rattle.raw_array.specs.promise.Members.{ArrayTree}
use Rattle.raw_schema.specs.promise.Members.{SchemaTree}
use Rattle.data_types.specs.promise.KindTrees.{KindTree}
use Rattle.schema_check.specs.promise.Schemas.{TypedOf}
use Rattle.schema_check.specs.SchemaAnswers.{IsFirstFault}
use Rattle.layout_rules.specs.Found.{fault_of}
use Rattle.layout_rules.specs.promise.Walk.{first_fault}
use Rattle.tree_check.specs.declared.imported.ImportFault.{ImportFault}
use Rattle.tree_check.specs.declared.imported.ImportFault.TheVariants.{Schema, Layout}

-- the schema's first fault, or out of memory; else the array's first fault by the schema's kinds
abbrev pub IsImportFault : SchemaTree → ArrayTree → ImportFault → Type 0
IsImportFault schema array (Schema fault) = IsFirstFault schema fault
IsImportFault schema array (Layout fault) = (typed : KindTree) × TypedOf schema typed × (first_fault typed array ≡ Some (fault_of fault))
