-- The text of a fault of the code's check of a schema.
use Rattle.std.specs.Prelude.{ℕ, ◌++◌, List, codes}
use Rattle.schema_check.specs.declared.schema.SchemaFault.{SchemaFault}
use Rattle.schema_check.specs.declared.schema.SchemaFault.TheVariants as faults
use Rattle.data_types.specs.promise.Ways.{steps_of}
use Rattle.data_types.specs.promise.WayTexts.{way_text}
use Rattle.schema_check.specs.promise.FaultTexts.{schema_rule_text}

abbrev pub schema_fault_text : SchemaFault → List ℕ
schema_fault_text (faults.At path rule) = way_text (steps_of path) ++ codes ": schema: " ++ schema_rule_text rule
schema_fault_text faults.NoMemory = codes "out of memory"
