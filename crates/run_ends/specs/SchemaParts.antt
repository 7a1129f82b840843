-- The faults of a schema's parts as those of the schema of runs.
use Rattle.root_check.specs.declared.own_schema.OwnSchemaFault.{OwnSchemaFault}
use Rattle.root_check.specs.declared.own_schema.OwnSchemaFault.TheVariants as parts
use Rattle.root_check.specs.declared.kids.ChildKindsFault.{ChildKindsFault}
use Rattle.root_check.specs.declared.kids.ChildKindsFault.TheVariants as kids
use Rattle.run_ends.specs.declared.schema_fault.RunsSchemaFault.{RunsSchemaFault}
use Rattle.run_ends.specs.declared.schema_fault.RunsSchemaFault.TheVariants as faults

abbrev pub own_refused : OwnSchemaFault → RunsSchemaFault
own_refused (parts.Meta fault) = faults.Meta fault
own_refused parts.Dictionary = faults.Dictionary

abbrev pub kids_refused : ChildKindsFault → RunsSchemaFault
kids_refused (kids.Child child fault) = faults.Child child fault
kids_refused kids.NoMemory = faults.NoMemory
