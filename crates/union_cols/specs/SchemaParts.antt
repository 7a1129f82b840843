-- The faults of a schema's parts as those of a union's schema.
use Rattle.root_check.specs.declared.own_schema.OwnSchemaFault.{OwnSchemaFault}
use Rattle.root_check.specs.declared.own_schema.OwnSchemaFault.TheVariants as parts
use Rattle.root_check.specs.declared.kids.ChildKindsFault.{ChildKindsFault}
use Rattle.root_check.specs.declared.kids.ChildKindsFault.TheVariants as kids
use Rattle.union_cols.specs.declared.schema_fault.UnionSchemaFault.{UnionSchemaFault}
use Rattle.union_cols.specs.declared.schema_fault.UnionSchemaFault.TheVariants as faults

abbrev pub own_refused : OwnSchemaFault → UnionSchemaFault
own_refused (parts.Meta fault) = faults.Meta fault
own_refused parts.Dictionary = faults.Dictionary

abbrev pub kids_refused : ChildKindsFault → UnionSchemaFault
kids_refused (kids.Child child fault) = faults.Child child fault
kids_refused kids.NoMemory = faults.NoMemory
