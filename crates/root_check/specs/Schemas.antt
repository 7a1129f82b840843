-- What an answer says of the schemas of a root's children.
use Rattle.std.specs.Prelude.{List, Result, Ok, Err}
use Rattle.std.specs.List.{AllZip}
use Rattle.raw_schema.specs.promise.Members.{SchemaTree}
use Rattle.data_types.specs.promise.KindTrees.{KindTree}
use Rattle.schema_check.specs.promise.Schemas.{TypedOf}
use Rattle.root_check.specs.promise.Schemas.{IsKidFault, KidFault}

-- What the children are: each of these kinds, or the first one at fault.
abbrev pub KidsRead : List SchemaTree → Result (List KindTree) KidFault → Type 0
KidsRead children (Ok kids) = AllZip TypedOf children kids
KidsRead children (Err fault) = IsKidFault children fault
