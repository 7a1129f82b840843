-- What the answer on the kinds of children says.
use Rattle.std.specs.Prelude.{◌≡◌, ℕ, List, map, Result, Ok, Err, Vec}
use Rattle.std.specs.Global.{Global}
use Rattle.raw_schema.specs.promise.Members.{SchemaTree}
use Rattle.data_types.specs.declared.typed.Typed.{Typed}
use Rattle.data_types.specs.promise.KindTrees.{KindTree}
use Rattle.data_types.specs.promise.TypedView.{typed_of}
use Rattle.data_types.specs.promise.Ways.{steps_of}
use Rattle.schema_check.specs.promise.Schemas.{SchemaFaultIs}
use Rattle.schema_check.specs.declared.schema.SchemaFault.TheVariants as schema
use Rattle.root_check.specs.declared.kids.ChildKindsFault.{ChildKindsFault}
use Rattle.root_check.specs.declared.kids.ChildKindsFault.TheVariants.{Child, NoMemory}
use Rattle.root_check.specs.promise.Schemas.{KidFault, IsKidFault}

-- It is the first child at fault, if it is no out-of-memory: a fault inside is never that.
abbrev pub IsFaultOfKids : List SchemaTree → ChildKindsFault → Type 0
IsFaultOfKids children (Child child (schema.At path rule)) = IsKidFault children (record { child = child; first = record { path = steps_of path; rule = rule } })
IsFaultOfKids children (Child child schema.NoMemory) = ⊥
IsFaultOfKids children NoMemory = Unit {0}

-- the same of the child of this number alone
abbrev pub IsFaultOfKid : ℕ → SchemaTree → ChildKindsFault → Type 0
IsFaultOfKid i kid (Child child (schema.At path rule)) = (child ≡ i) × SchemaFaultIs kid (steps_of path) rule
IsFaultOfKid i kid (Child child schema.NoMemory) = ⊥
IsFaultOfKid i kid NoMemory = Unit {0}

-- The code's answer is this one, or out of memory.
abbrev pub GivesKids : Result (Vec Typed Global) ChildKindsFault → Result (List KindTree) KidFault → Type 0
GivesKids (Ok kids) read = read ≡ Ok (map typed_of kids.items)
GivesKids (Err (Child child (schema.At path rule))) read = read ≡ Err (record { child = child; first = record { path = steps_of path; rule = rule } })
GivesKids (Err (Child child schema.NoMemory)) read = ⊥
GivesKids (Err NoMemory) read = Unit {0}
