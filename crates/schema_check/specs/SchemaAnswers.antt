-- What the answers of the check of a schema say, of the whole and of the parts of a walk.
use Rattle.std.specs.Prelude.{◌≡◌, ℕ, List, ◌∷◌, ◌++◌, Option, Result, Ok, Err}
use Rattle.data_types.specs.declared.kind.DataType.{DataType}
use Rattle.tree_model.specs.promise.TreeData.{trees, maybe_tree}
use Rattle.tree_model.specs.promise.TreeParts.{children_of, dictionary_of}
use Rattle.raw_schema.specs.promise.Members.{SchemaTree, members_of}
use Rattle.schema_check.specs.declared.schema.SchemaFault.{SchemaFault}
use Rattle.schema_check.specs.declared.schema.SchemaFault.TheVariants.{At, NoMemory}
use Rattle.data_types.specs.declared.typed.Typed.{Typed}
use Rattle.data_types.specs.promise.KindTrees.{KindTree}
use Rattle.data_types.specs.promise.TypedView.{typed_of}
use Rattle.data_types.specs.promise.Ways.{Steps, dictionary_step, steps_of}
use Rattle.schema_check.specs.promise.Schemas.{NodeIs, FailsHere, FaultFrom, KidFault, DictFault, SchemaFaultIs}
use Rattle.schema_check.specs.promise.SchemaAnswers.{FirstFault}

-- ---- the whole

-- The code's answer is this one, or out of memory.
abbrev pub Gives : Result Typed SchemaFault → Result KindTree FirstFault → Type 0
Gives (Ok typed) read = read ≡ Ok (typed_of typed)
Gives (Err (At path rule)) read = read ≡ Err (record { path = steps_of path; rule = rule })
Gives (Err NoMemory) read = Unit {0}

-- It is the first fault, if it is no out-of-memory.
abbrev pub IsFirstFault : SchemaTree → SchemaFault → Type 0
IsFirstFault schema (At path rule) = SchemaFaultIs schema (steps_of path) rule
IsFirstFault schema NoMemory = Unit {0}

-- ---- the parts of a walk, below a way

-- the node itself meets each rule
abbrev pub NodeOf : ℕ → SchemaTree → DataType → Type 0
NodeOf level schema kind = NodeIs level (members_of schema) (trees (children_of schema)) (maybe_tree (dictionary_of schema)) kind

abbrev pub FaultHere : ℕ → SchemaTree → Steps → SchemaFault → Type 0
FaultHere level schema way (At path rule) = (steps_of path ≡ way) × FailsHere level schema rule
FaultHere level schema way NoMemory = Unit {0}

abbrev pub FaultBelow : ℕ → SchemaTree → Steps → SchemaFault → Type 0
FaultBelow level schema way (At path rule) = (below : Steps) × (steps_of path ≡ way ++ below) × FaultFrom level schema below rule
FaultBelow level schema way NoMemory = Unit {0}

abbrev pub FaultInKids : ℕ → List SchemaTree → Steps → SchemaFault → Type 0
FaultInKids level kids way (At path rule) =
    (step : ℕ) × (below : Steps) × (steps_of path ≡ way ++ step ∷ below) × KidFault level (trees kids) 0 step below rule
FaultInKids level kids way NoMemory = Unit {0}

abbrev pub FaultInDict : ℕ → Option SchemaTree → Steps → SchemaFault → Type 0
FaultInDict level dict way (At path rule) =
    (below : Steps) × (steps_of path ≡ way ++ dictionary_step ∷ below) × DictFault level (maybe_tree dict) below rule
FaultInDict level dict way NoMemory = Unit {0}
