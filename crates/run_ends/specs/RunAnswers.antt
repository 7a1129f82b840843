-- What the answers of the calls say.
use Rattle.std.specs.Prelude.{◌≡◌, Option, None, Some, Result, Ok, Err}
use Rattle.raw_schema.specs.promise.Members.{SchemaTree}
use Rattle.data_types.specs.promise.TypedView.{typed_of}
use Rattle.data_types.specs.promise.Ways.{steps_of}
use Rattle.schema_check.specs.declared.schema.SchemaFault.TheVariants as schema
use Rattle.schema_meta.specs.declared.fault.MetaFault.TheVariants as meta
use Rattle.layout_rules.specs.Found.{fault_of}
use Rattle.root_check.specs.declared.own.OwnRule.TheVariants as own
use Rattle.root_check.specs.declared.own_schema.OwnSchemaFault.TheVariants as parts
use Rattle.run_ends.specs.declared.kinds.RunTyped.{RunTyped}
use Rattle.run_ends.specs.declared.schema_fault.RunsSchemaFault.{RunsSchemaFault}
use Rattle.run_ends.specs.declared.schema_fault.RunsSchemaFault.TheVariants as faults
use Rattle.run_ends.specs.declared.rule.RunsRule.{RunsRule}
use Rattle.run_ends.specs.declared.rule.RunsRule.TheVariants as rules
use Rattle.run_ends.specs.declared.rule.RunsFault.{RunsFault}
use Rattle.run_ends.specs.promise.Runs.{RunTree}
use Rattle.run_ends.specs.promise.RunRules.{Rule, Own, Child, EndsNull, EndsFall, ValuesShort, EndsShort, WindowTooLong}
use Rattle.run_ends.specs.RunRules.{RunsFound}
use Rattle.run_ends.specs.promise.RunSchemas as schemas
use Rattle.run_ends.specs.promise.RunSchemas.{SchemaFound, RunsReads}

-- the kinds that the code keeps
abbrev pub runs_of : RunTyped → RunTree
runs_of typed = record { ends = typed_of typed.ends; values = typed_of typed.values }

-- ---- faults of schemas

-- the fault that the code names, and none where memory runs out
abbrev pub named : RunsSchemaFault → Option SchemaFound
named faults.Released = Some schemas.IsReleased
named faults.Format = Some schemas.Format
named (faults.Meta fault) = Some (schemas.OwnPart (parts.Meta fault))
named faults.Dictionary = Some (schemas.OwnPart parts.Dictionary)
named (faults.ChildCount found) = Some (schemas.ChildCount found)
named (faults.Child child (schema.At path rule)) = Some (schemas.Child (record { child = child; first = record { path = steps_of path; rule = rule } }))
named (faults.Child child schema.NoMemory) = None
named faults.EndsType = Some schemas.EndsType
named faults.NoMemory = None

-- an out-of-memory inside another fault
abbrev pub IsWhole : RunsSchemaFault → Type 0
IsWhole (faults.Child child schema.NoMemory) = ⊥
IsWhole (faults.Meta meta.NoMemory) = ⊥
IsWhole _ = Unit {0}

abbrev pub FailsIf : SchemaTree → Option SchemaFound → Type 0
FailsIf schema None = Unit {0}
FailsIf schema (Some found) = RunsReads schema (Err found)

-- It is the first fault, if it is no out-of-memory, which is never inside another fault.
abbrev pub IsRunsFault : SchemaTree → RunsSchemaFault → Type 0
IsRunsFault schema fault = IsWhole fault × FailsIf schema (named fault)

abbrev pub GivesIf : Option SchemaFound → Result RunTree SchemaFound → Type 0
GivesIf None read = Unit {0}
GivesIf (Some found) read = read ≡ Err found

-- The code's answer is this one, or out of memory.
abbrev pub GivesRuns : Result RunTyped RunsSchemaFault → Result RunTree SchemaFound → Type 0
GivesRuns (Ok typed) read = read ≡ Ok (runs_of typed)
GivesRuns (Err fault) read = GivesIf (named fault) read

-- ---- faults of arrays

abbrev pub rule_of : RunsRule → Rule
rule_of rules.Released = Own own.Released
rule_of rules.NegativeLength = Own own.NegativeLength
rule_of rules.NegativeOffset = Own own.NegativeOffset
rule_of rules.BufferCount = Own own.BufferCount
rule_of rules.ChildCount = Own own.ChildCount
rule_of rules.Dictionary = Own own.Dictionary
rule_of rules.NullCount = Own own.NullCount
rule_of (rules.Child fault) = Child (fault_of fault)
rule_of rules.EndsNull = EndsNull
rule_of rules.EndsFall = EndsFall
rule_of rules.ValuesShort = ValuesShort
rule_of rules.EndsShort = EndsShort
rule_of rules.WindowTooLong = WindowTooLong

abbrev pub found_of : RunsFault → RunsFound
found_of f = record { rule = rule_of f.rule; numbers = record { place = f.place; left = f.left; right = f.right } }

abbrev pub found_runs : {X : Type 0} → Result X RunsFault → Option RunsFound
found_runs (Ok x) = None
found_runs (Err fault) = Some (found_of fault)
