-- What the answers of the calls say.
use Rattle.std.specs.Prelude.{◌≡◌, map, Option, None, Some, Result, Ok, Err}
use Rattle.raw_schema.specs.promise.Members.{SchemaTree}
use Rattle.data_types.specs.promise.TypedView.{typed_of}
use Rattle.data_types.specs.promise.Ways.{steps_of}
use Rattle.schema_check.specs.declared.schema.SchemaFault.TheVariants as schema
use Rattle.schema_meta.specs.declared.fault.MetaFault.TheVariants as meta
use Rattle.layout_rules.specs.Found.{fault_of}
use Rattle.root_check.specs.declared.own.OwnRule.TheVariants as own
use Rattle.root_check.specs.declared.own_schema.OwnSchemaFault.TheVariants as parts
use Rattle.union_cols.specs.declared.kinds.UnionTyped.{UnionTyped}
use Rattle.union_cols.specs.declared.schema_fault.UnionSchemaFault.{UnionSchemaFault}
use Rattle.union_cols.specs.declared.schema_fault.UnionSchemaFault.TheVariants as faults
use Rattle.union_cols.specs.declared.rule.UnionRule.{UnionRule}
use Rattle.union_cols.specs.declared.rule.UnionRule.TheVariants as rules
use Rattle.union_cols.specs.declared.rule.UnionFault.{UnionFault}
use Rattle.union_cols.specs.promise.Unions.{UnionTree}
use Rattle.union_cols.specs.promise.UnionRules.{Rule, Own, BufferAbsent, BufferShort, BadTypeId, Child, ChildShort, OffsetRange, WindowTooLong}
use Rattle.union_cols.specs.UnionRules.{UnionFound}
use Rattle.union_cols.specs.promise.UnionSchemas as schemas
use Rattle.union_cols.specs.promise.UnionSchemas.{SchemaFound, UnionReads}

-- the kinds that the code keeps
abbrev pub union_of : UnionTyped → UnionTree
union_of typed = record { dense = typed.dense; ids = typed.ids.items; kids = map typed_of typed.kids.items }

-- ---- faults of schemas

-- the fault that the code names, and none where memory runs out
abbrev pub named : UnionSchemaFault → Option SchemaFound
named faults.Released = Some schemas.IsReleased
named (faults.Format place) = Some (schemas.Format place)
named (faults.Meta fault) = Some (schemas.OwnPart (parts.Meta fault))
named faults.Dictionary = Some (schemas.OwnPart parts.Dictionary)
named (faults.ChildCount found needed) = Some (schemas.ChildCount found needed)
named (faults.Child child (schema.At path rule)) = Some (schemas.Child (record { child = child; first = record { path = steps_of path; rule = rule } }))
named (faults.Child child schema.NoMemory) = None
named faults.NoMemory = None

-- an out-of-memory inside another fault
abbrev pub IsWhole : UnionSchemaFault → Type 0
IsWhole (faults.Child child schema.NoMemory) = ⊥
IsWhole (faults.Meta meta.NoMemory) = ⊥
IsWhole _ = Unit {0}

abbrev pub FailsIf : SchemaTree → Option SchemaFound → Type 0
FailsIf schema None = Unit {0}
FailsIf schema (Some found) = UnionReads schema (Err found)

-- It is the first fault, if it is no out-of-memory, which is never inside another fault.
abbrev pub IsUnionFault : SchemaTree → UnionSchemaFault → Type 0
IsUnionFault schema fault = IsWhole fault × FailsIf schema (named fault)

abbrev pub GivesIf : Option SchemaFound → Result UnionTree SchemaFound → Type 0
GivesIf None read = Unit {0}
GivesIf (Some found) read = read ≡ Err found

-- The code's answer is this one, or out of memory.
abbrev pub GivesUnion : Result UnionTyped UnionSchemaFault → Result UnionTree SchemaFound → Type 0
GivesUnion (Ok typed) read = read ≡ Ok (union_of typed)
GivesUnion (Err fault) read = GivesIf (named fault) read

-- ---- faults of arrays

abbrev pub rule_of : UnionRule → Rule
rule_of rules.Released = Own own.Released
rule_of rules.NegativeLength = Own own.NegativeLength
rule_of rules.NegativeOffset = Own own.NegativeOffset
rule_of rules.BufferCount = Own own.BufferCount
rule_of rules.ChildCount = Own own.ChildCount
rule_of rules.Dictionary = Own own.Dictionary
rule_of rules.NullCount = Own own.NullCount
rule_of rules.BufferAbsent = BufferAbsent
rule_of rules.BufferShort = BufferShort
rule_of rules.BadTypeId = BadTypeId
rule_of (rules.Child fault) = Child (fault_of fault)
rule_of rules.ChildShort = ChildShort
rule_of rules.OffsetRange = OffsetRange
rule_of rules.WindowTooLong = WindowTooLong

abbrev pub found_of : UnionFault → UnionFound
found_of f = record { rule = rule_of f.rule; numbers = record { place = f.place; left = f.left; right = f.right } }

abbrev pub found_union : {X : Type 0} → Result X UnionFault → Option UnionFound
found_union (Ok x) = None
found_union (Err fault) = Some (found_of fault)
