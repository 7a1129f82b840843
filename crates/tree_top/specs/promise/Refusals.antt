-- The fault of a run by that of a check. Out of memory is itself, and the way to a node has 0 in each place behind it.
use Rattle.data_types.specs.promise.Ways.{path_of}
use Rattle.layout_rules.specs.promise.Walk.{Fault as ArrayFault}
use Rattle.root_check.specs.declared.own.OwnRule.{OwnRule}
use Rattle.root_check.specs.declared.own.OwnRule.TheVariants as own
use Rattle.root_check.specs.declared.own_schema.OwnSchemaFault.{OwnSchemaFault}
use Rattle.root_check.specs.declared.own_schema.OwnSchemaFault.TheVariants as parts
use Rattle.schema_check.specs.declared.schema.SchemaFault.TheVariants as schema
use Rattle.tree_check.specs.promise.Checks.{array_told}
use Rattle.union_cols.specs.promise.UnionRules as by
use Rattle.union_cols.specs.promise.UnionRules.{Rule}
use Rattle.root_check.specs.promise.Found.{RuleFound}
use Rattle.schema_check.specs.promise.SchemaAnswers.{FirstFault}
use Rattle.union_cols.specs.promise.UnionSchemas as found
use Rattle.union_cols.specs.promise.UnionSchemas.{SchemaFound}
use Rattle.union_cols.specs.declared.rule.UnionFault.{UnionFault}
use Rattle.union_cols.specs.declared.rule.UnionRule.{UnionRule}
use Rattle.union_cols.specs.declared.rule.UnionRule.TheVariants as rules
use Rattle.union_cols.specs.declared.schema_fault.UnionSchemaFault.{UnionSchemaFault}
use Rattle.union_cols.specs.declared.schema_fault.UnionSchemaFault.TheVariants as faults
use Rattle.tree_top.specs.declared.fault.TreeRunFault.{TreeRunFault}
use Rattle.tree_top.specs.declared.fault.TreeRunFault.TheVariants as run

-- ---- schemas and arrays

-- the fault of a run by the first one of a schema
abbrev pub schema_told : FirstFault → TreeRunFault
schema_told first = run.Schema (path_of first.path) first.rule

-- and by the first one of an array
abbrev pub layout_told : ArrayFault → TreeRunFault
layout_told fault = run.Layout (array_told fault)

-- ---- a union's schema: the fault that tells what was found, and that of the check

abbrev pub union_schema_fault : SchemaFound → UnionSchemaFault
union_schema_fault found.IsReleased = faults.Released
union_schema_fault (found.Format place) = faults.Format place
union_schema_fault (found.OwnPart (parts.Meta fault)) = faults.Meta fault
union_schema_fault (found.OwnPart parts.Dictionary) = faults.Dictionary
union_schema_fault (found.ChildCount count needed) = faults.ChildCount count needed
union_schema_fault (found.Child kid) = faults.Child kid.child (schema.At (path_of kid.first.path) kid.first.rule)

-- ---- a union's array

abbrev pub rule_told : Rule → UnionRule
rule_told (by.Own own.Released) = rules.Released
rule_told (by.Own own.NegativeLength) = rules.NegativeLength
rule_told (by.Own own.NegativeOffset) = rules.NegativeOffset
rule_told (by.Own own.BufferCount) = rules.BufferCount
rule_told (by.Own own.ChildCount) = rules.ChildCount
rule_told (by.Own own.Dictionary) = rules.Dictionary
rule_told (by.Own own.NullCount) = rules.NullCount
rule_told by.BufferAbsent = rules.BufferAbsent
rule_told by.BufferShort = rules.BufferShort
rule_told by.BadTypeId = rules.BadTypeId
rule_told (by.Child fault) = rules.Child (array_told fault)
rule_told by.ChildShort = rules.ChildShort
rule_told by.OffsetRange = rules.OffsetRange
rule_told by.WindowTooLong = rules.WindowTooLong

abbrev pub union_fault_told : RuleFound Rule → UnionFault
union_fault_told fault = record { rule = rule_told fault.rule; place = fault.numbers.place; left = fault.numbers.left; right = fault.numbers.right }
