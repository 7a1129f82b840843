-- The fault of a run by that of the schema or the array of a run-end encoded column. Out of memory is itself, and the way to
-- a node has 0 in each place behind it.
use Rattle.data_types.specs.promise.Ways.{path_of}
use Rattle.root_check.specs.declared.own.OwnRule.{OwnRule}
use Rattle.root_check.specs.declared.own.OwnRule.TheVariants as own
use Rattle.root_check.specs.declared.own_schema.OwnSchemaFault.{OwnSchemaFault}
use Rattle.root_check.specs.declared.own_schema.OwnSchemaFault.TheVariants as parts
use Rattle.run_ends.specs.promise.RunRules as by
use Rattle.run_ends.specs.promise.RunRules.{Rule}
use Rattle.root_check.specs.promise.Found.{RuleFound}
use Rattle.run_ends.specs.promise.RunSchemas as found
use Rattle.run_ends.specs.promise.RunSchemas.{SchemaFound}
use Rattle.run_ends.specs.declared.rule.RunsFault.{RunsFault}
use Rattle.run_ends.specs.declared.rule.RunsRule.{RunsRule}
use Rattle.run_ends.specs.declared.rule.RunsRule.TheVariants as rules
use Rattle.run_ends.specs.declared.schema_fault.RunsSchemaFault.{RunsSchemaFault}
use Rattle.run_ends.specs.declared.schema_fault.RunsSchemaFault.TheVariants as faults
use Rattle.schema_check.specs.declared.schema.SchemaFault.TheVariants as schema
use Rattle.tree_check.specs.promise.Checks.{array_told}

-- ---- the schema: the fault that tells what was found, and that of the check

abbrev pub runs_schema_fault : SchemaFound → RunsSchemaFault
runs_schema_fault found.IsReleased = faults.Released
runs_schema_fault found.Format = faults.Format
runs_schema_fault (found.OwnPart (parts.Meta fault)) = faults.Meta fault
runs_schema_fault (found.OwnPart parts.Dictionary) = faults.Dictionary
runs_schema_fault (found.ChildCount count) = faults.ChildCount count
runs_schema_fault (found.Child kid) = faults.Child kid.child (schema.At (path_of kid.first.path) kid.first.rule)
runs_schema_fault found.EndsType = faults.EndsType

-- ---- the array

abbrev pub runs_rule_told : Rule → RunsRule
runs_rule_told (by.Own own.Released) = rules.Released
runs_rule_told (by.Own own.NegativeLength) = rules.NegativeLength
runs_rule_told (by.Own own.NegativeOffset) = rules.NegativeOffset
runs_rule_told (by.Own own.BufferCount) = rules.BufferCount
runs_rule_told (by.Own own.ChildCount) = rules.ChildCount
runs_rule_told (by.Own own.Dictionary) = rules.Dictionary
runs_rule_told (by.Own own.NullCount) = rules.NullCount
runs_rule_told (by.Child fault) = rules.Child (array_told fault)
runs_rule_told by.EndsNull = rules.EndsNull
runs_rule_told by.EndsFall = rules.EndsFall
runs_rule_told by.ValuesShort = rules.ValuesShort
runs_rule_told by.EndsShort = rules.EndsShort
runs_rule_told by.WindowTooLong = rules.WindowTooLong

abbrev pub runs_fault_told : RuleFound Rule → RunsFault
runs_fault_told fault = record {
  rule = runs_rule_told fault.rule;
  place = fault.numbers.place;
  left = fault.numbers.left;
  right = fault.numbers.right;
}
