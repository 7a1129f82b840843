-- The fault of the check of a run-end encoded schema, as that of a run. Out of memory is itself.
use Rattle.data_types.specs.promise.Ways.{path_of, steps_of}
use Rattle.root_check.specs.declared.own_schema.OwnSchemaFault.{OwnSchemaFault}
use Rattle.run_ends.specs.promise.RunSchemas as found
use Rattle.run_ends.specs.declared.schema_fault.RunsSchemaFault.{RunsSchemaFault}
use Rattle.run_ends.specs.declared.schema_fault.RunsSchemaFault.TheVariants as faults
use Rattle.schema_check.specs.declared.schema.SchemaFault.TheVariants as schema
use Rattle.tree_top.specs.declared.fault.TreeRunFault.{TreeRunFault}
use Rattle.tree_top.specs.declared.fault.TreeRunFault.TheVariants as run
use Rattle.tree_top.specs.promise.RunRefusals.{runs_schema_fault}

-- ---- the schema: the fault that tells what was found, and that of the check

abbrev pub runs_part_fault : OwnSchemaFault → RunsSchemaFault
runs_part_fault fault = runs_schema_fault (found.OwnPart fault)

abbrev pub fault_of_runs_schema : RunsSchemaFault → TreeRunFault
fault_of_runs_schema faults.Released = run.RunsSchema faults.Released
fault_of_runs_schema faults.Format = run.RunsSchema faults.Format
fault_of_runs_schema (faults.Meta fault) = run.RunsSchema (faults.Meta fault)
fault_of_runs_schema faults.Dictionary = run.RunsSchema faults.Dictionary
fault_of_runs_schema (faults.ChildCount count) = run.RunsSchema (faults.ChildCount count)
fault_of_runs_schema (faults.Child child (schema.At path rule)) = run.RunsSchema (faults.Child child (schema.At (path_of (steps_of path)) rule))
fault_of_runs_schema (faults.Child child schema.NoMemory) = run.NoMemory
fault_of_runs_schema faults.EndsType = run.RunsSchema faults.EndsType
fault_of_runs_schema faults.NoMemory = run.NoMemory
