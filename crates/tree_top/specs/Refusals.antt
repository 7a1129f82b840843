-- The faults of the code's checks, of texts, unions, columns and lists, as those of a run. Out of memory is itself.
use Rattle.data_types.specs.promise.Ways.{path_of, steps_of}
use Rattle.list_cols.specs.declared.fault.ListFault.{ListFault}
use Rattle.list_cols.specs.declared.fault.ListFault.TheVariants as lists
use Rattle.root_check.specs.declared.own_schema.OwnSchemaFault.{OwnSchemaFault}
use Rattle.schema_check.specs.declared.schema.SchemaFault.TheVariants as schema
use Rattle.tree_check.specs.declared.fault.CheckFault.{CheckFault}
use Rattle.tree_check.specs.declared.fault.CheckFault.TheVariants as check
use Rattle.tree_check.specs.declared.fault.TreeFault.{TreeFault}
use Rattle.tree_check.specs.declared.fault.TreeFault.TheVariants as trees
use Rattle.union_cols.specs.promise.UnionSchemas as found
use Rattle.union_cols.specs.declared.schema_fault.UnionSchemaFault.{UnionSchemaFault}
use Rattle.union_cols.specs.declared.schema_fault.UnionSchemaFault.TheVariants as faults
use Rattle.union_cols.specs.declared.tag_fault.TagFault.{TagFault}
use Rattle.union_cols.specs.declared.tag_fault.TagFault.TheVariants as tags
use Rattle.tree_top.specs.declared.fault.TreeRunFault.{TreeRunFault}
use Rattle.tree_top.specs.declared.fault.TreeRunFault.TheVariants as run
use Rattle.tree_top.specs.promise.Refusals.{union_schema_fault}

-- ---- texts, schemas and arrays

abbrev pub fault_of_tree : TreeFault → TreeRunFault
fault_of_tree (trees.Text fault) = run.Text fault
fault_of_tree (trees.Schema path rule) = run.Schema path rule
fault_of_tree (trees.Layout fault) = run.Layout fault

abbrev pub fault_of_check : CheckFault → TreeRunFault
fault_of_check (check.Tree fault) = fault_of_tree fault
fault_of_check check.NoMemory = run.NoMemory

-- ---- a union's schema: the fault that tells what was found, and that of the check

abbrev pub own_part_fault : OwnSchemaFault → UnionSchemaFault
own_part_fault fault = union_schema_fault (found.OwnPart fault)

abbrev pub fault_of_union_schema : UnionSchemaFault → TreeRunFault
fault_of_union_schema faults.Released = run.UnionSchema faults.Released
fault_of_union_schema (faults.Format place) = run.UnionSchema (faults.Format place)
fault_of_union_schema (faults.Meta fault) = run.UnionSchema (faults.Meta fault)
fault_of_union_schema faults.Dictionary = run.UnionSchema faults.Dictionary
fault_of_union_schema (faults.ChildCount count needed) = run.UnionSchema (faults.ChildCount count needed)
fault_of_union_schema (faults.Child child (schema.At path rule)) = run.UnionSchema (faults.Child child (schema.At (path_of (steps_of path)) rule))
fault_of_union_schema (faults.Child child schema.NoMemory) = run.NoMemory
fault_of_union_schema faults.NoMemory = run.NoMemory

-- ---- columns that make no union

abbrev pub fault_of_tag : TagFault → TreeRunFault
fault_of_tag (tags.Columns count) = run.Tag (tags.Columns count)
fault_of_tag tags.TooLong = run.Tag tags.TooLong
fault_of_tag tags.NoMemory = run.NoMemory

-- ---- rows that aren't made anew

abbrev pub fault_of_list : ListFault → TreeRunFault
fault_of_list (lists.WrongKind column) = run.Lists (lists.WrongKind column)
fault_of_list lists.TooLong = run.Lists lists.TooLong
fault_of_list lists.NoMemory = run.NoMemory
