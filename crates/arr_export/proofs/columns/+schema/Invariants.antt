use Rattle.std.proofs.Common.{◌≡◌, ◌≤◌, ◌+◌, ◌*◌, map, take, length, vec_len}
use Rattle.std.specs.Vec.{vec_capacity}
use Rattle.unit_pass.specs.promise.Tally.{risen}
use Rattle.data_types.specs.ColumnView.{kind_of}
use Rattle.tree_model.specs.promise.TreeData.{trees}
use Rattle.tree_model.specs.Tree.{Depth, depth_of_all}
use Rattle.raw_schema.specs.Members.{nodes_of_all}
use Rattle.schema_check.specs.promise.ColumnSchema.{column_schema}
use Rattle.arr_export.specs.CodeSchema.{code_schema, code_schemas}
use Rattle.arr_export.proofs.columns.+schema.Given as goal

abbrev pub decreases-column_schema : goal.decreases-column_schema
decreases-column_schema a = 3 * Depth (column_schema a.name.now (kind_of a.kind.now))

abbrev pub decreases-struct_schema : goal.decreases-struct_schema
decreases-struct_schema a = 3 * depth_of_all (code_schemas a.columns.now) + 2

abbrev pub decreases-column_schemas : goal.decreases-column_schemas
decreases-column_schemas a = 3 * depth_of_all (code_schemas a.columns.now) + 1

-- the schemas of the columns so far, and room for the others
abbrev pub invariant-column_schemas-loop-column : goal.invariant-column_schemas-loop-column
invariant-column_schemas-loop-column l = record {
  children : l.children.items ≡ map code_schema (take l.column-index l.columns);
  count : vec_len l.children ≡ l.column-index;
  room : length l.columns ≤ vec_capacity l.children;
  units : l.pass.units + nodes_of_all (trees l.children.items) ≡ l.initial.pass.units;
  blocks : l.pass.blocks ≡ l.initial.pass.blocks;
  nodes : l.pass.nodes ≡ risen l.initial.pass.nodes (nodes_of_all (trees l.children.items));
}
