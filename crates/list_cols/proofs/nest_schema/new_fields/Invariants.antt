use Rattle.std.proofs.Common.{◌≡◌, ◌≤◌, ◌+◌, ◌*◌, length, vec_len, vec_capacity}
use Rattle.tree_model.specs.promise.TreeParts.{children_of}
use Rattle.tree_model.specs.promise.TreeData.{trees}
use Rattle.raw_schema.specs.Members.{nodes_of_all}
use Rattle.layout_rules.specs.promise.Values.{each}
use Rattle.list_cols.specs.NestedFields.{new_field}
use Rattle.unit_pass.specs.promise.Tally.{risen}
use Rattle.list_cols.specs.NestedTables.{nodes_to}
use Rattle.list_cols.proofs.nest_schema.new_fields.Given as goal

-- the lists over the fields so far, and room for the others
abbrev pub invariant-loop-k : goal.invariant-loop-k
invariant-loop-k l = record {
  fields : l.fields.items ≡ each (new_field l.column l.schema) 0 l.k;
  count : vec_len l.fields ≡ l.k;
  room : length (children_of l.schema) ≤ vec_capacity l.fields;
  units : l.pass.units + nodes_of_all (trees l.fields.items) ≡ l.initial.pass.units;
  blocks : l.pass.blocks ≡ l.initial.pass.blocks;
  nodes : l.pass.nodes ≡ risen l.initial.pass.nodes (nodes_to 0 l.column l.k);
  left : l.initial.pass.units ≤ l.pass.units + 2 * l.k;
}
