use Rattle.std.proofs.Common.{◌≡◌, ◌+◌, ◌*◌, ◌≤◌, map, take, vec_len}
use Rattle.std.specs.Vec.{vec_capacity}
use Rattle.arr_export.specs.ValueColumns.{tree_of}
use Rattle.data_types.specs.promise.TypedView.{typed_of}
use Rattle.raw_array.specs.Members.{cost_of_all}
use Rattle.tree_model.specs.promise.TreeData.{trees}
use Rattle.unit_pass.specs.promise.Tally.{risen}
use Rattle.list_cols.specs.promise.Exploded.{blocks_in}
use Rattle.list_cols.specs.Exploded.{exploded_columns}
use Rattle.list_cols.proofs.columns.new_columns.Given as goal

-- the columns so far, and room for the others
abbrev pub invariant-loop-k : goal.invariant-loop-k
invariant-loop-k l = record {
  columns : l.columns.items ≡ map tree_of (take l.k (exploded_columns l.column (typed_of l.typed) l.array));
  count : vec_len l.columns ≡ l.k;
  room : l.count ≤ vec_capacity l.columns;
  units : l.pass.units + cost_of_all (trees l.columns.items) ≡ l.initial.pass.units;
  cost : cost_of_all (trees l.columns.items) ≤ 4 * l.k;
  blocks : l.pass.blocks ≡ risen l.initial.pass.blocks (blocks_in (take l.k (exploded_columns l.column (typed_of l.typed) l.array)));
  nodes : l.pass.nodes ≡ risen l.initial.pass.nodes l.k;
}
