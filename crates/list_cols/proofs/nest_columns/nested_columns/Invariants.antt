use Rattle.std.proofs.Common.{◌≡◌, ◌≤◌, ◌<◌, ◌+◌, ◌-◌, ◌*◌, ℕ, length, map, vec_len, vec_capacity}
use Rattle.tree_model.specs.promise.TreeParts.{children_of}
use Rattle.tree_model.specs.promise.TreeData.{trees}
use Rattle.raw_array.specs.Members.{cost_of_all}
use Rattle.data_types.specs.promise.KindTrees.{kind_in}
use Rattle.data_types.specs.promise.TypedView.{typed_of}
use Rattle.data_types.specs.TypedView.{kids_of}
use Rattle.layout_rules.specs.promise.Values.{each, rows_of}
use Rattle.unit_pass.specs.promise.Tally.{risen}
use Rattle.list_cols.specs.promise.NestedTables.{nested_column}
use Rattle.list_cols.specs.NestedTables.{FitColumn, nodes_to}
use Rattle.list_cols.proofs.nest_columns.nested_columns.Given as goal

-- the columns so far, and room for the others
abbrev pub invariant-loop-k : goal.invariant-loop-k
invariant-loop-k l = record {
  columns : l.columns.items ≡ each (nested_column l.column (map kind_in (children_of (typed_of l.typed))) (rows_of (typed_of l.typed) l.array)) 0 l.k;
  fits : (j : ℕ) → j < l.k → FitColumn l.column (map kind_in (children_of (typed_of l.typed))) (rows_of (typed_of l.typed) l.array) j;
  count : vec_len l.columns ≡ l.k;
  room : length (kids_of l.typed) ≤ vec_capacity l.columns;
  units : l.pass.units + cost_of_all (trees l.columns.items) ≡ l.initial.pass.units;
  left : l.initial.pass.units ≤ l.pass.units + 6 * l.k;
  least : l.pass.units + nodes_to 1 l.column l.k ≤ l.initial.pass.units;
  blocks : l.pass.blocks ≡ risen l.initial.pass.blocks (l.initial.pass.units - l.pass.units - nodes_to 1 l.column l.k);
  nodes : l.pass.nodes ≡ risen l.initial.pass.nodes (nodes_to 1 l.column l.k);
}
