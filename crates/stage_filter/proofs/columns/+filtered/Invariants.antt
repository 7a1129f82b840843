use Rattle.std.proofs.Common.{◌≡◌, ◌≤◌, ◌+◌, ◌*◌, map, take, drop, length, vec_len}
use Rattle.std.specs.Vec.{vec_capacity}
use Rattle.data_types.specs.ColumnView.{column_of, kind_of}
use Rattle.tree_model.specs.promise.TreeParts.{children_of}
use Rattle.tree_model.specs.promise.TreeData.{trees}
use Rattle.tree_model.specs.Tree.{Depth, depth_of_all}
use Rattle.raw_array.specs.promise.Members.{Cost}
use Rattle.raw_array.specs.Members.{cost_of_all}
use Rattle.data_types.specs.promise.ColumnKinds.{type_of_columns, type_of_kind}
use Rattle.data_types.specs.ColumnKinds.{types_of_columns}
use Rattle.stage_filter.specs.Kept.{rows_at}
use Rattle.stage_filter.specs.Moving.{AreFiltered}
use Rattle.stage_filter.proofs.columns.+filtered.Given as goal

abbrev pub decreases-filtered_kind : goal.decreases-filtered_kind
decreases-filtered_kind a = 5 * Depth (type_of_kind (kind_of a.kind.now))

abbrev pub decreases-filtered_struct : goal.decreases-filtered_struct
decreases-filtered_struct a = 5 * depth_of_all (trees (types_of_columns (map column_of a.columns.now))) + 4

abbrev pub decreases-filtered_columns : goal.decreases-filtered_columns
decreases-filtered_columns a = 5 * depth_of_all (trees (types_of_columns (map column_of a.columns.now))) + 3

abbrev pub decreases-move_columns : goal.decreases-move_columns
decreases-move_columns a = 5 * depth_of_all (trees (types_of_columns (map column_of a.columns.now))) + 2

abbrev pub decreases-moved_child : goal.decreases-moved_child
decreases-moved_child a = 5 * Depth (type_of_kind (kind_of a.kind.now)) + 1

-- the arrays of the columns so far, room for the others, and the children that are left
abbrev pub invariant-move_columns-loop-k : goal.invariant-move_columns-loop-k
invariant-move_columns-loop-k l = record {
  moved : AreFiltered (map column_of (take l.k l.columns)) l.initial.array l.start l.kept
      (rows_at (type_of_columns (map column_of l.columns)) l.initial.array l.start l.kept) l.arrays.items l.initial.pass l.pass;
  count : vec_len l.arrays ≡ l.k;
  room : length l.columns ≤ vec_capacity l.arrays;
  places : length (children_of l.array) ≡ length (children_of l.initial.array);
  rest : drop l.k (children_of l.array) ≡ drop l.k (children_of l.initial.array);
  units : l.pass.units + (Cost l.array + cost_of_all (trees l.arrays.items)) ≡ l.initial.pass.units + Cost l.initial.array;
}
