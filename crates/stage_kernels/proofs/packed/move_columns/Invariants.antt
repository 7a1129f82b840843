use Rattle.std.proofs.Common.{◌≡◌, ◌+◌, map, take, vec_len}
use Rattle.std.specs.Vec.{vec_capacity}
use Rattle.tree_model.specs.promise.TreeData.{trees}
use Rattle.raw_array.specs.promise.Members.{Cost}
use Rattle.raw_array.specs.Members.{cost_of_all}
use Rattle.stage_kernels.specs.Packs.{LeftOf, column_in}
use Rattle.stage_kernels.proofs.packed.move_columns.Given as goal

-- the first of the picked columns are in the list, and the others where they were
abbrev pub invariant-loop-place : goal.invariant-loop-place
invariant-loop-place l = record {
  columns : l.columns.items ≡ map (column_in l.initial.moved) (take l.place l.picks);
  count : vec_len l.columns ≡ l.place;
  capacity : vec_capacity l.columns ≡ vec_capacity l.initial.columns;
  left : LeftOf l.initial.moved l.picks l.place l.moved;
  cost : Cost l.moved + cost_of_all (trees l.columns.items) ≡ Cost l.initial.moved;
}
