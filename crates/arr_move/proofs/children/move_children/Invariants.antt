use Rattle.std.proofs.Common.{◌≡◌, ◌+◌, ◌-◌, ◌≤◌, ◌++◌, map, take, drop, length, vec_len, vec_capacity}
use Rattle.tree_model.specs.promise.TreeParts.{children_of}
use Rattle.tree_model.specs.promise.TreeData.{trees}
use Rattle.raw_array.specs.promise.Members.{Cost}
use Rattle.raw_array.specs.Members.{cost_of_all}
use Rattle.arr_move.proofs.MovedChildren.{cut_to}
use Rattle.arr_move.proofs.children.move_children.Given as goal

-- the children before this place are in the list, and those from it on as they were
abbrev pub invariant-loop-place : goal.invariant-loop-place
invariant-loop-place l = record {
  columns : l.columns.items ≡ l.initial.columns.items ++ map (cut_to l.fn.off l.fn.len) (take (l.place - l.from) (drop l.from (children_of l.initial.moved)));
  len : vec_len l.columns + l.from ≡ vec_len l.initial.columns + l.place;
  capacity : vec_capacity l.columns ≡ vec_capacity l.initial.columns;
  places : length (children_of l.moved) ≡ length (children_of l.initial.moved);
  rest : drop l.place (children_of l.moved) ≡ drop l.place (children_of l.initial.moved);
  cost : Cost l.moved + cost_of_all (trees l.columns.items) ≡ Cost l.initial.moved + cost_of_all (trees l.initial.columns.items);
  less : Cost l.moved ≤ Cost l.initial.moved;
}
