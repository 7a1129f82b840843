use Rattle.std.proofs.Common.{◌≡◌, ℕ, ◌+◌, ◌<◌, ◌≤◌, map, take, length}
use Rattle.tree_model.specs.promise.TreeParts.{children_of, child_at}
use Rattle.raw_array.specs.promise.Members.{Cost}
use Rattle.arr_move.specs.TreeActs.{cut, with_children}
use Rattle.arr_move.proofs.Filled.{filled}
use Rattle.union_cols.specs.Tags.{numbers}
use Rattle.union_cols.proofs.tag_moves.move_columns.Given as goal

-- the first places are filled, and the children that are still to come are as they were
abbrev pub invariant-loop-place : goal.invariant-loop-place
invariant-loop-place l = record {
  front : l.top
      ≡ with_children l.initial.top
      (filled (map (cut l.initial.moved l.fn.off l.fn.len) (take l.place (numbers (length (children_of l.initial.moved))))) (children_of l.initial.top));
  rest : (j : ℕ) → l.place ≤ j → j < length (children_of l.initial.moved) → child_at l.moved j ≡ child_at l.initial.moved j;
  places : length (children_of l.moved) ≡ length (children_of l.initial.moved);
  cost : Cost l.moved + Cost l.top ≡ Cost l.initial.moved + Cost l.initial.top;
}
