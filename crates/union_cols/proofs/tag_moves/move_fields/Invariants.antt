use Rattle.std.proofs.Common.{◌≡◌, ℕ, ◌+◌, ◌<◌, ◌≤◌, map, take, length}
use Rattle.tree_model.specs.promise.TreeParts.{children_of, child_at}
use Rattle.tree_model.specs.promise.TreeCost.{Nodes}
use Rattle.arr_move.specs.TreeActs.{with_children}
use Rattle.arr_move.proofs.Filled.{filled}
use Rattle.union_cols.specs.Tags.{numbers}
use Rattle.union_cols.proofs.tag_moves.move_fields.Given as goal

-- the first places are filled, and the children that are still to come are as they were
abbrev pub invariant-loop-place : goal.invariant-loop-place
invariant-loop-place l = record {
  front : l.top
      ≡ with_children l.initial.top
      (filled (map (child_at l.initial.moved) (take l.place (numbers (length (children_of l.initial.moved))))) (children_of l.initial.top));
  rest : (j : ℕ) → l.place ≤ j → j < length (children_of l.initial.moved) → child_at l.moved j ≡ child_at l.initial.moved j;
  places : length (children_of l.moved) ≡ length (children_of l.initial.moved);
  cost : Nodes l.moved + Nodes l.top ≡ Nodes l.initial.moved + Nodes l.initial.top;
}
