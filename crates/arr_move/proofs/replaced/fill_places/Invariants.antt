use Rattle.std.proofs.Common.{◌≡◌, ℕ, ◌+◌, ◌≤◌, take, length}
use Rattle.tree_model.specs.promise.TreeParts.{children_of, child_at}
use Rattle.tree_model.specs.promise.TreeCost.{Nodes}
use Rattle.arr_move.specs.TreeActs.{with_children}
use Rattle.arr_move.specs.Fields.{fields_over}
use Rattle.arr_move.proofs.replaced.fill_places.Given as goal

-- the first places are filled, and the fields that are still to come are as they were
abbrev pub invariant-loop-place : goal.invariant-loop-place
invariant-loop-place l = record {
  front : l.top ≡ with_children l.initial.top (fields_over (children_of l.initial.top) (take l.place (children_of l.initial.moved)));
  rest : (j : ℕ) → l.place ≤ j → child_at l.moved j ≡ child_at l.initial.moved j;
  places : length (children_of l.moved) ≡ length (children_of l.initial.moved);
  cost : Nodes l.moved + Nodes l.top ≡ Nodes l.initial.moved + Nodes l.initial.top;
}
