use Rattle.std.proofs.Common.{◌≡◌, ℕ, ◌+◌, ◌<◌, ◌≤◌, map, take, get_or, length}
use Rattle.tree_model.specs.promise.TreeParts.{children_of, child_at}
use Rattle.tree_model.specs.promise.TreeCost.{Nodes}
use Rattle.arr_move.specs.TreeActs.{with_children}
use Rattle.arr_move.proofs.Filled.{filled}
use Rattle.arr_move.proofs.fields.move_fields.Given as goal

-- the first places are filled, and the children that are still to come are as they were
abbrev pub invariant-loop-place : goal.invariant-loop-place
invariant-loop-place l =
    (l.top ≡ with_children l.initial.top (filled (map (child_at l.initial.moved) (take l.place l.picks)) (children_of l.initial.top)))
    × ((j : ℕ) → l.place ≤ j → j < length l.picks → child_at l.moved (get_or l.picks j 0) ≡ child_at l.initial.moved (get_or l.picks j 0))
    × (length (children_of l.moved) ≡ length (children_of l.initial.moved))
    × (Nodes l.moved + Nodes l.top ≡ Nodes l.initial.moved + Nodes l.initial.top)
