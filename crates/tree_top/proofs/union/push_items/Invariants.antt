use Rattle.std.proofs.Common.{◌≡◌, ◌++◌}
use Rattle.layout_rules.specs.promise.Values.{each}
use Rattle.union_cols.specs.UnionCols.{array_in, kinds_in}
use Rattle.union_cols.specs.Unions.{union_item}
use Rattle.tree_top.proofs.UnionLines.{item_lines}
use Rattle.tree_top.proofs.union.push_items.Given as goal

-- the lines so far
abbrev pub invariant-loop-i : goal.invariant-loop-i
invariant-loop-i l = l.text ≡ l.initial.text ++ item_lines (each (union_item (kinds_in l.col) (array_in l.col)) 0 l.i)
