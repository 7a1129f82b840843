use Rattle.std.proofs.Common.{◌≡◌, ◌+◌, length}
use Rattle.layout_rules.specs.promise.Values.{each}
use Rattle.union_cols.specs.UnionCols.{array_in, kinds_in}
use Rattle.union_cols.specs.Unions.{union_item}
use Rattle.value_text.specs.Lengths.{capped}
use Rattle.tree_top.proofs.UnionLines.{item_lines}
use Rattle.tree_top.proofs.union_length.text_length.Given as goal

-- the lines so far, behind that of `ok`
abbrev pub invariant-loop-i : goal.invariant-loop-i
invariant-loop-i l = l.sum ≡ capped (3 + length (item_lines (each (union_item (kinds_in l.col) (array_in l.col)) 0 l.i)))
