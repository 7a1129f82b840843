use Rattle.std.proofs.Common.{◌+◌, ◌≤◌, length}
use Rattle.data_types.specs.promise.TypedView.{typed_of}
use Rattle.layout_rules.specs.promise.Values.{each, row_items}
use Rattle.list_cols.specs.promise.Nested.{Explode}
use Rattle.tree_top.proofs.NewLines.{row_lines}
use Rattle.tree_top.proofs.exploded_length.rows_length.Given as goal

-- the lines that are made of the rows so far, behind that of `ok`
abbrev pub invariant-loop-i : goal.invariant-loop-i
invariant-loop-i l = l.sum ≤ 3 + length (row_lines (Explode l.column (each (row_items (typed_of l.typed) l.array) 0 l.i)))
