use Rattle.std.proofs.Common.{◌≡◌, map}
use Rattle.layout_rules.specs.promise.Values.{each, row_items}
use Rattle.arr_import.specs.Cols.{window_of}
use Rattle.pipe_top.specs.OwnedValues.{row_of}
use Rattle.pipe_top.proofs.kept_rows.rows_in.Given as goal

-- the rows so far
abbrev pub invariant-loop-i : goal.invariant-loop-i
invariant-loop-i l = map row_of l.rows.items ≡ each (row_items (window_of l.table).typed (window_of l.table).array) (window_of l.table).start l.i
