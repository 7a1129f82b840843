use Rattle.std.proofs.Common.{◌≡◌, ◌≤◌, length}
use Rattle.arr_import.specs.Cols.{window_of}
use Rattle.arr_import.specs.Window.{item_at}
use Rattle.list_cols.specs.promise.Faults.{most_named}
use Rattle.list_cols.specs.Listed.{listed}
use Rattle.list_cols.proofs.rows.count_listed.Given as goal

-- the items of the lists so far
abbrev pub invariant-loop-i : goal.invariant-loop-i
invariant-loop-i l = record {
  total : l.total ≡ length (listed (item_at (window_of l.lists)) l.i);
  few : l.total ≤ most_named;
}
