use Rattle.std.proofs.Common.{◌≡◌, ◌≤◌, vec_len, vec_capacity}
use Rattle.arr_import.specs.Cols.{window_of}
use Rattle.arr_import.specs.Window.{item_at}
use Rattle.list_cols.specs.Listed.{list_runs}
use Rattle.list_cols.proofs.runs.list_runs.Given as goal

-- the runs of the rows so far, and room for the others
abbrev pub invariant-loop-i : goal.invariant-loop-i
invariant-loop-i l = record {
  runs : l.runs.items ≡ list_runs l.first (item_at (window_of l.lists)) l.i;
  count : vec_len l.runs ≡ l.i;
  room : l.count ≤ vec_capacity l.runs;
}
