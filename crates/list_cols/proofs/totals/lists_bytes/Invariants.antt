use Rattle.std.proofs.Common.{◌≡◌, ◌<◌, ◌^◌}
use Rattle.arr_import.specs.Cols.{window_of}
use Rattle.arr_import.specs.Window.{item_at}
use Rattle.data_types.specs.promise.Value.{byte_total}
use Rattle.list_cols.specs.Listed.{listed}
use Rattle.list_cols.proofs.totals.lists_bytes.Given as goal

-- the bytes of the lists so far
abbrev pub invariant-loop-i : goal.invariant-loop-i
invariant-loop-i l = record {
  is : l.total ≡ byte_total (listed (item_at (window_of l.lists)) l.i);
  few : l.total < 2 ^ 63;
}
