use Rattle.std.proofs.Common.{◌≡◌, ◌+◌, ◌<◌, ◌^◌}
use Rattle.arr_import.specs.Cols.{window_of}
use Rattle.data_types.specs.promise.Value.{byte_total}
use Rattle.layout_rules.specs.promise.Values.{each, value_at}
use Rattle.list_cols.proofs.totals.items_bytes.Given as goal

-- the bytes of the items so far
abbrev pub invariant-loop-i : goal.invariant-loop-i
invariant-loop-i l = record {
  is : l.total ≡ l.fn.before + byte_total (each (value_at (window_of l.items).typed (window_of l.items).array) (window_of l.items).start l.i);
  few : l.total < 2 ^ 63;
}
