use Rattle.std.proofs.Common.{◌≡◌, ◌<◌, ◌^◌, replicate, take}
use Rattle.std.specs.List.{flat_map}
use Rattle.arr_import.specs.Cols.{window_of}
use Rattle.arr_import.specs.Window.{item_at}
use Rattle.data_types.specs.promise.Value.{byte_total}
use Rattle.list_cols.proofs.totals.runs_bytes.Given as goal

-- the bytes of the runs so far
abbrev pub invariant-loop-run : goal.invariant-loop-run
invariant-loop-run l = record {
  is : l.total ≡ byte_total (flat_map (λ run. replicate run.times (item_at (window_of l.items) run.item)) (take l.run-index l.runs));
  few : l.total < 2 ^ 63;
}
