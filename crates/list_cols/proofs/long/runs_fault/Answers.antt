use Rattle.std.proofs.Common.{List, replicate, sym}
use Rattle.std.specs.List.{flat_map}
use Rattle.arr_import.specs.Cols.{window_of}
use Rattle.arr_import.specs.Window.{item_at}
use Rattle.column_fill.specs.declared.runs.Run.{Run}
use Rattle.data_types.specs.promise.Value.{Value, byte_total}
use Rattle.list_cols.proofs.Fitting.{held-between, held-without}
use Rattle.list_cols.proofs.long.runs_fault.Goals as goal

pub returns-in-Some : goal.returns-in-Some
returns-in-Some c =
    let w = window_of c.args.items.now in
    let f : Run → List Value = λ run. replicate run.times (item_at w run.item) in
    let values = flat_map f c.args.runs.now in
    held-between c.args.kind.now values c.in-Some.wide c.reach_fault.result (sym c.in-Some.ensures)
    (c.reach_fault.ensures (byte_total values) c.runs_bytes.ensures)

pub returns-in-None : goal.returns-in-None
returns-in-None c =
    let w = window_of c.args.items.now in
    let f : Run → List Value = λ run. replicate run.times (item_at w run.item) in
    held-without c.args.kind.now (flat_map f c.args.runs.now) (sym c.in-None.ensures)
