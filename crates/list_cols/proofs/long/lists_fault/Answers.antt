use Rattle.std.proofs.Common.{sym}
use Rattle.arr_import.specs.Cols.{window_of}
use Rattle.arr_import.specs.Window.{item_at}
use Rattle.data_types.specs.promise.Value.{byte_total}
use Rattle.list_cols.specs.Listed.{listed}
use Rattle.list_cols.proofs.Fitting.{held-between, held-without}
use Rattle.list_cols.proofs.long.lists_fault.Goals as goal

pub returns-in-Some : goal.returns-in-Some
returns-in-Some c =
    let w = window_of c.args.lists.now in
    let values = listed (item_at w) w.count in
    held-between c.args.kind.now values c.in-Some.wide c.reach_fault.result (sym c.in-Some.ensures)
    (c.reach_fault.ensures (byte_total values) c.lists_bytes.ensures)

pub returns-in-None : goal.returns-in-None
returns-in-None c =
    let w = window_of c.args.lists.now in
    held-without c.args.kind.now (listed (item_at w) w.count) (sym c.in-None.ensures)
