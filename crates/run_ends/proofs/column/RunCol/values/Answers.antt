use Rattle.std.proofs.Common.{◌≡◌, ap, arith}
use Rattle.arr_import.specs.Cols.{window_of}
use Rattle.arr_import.specs.Window.{Window}
use Rattle.run_ends.specs.Runs.{value_count}
use Rattle.run_ends.specs.RunCols.{kinds_in, array_in}
use Rattle.run_ends.proofs.Searching.{item_holds}
use Rattle.run_ends.proofs.column.RunCol.values.Goals as goal

pub returns-clause-stored : goal.returns-clause-stored
returns-clause-stored c = λ i inside.
    let self = c.args.self.now in
    let u = kinds_in self in
    let array = array_in self in
    let many : (window_of self.values).count ≡ value_count array = ap (λ (w : Window). w.count) self.values_are in
    omega (arith, many, (item_holds u array i c.runs_hold.ensures inside).inside, c.runs_hold.ensures.valued)
