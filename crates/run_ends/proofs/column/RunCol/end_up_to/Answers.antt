use Rattle.std.proofs.Common.{◌≡◌, ap, arith}
use Rattle.arr_import.specs.Cols.{window_of}
use Rattle.arr_import.specs.Window.{Window}
use Rattle.run_ends.specs.promise.Runs.{run_count}
use Rattle.run_ends.specs.RunCols.{array_in}
use Rattle.run_ends.proofs.column.RunCol.end_up_to.Goals as goal

pub run_end-end-requires : goal.run_end-end-requires
run_end-end-requires c =
    let self = c.args.self.now in
    let count : (window_of self.ends).count ≡ run_count (array_in self) = ap (λ (w : Window). w.count) self.ends_are in
    omega (arith, count, c.requires)
