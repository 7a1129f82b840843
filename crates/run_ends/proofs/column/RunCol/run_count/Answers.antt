use Rattle.std.proofs.Common.{rules, ◌≡◌, ap, arith}
use Rattle.std.proofs.lemmas.Grind.{common_steps}
use Rattle.arr_import.specs.Cols.{window_of}
use Rattle.arr_import.specs.Window.{Window}
use Rattle.run_ends.specs.promise.Runs.{run_count}
use Rattle.run_ends.specs.RunCols.{array_in}
use Rattle.run_ends.proofs.column.RunCol.run_count.Goals as goal

pub returns : goal.returns
returns c =
    let self = c.args.self.now in
    let count : (window_of self.ends).count ≡ run_count (array_in self) = ap (λ (w : Window). w.count) self.ends_are in
    first_of (search rules, grind (arith, common_steps))
