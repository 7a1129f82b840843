use Rattle.std.proofs.Common.{◌≡◌, ◌∙◌, ap, arith}
use Rattle.arr_import.specs.Cols.{window_of}
use Rattle.arr_import.specs.Window.{Window}
use Rattle.data_types.specs.promise.TypedView.{typed_of}
use Rattle.tree_model.specs.promise.TreeParts.{child_at}
use Rattle.run_ends.specs.promise.Runs.{Ends, ends_above, run_count}
use Rattle.run_ends.specs.RunCols.{array_in}
use Rattle.run_ends.proofs.Holding.{items-shown}
use Rattle.run_ends.proofs.column.RunCol.ends_above.Goals as goal

pub ends_above-requires : goal.ends_above-requires
ends_above-requires c =
    let self = c.args.self.now in
    let count : (window_of self.ends).count ≡ run_count (array_in self) = ap (λ (w : Window). w.count) self.ends_are in
    omega (arith, count, c.requires)

pub returns : goal.returns
returns c =
    let self = c.args.self.now in
    let shown = items-shown (window_of self.ends) (typed_of self.typed.now.ends) (child_at self.array.now 0) self.ends_are in
    c.ends_above.ensures ∙ ap (λ (f : Ends). ends_above f c.args.place c.args.run) shown
