use Rattle.std.proofs.Common.{◌≡◌, ◌∙◌, ap, sym, arith}
use Rattle.data_types.specs.promise.TypedView.{typed_of}
use Rattle.arr_import.specs.Window.{Window}
use Rattle.layout_rules.specs.promise.Values.{tree_items}
use Rattle.run_ends.proofs.ValueRuns.{count-is}
use Rattle.run_ends.proofs.column_runs.ColumnRuns.count.Goals as goal

pub returns-clause-count : goal.returns-clause-count
returns-clause-count c =
    let self = c.args.self.now in
    c.count.ensures ∙ ap (λ (w : Window). w.count) self.items_are ∙ sym (count-is (typed_of self.typed.now) self.array.now)

pub returns-clause-few : goal.returns-clause-few
returns-clause-few c =
    let self = c.args.self.now in
    let many : c.count.result ≡ tree_items self.array.now = c.count.ensures ∙ ap (λ (w : Window). w.count) self.items_are in
    omega (arith, many, c.lawful_root.ensures.items, c.lawful_root.ensures.end)
