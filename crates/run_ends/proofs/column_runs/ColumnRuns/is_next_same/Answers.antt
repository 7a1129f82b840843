use Rattle.std.proofs.Common.{◌≡◌, ◌∙◌, ◌+◌, ap, sym, arith}
use Rattle.data_types.specs.promise.TypedView.{typed_of}
use Rattle.arr_import.specs.Cols.{window_of}
use Rattle.arr_import.specs.Window.{Window}
use Rattle.layout_rules.specs.promise.Values.{tree_items}
use Rattle.run_ends.specs.RunCoding.{is_same}
use Rattle.run_ends.proofs.ValueRuns.{count-is, value-is}
use Rattle.run_ends.proofs.column_runs.ColumnRuns.is_next_same.Goals as goal

pub is_same-requires-clause-inside : goal.is_same-requires-clause-inside
is_same-requires-clause-inside c =
    let self = c.args.self.now in
    let many : (window_of self.items).count ≡ tree_items self.array.now = ap (λ (w : Window). w.count) self.items_are in
    omega (arith, many, count-is (typed_of self.typed.now) self.array.now, c.requires)

pub is_same-requires-clause-other : goal.is_same-requires-clause-other
is_same-requires-clause-other c =
    let self = c.args.self.now in
    let many : (window_of self.items).count ≡ tree_items self.array.now = ap (λ (w : Window). w.count) self.items_are in
    omega (arith, many, count-is (typed_of self.typed.now) self.array.now, c.requires)

pub returns : goal.returns
returns c =
    let self = c.args.self.now in
    let t = typed_of self.typed.now in
    let a = self.array.now in
    let i = c.args.i in
    let this = value-is t a (window_of self.items) i self.items_are (omega (arith, count-is t a, c.requires)) in
    let next = value-is t a (window_of self.items) (i + 1) self.items_are (omega (arith, count-is t a, c.requires)) in (
      λ e. (λ j. is_same (sym this j) (sym next j)) ∙ c.is_same.ensures.0 e,
      λ e. c.is_same.ensures.1 ((λ j. is_same (this j) (next j)) ∙ e),
    )
