use Rattle.std.proofs.Common.{arith, ◌≡◌, ◌∙◌, ◌-◌, ℕ, List, IfOk, ap, subst}
use Rattle.data_types.specs.promise.TypedView.{typed_of}
use Rattle.arr_import.specs.Cols.{window_of}
use Rattle.arr_import.specs.Window.{Window, child_window}
use Rattle.stage_filter.proofs.Found.{fields-of, rows-are-items}
use Rattle.column_fill.proofs.Counts.{count-is}
use Rattle.stage_filter.proofs.workers.found_rows.Goals as goal

pub kept_rows-requires-clause-inside : goal.kept_rows-requires-clause-inside
kept_rows-requires-clause-inside c =
    let count = ap (λ (w : Window). w.count)
    (c.child-items.ensures.window ∙ ap (λ (w : Window). child_window w c.args.asked.column) c.of-rows.ensures.window) in
    omega (arith, count, count-is (typed_of c.args.typed.now) c.args.chunk.now, c.requires.inside)

pub returns : goal.returns
returns c =
    let typed = typed_of c.args.typed.now in
    let asked = c.args.asked in
    let own = window_of c.child-items.result in
    let is = rows-are-items asked.column asked.test asked.constant.now typed c.args.chunk.now own c.args.from (c.args.to - c.args.from)
    (omega (arith, c.requires.order, c.requires.inside))
    (fields-of (window_of c.of-rows.result) typed c.args.chunk.now own asked.column c.of-rows.ensures.window c.child-items.ensures.fields) in
    subst (λ (ks : List ℕ). IfOk c.kept_rows.result (λ kept. kept.items ≡ ks)) is c.kept_rows.ensures
