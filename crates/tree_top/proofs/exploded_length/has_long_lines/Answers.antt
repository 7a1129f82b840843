use Rattle.std.proofs.Common.{◌≡◌, ◌∙◌, ◌+◌, ℕ, get_or, ap, sym, arith}
use Rattle.arr_import.specs.Cols.{window_of}
use Rattle.arr_import.specs.Window.{Window, item_at, whole}
use Rattle.data_types.specs.promise.Value.{Null}
use Rattle.data_types.specs.promise.KindTrees.{KindTree}
use Rattle.data_types.specs.promise.TypedView.{typed_of}
use Rattle.layout_rules.specs.promise.Values.{row_items}
use Rattle.raw_array.specs.promise.Members.{ArrayTree}
use Rattle.list_cols.specs.Spreading.{list_at}
use Rattle.tree_top.proofs.exploded_length.has_long_lines.Goals as goal

at-row : (w child : Window) (typed : KindTree) (array : ArrayTree) (column : ℕ) → w ≡ whole typed array
    → ((i : ℕ) → get_or (row_items w.typed w.array (w.start + i)) column Null ≡ item_at child i) → (i : ℕ) → item_at child i ≡ list_at column typed array i
at-row w child typed array column is fields i =
    let here : 0 + i ≡ i = omega arith in
    sym (fields i) ∙ ap (λ (v : Window). get_or (row_items v.typed v.array (v.start + i)) column Null) is
    ∙ ap (λ n. get_or (row_items typed array n) column Null) here

pub rows_length-requires-clause-lists : goal.rows_length-requires-clause-lists
rows_length-requires-clause-lists c =
    λ j i. at-row (window_of c.of-table.result) (window_of c.child-lists.result) (typed_of c.args.typed.now) c.args.array.now c.args.column
    c.of-table.ensures.window c.child-lists.ensures.fields i j
