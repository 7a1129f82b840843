use Rattle.std.proofs.Common.{◌≡◌, ◌∙◌, ℕ, ◌+◌, [], ◌∷◌, ◌++◌, length, get_or, map, ap, sym, subst, true, arith}
use Rattle.std.proofs.lemmas.List.{length-map}
use Rattle.data_types.specs.promise.TypedView.{typed_of}
use Rattle.data_types.specs.promise.Value.{Null, is_null}
use Rattle.layout_rules.specs.promise.Values.{each, row_items, tree_items}
use Rattle.tree_model.specs.promise.TreeParts.{children_of}
use Rattle.arr_import.specs.declared.col.Col.{Col}
use Rattle.arr_import.specs.Cols.{window_of}
use Rattle.arr_import.specs.Window.{Window, item_at}
use Rattle.union_cols.specs.promise.Tags.{tag_of}
use Rattle.union_cols.specs.NullColumns.{AreAllBut, IsNullColumn}
use Rattle.union_cols.proofs.NullColumns.{weaker, whole-rows}
use Rattle.union_cols.proofs.Numbering.{map-each}
use Rattle.union_cols.proofs.TagSteps.{each-next}
use Rattle.union_cols.proofs.tag_ids.chunk_tags.Goals as goal

pub tag_at-requires-clause-few : goal.tag_at-requires-clause-few
tag_at-requires-clause-few c =
    let f = λ (x : Col). item_at (window_of x) 0 in
    let rows = ap length (c.in_ok-columns.ensures.rows 0) in
    let same = ap length c.deref.ensures.value in
    let kids = ap (λ (w : Window). length (children_of w.typed)) c.of-table.ensures.window in
    omega (arith, rows, same, length-map c.in_ok-columns.columns.items f, c.rows_are_whole.ensures 0, kids, c.requires.few)

pub tag_at-requires-clause-numbers : goal.tag_at-requires-clause-numbers
tag_at-requires-clause-numbers c =
    let typed = typed_of c.args.typed.now in
    let array = c.args.array.now in
    let i = c.loop-i.i in
    let f = λ (x : Col). item_at (window_of x) i in
    let columns = c.deref.result.now in
    let row : map f columns ≡ row_items typed array i =
    ap (map f) c.deref.ensures.value ∙ c.in_ok-columns.ensures.rows i ∙ whole-rows (window_of c.of-table.result) typed array c.of-table.ensures.window i in
    let kids = ap (λ (w : Window). length (children_of w.typed)) c.of-table.ensures.window in
    let many : length (children_of typed) ≡ length columns =
    omega (
      arith,
      ap length row,
      length-map columns f,
      ap length (whole-rows (window_of c.of-table.result) typed array c.of-table.ensures.window i),
      c.rows_are_whole.ensures i,
      kids,
    ) in
    let Also : ℕ → Type 0 = λ k. is_null (get_or (map f columns) k Null) ≡ true in
    subst (λ ns. AreAllBut Also (length columns) ns) (sym c.deref-in-loop-i.ensures.value)
    (weaker (length (children_of typed)) (length columns) c.in_ok-numbers.numbers.items many
    (λ (k : ℕ) (null : IsNullColumn typed array k). ap (λ r. is_null (get_or r k Null)) row ∙ null i) c.in_ok-numbers.ensures)

pub loop-i-preserved : goal.loop-i-preserved
loop-i-preserved c =
    let typed = typed_of c.args.typed.now in
    let array = c.args.array.now in
    let i = c.loop-i.i in
    let f = λ (x : Col). item_at (window_of x) i in
    let F = λ (k : ℕ). tag_of (row_items typed array k) in
    let place : i ≡ 0 + i = omega arith in
    let one : c.tag_at.result ≡ F (0 + i) =
    c.tag_at.ensures ∙ ap tag_of (ap (map f) c.deref.ensures.value ∙ c.in_ok-columns.ensures.rows i
    ∙ whole-rows (window_of c.of-table.result) typed array c.of-table.ensures.window i) ∙ ap F place in
    record {
      ids = c.push_reserved.ensures.items ∙ (λ t. c.loop-i.invariant.ids t ++ one t ∷ []) ∙ sym (each-next F 0 i);
      len = omega (arith, c.push_reserved.ensures.len, c.loop-i.invariant.len);
      room = omega (arith, c.push_reserved.ensures.capacity, c.loop-i.invariant.room);
    }

pub returns : goal.returns
returns c =
    let typed = typed_of c.args.typed.now in
    let array = c.args.array.now in
    let count = ap (λ (w : Window). w.count) c.of-table.ensures.window in
    let end : c.loop-i.i ≡ tree_items array = omega (arith, c.loop-i-test.false, c.loop-i.auto.i-end, c.count_items-count.ensures.count, count) in
    c.loop-i.invariant.ids ∙ ap (each (λ i. tag_of (row_items typed array i)) 0) end ∙ sym (map-each tag_of (row_items typed array) 0 (tree_items array))
