-- The parts of which columns and tables are made.
use Rattle.std.proofs.Common.{◌≡◌, ◌∙◌, ℕ, suc, ◌+◌, ◌-◌, ◌≤◌, ℤ, pos, Bool, List, [], ◌∷◌, length, refl, ap, arith, Option, None, Some}
use Rattle.std.specs.Prelude.{slice_range}
use Rattle.std.proofs.lemmas.List.{take_all}
use Rattle.std.proofs.lemmas.List.Elements.{All-head, All-tail}
use Rattle.std.specs.List.{All}
use Rattle.buf_block.specs.declared.hold.BufView.{BufView}
use Rattle.tree_model.specs.promise.TreeData.{Live, maybe_tree, no_trees, trees}
use Rattle.tree_model.specs.promise.TreeCost.{cost_of_maybe}
use Rattle.tree_model.specs.Tree.{depth_of_all, depth_of_maybe}
use Rattle.raw_array.specs.declared.array.ReleaseKind.TheVariants.{Exported}
use Rattle.raw_array.specs.promise.Members.{ArrayTree, Buffer, Cost, holds, holds_of}
use Rattle.raw_array.specs.View.{buffer_of, buffer_if, buffers_of}
use Rattle.data_types.specs.promise.FieldText.{Form, Truths, Wholes, form_of}
use Rattle.data_types.specs.promise.Value.{Value}
use Rattle.data_types.specs.declared.kind.DataType.{DataType}
use Rattle.col_build.specs.promise.Encoding.{buffers_by, buffers_if, encoded, is_wide, null_total}
use Rattle.col_build.specs.Finished.{AreMade, IsEncoded, IsMade, IsWhole}
use Rattle.col_build.specs.declared.column.FinishedColumn.{FinishedColumn}
use Rattle.arr_export.specs.promise.ArrayTrees.{column_tree, made, made_buffers, made_if}
use Rattle.arr_export.specs.ArrayTrees.{AreIndicesIf, IsColumn}

-- ---- finished buffers
whole-of : (view : BufView) (content : List ℕ) → IsWhole view content → buffer_of view ≡ made content
whole-of view content is =
    let from : view.start ≡ 0 = is.start in
    let to : view.start + view.len ≡ length content = omega (arith, is.start, is.len) in
    let shown : slice_range view.hold.bytes view.start (view.start + view.len) ≡ content =
    ap (λ (bs : List ℕ). slice_range bs view.start (view.start + view.len)) is.bytes
    ∙ ap (λ (n : ℕ). slice_range content n (view.start + view.len)) from
    ∙ ap (slice_range content 0) to
    ∙ take_all (length content - 0) content (omega arith) in
    ap (λ (bs : List ℕ). record { bytes = bs; amount = view.hold.amount }) shown ∙ ap (λ (n : ℕ). record { bytes = content; amount = n }) is.amount

made-of : (view : Option BufView) (content : Option (List ℕ)) → IsMade view content → buffer_if view ≡ made_if content
made-of None None is = refl
made-of None (Some content) is = absurd is
made-of (Some view) None is = absurd is
made-of (Some view) (Some content) is = ap Some (whole-of view content is)

-- finished buffers are those of the encoding, each the whole of a block
pub all-made : (views : List (Option BufView)) (contents : List (Option (List ℕ))) → AreMade views contents → buffers_of views ≡ made_buffers contents
all-made [] [] are = refl
all-made [] (content ∷ contents) are = absurd are
all-made (view ∷ views) [] are = absurd are
all-made (view ∷ views) (content ∷ contents) are =
    ap (λ b. b ∷ buffers_of views) (made-of view content are.0) ∙ ap (λ bs. made_if content ∷ bs) (all-made views contents are.1)

same-count : (views : List (Option BufView)) (contents : List (Option (List ℕ))) → AreMade views contents → length views ≡ length contents
same-count [] [] are = refl
same-count [] (content ∷ contents) are = absurd are
same-count (view ∷ views) [] are = absurd are
same-count (view ∷ views) (content ∷ contents) are = ap suc (same-count views contents are.1)

three-by : (wide : Bool) (form : Form) (values : List Value) → length (buffers_by wide form values) ≤ 3
three-by wide Truths values = omega arith
three-by wide (Wholes bits signed) values = omega arith
three-by wide form values = omega arith

three : (wide : Bool) (form : Option Form) (values : List Value) → length (buffers_if wide form values) ≤ 3
three wide None values = omega arith
three wide (Some form) values = three-by wide form values

-- a column has three buffers at most
pub few-buffers : (views : List (Option BufView)) (kind : DataType) (values : List Value) → AreMade views (encoded kind values).buffers → length views ≤ 3
few-buffers views kind values are = omega (arith, same-count views (encoded kind values).buffers are, three (is_wide kind) (form_of kind) values)

-- ---- the cost and the depth of columns
-- buffers have no more holds than there are buffers
made-holds : (contents : List (Option (List ℕ))) → holds_of (made_buffers contents) ≤ length contents
made-holds [] = omega arith
made-holds (None ∷ contents) = omega (arith, made-holds contents)
made-holds (Some content ∷ contents) = omega (arith, made-holds contents)

-- a column costs its node, its holds and its dictionary
pub column-cost : (kind : DataType) (values : List Value) (dictionary : Option ArrayTree)
    → Cost (column_tree kind values dictionary) ≤ 4 + cost_of_maybe holds (maybe_tree dictionary)
column-cost kind values dictionary = omega (arith, made-holds (encoded kind values).buffers, three (is_wide kind) (form_of kind) values)

pub dictionary-depth : (kind : DataType) (values : List Value) (dictionary : Option ArrayTree) → AreIndicesIf kind values dictionary
    → depth_of_maybe (maybe_tree dictionary) ≤ 127
dictionary-depth kind values None are = omega arith
dictionary-depth kind values (Some dictionary) are = are.not_deep

pub columns-depth : (rows : ℕ) (columns : List ArrayTree) → All (IsColumn rows) columns → depth_of_all (trees columns) ≤ 127
columns-depth rows [] all = omega arith
columns-depth rows (column ∷ columns) all =
    let here = All-head (IsColumn rows) column columns all in
    omega (arith, here.not_deep, columns-depth rows columns (All-tail (IsColumn rows) column columns all))

-- the parts of a finished column are those of its tree
pub column-made : (column : FinishedColumn) (kind : DataType) (values : List Value) (children : List ArrayTree) (dictionary : Option ArrayTree) → children ≡ []
    → IsEncoded column kind values
    → Live (record { length = column.length; null_count = column.null_count; offset = pos 0; buffers = buffers_of column.buffers.items; kind = Exported })
    (trees children) (maybe_tree dictionary) ≡ column_tree kind values dictionary
column-made column kind values children dictionary none is =
    let made = all-made column.buffers.items (encoded kind values).buffers is.buffers in
    ap (λ (ts : List ArrayTree). Live (record {
      length = column.length;
      null_count = column.null_count;
      offset = pos 0;
      buffers = buffers_of column.buffers.items;
      kind = Exported;
    }) (trees ts) (maybe_tree dictionary)) none
    ∙ ap (λ (n : ℤ). Live (record { length = n; null_count = column.null_count; offset = pos 0; buffers = buffers_of column.buffers.items; kind = Exported })
    no_trees (maybe_tree dictionary)) is.length
    ∙ ap (λ (n : ℤ). Live (record { length = pos (length values); null_count = n; offset = pos 0; buffers = buffers_of column.buffers.items; kind = Exported })
    no_trees (maybe_tree dictionary)) is.null_count
    ∙ ap (λ (bs : List (Option Buffer)). Live (record {
      length = pos (length values);
      null_count = pos (null_total values);
      offset = pos 0;
      buffers = bs;
      kind = Exported;
    }) no_trees (maybe_tree dictionary)) made
