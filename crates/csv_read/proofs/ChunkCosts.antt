-- What a column costs: a node, and a hold for each buffer of its encoding.
use Rattle.std.proofs.Common.{◌≡◌, ◌∙◌, ◌≤◌, ◌+◌, ◌++◌, ℕ, Bool, List, [], ◌∷◌, length, Option, None, Some, refl, ap, arith}
use Rattle.buf_block.specs.declared.hold.BufView.{BufView}
use Rattle.data_types.specs.promise.FieldText.{Form, Truths, Wholes, FloatBits, Text, HexBytes, SizedHex, Decimals, form_of}
use Rattle.data_types.specs.promise.Value.{Value}
use Rattle.data_types.specs.declared.kind.DataType.{DataType}
use Rattle.std.proofs.lemmas.List.Sums.{sum_by-append, sum_by-cons}
use Rattle.tree_model.proofs.Measures.{cost_of_all-append}
use Rattle.tree_model.specs.promise.TreeData.{trees}
use Rattle.raw_array.specs.promise.Members.{ArrayTree, Cost, holds, holds_of}
use Rattle.raw_array.specs.Members.{cost_of_all}
use Rattle.raw_array.specs.View.{buffers_of}
use Rattle.col_build.specs.promise.Encoding.{buffers_by, buffers_if, encoded, is_wide}
use Rattle.col_build.specs.promise.Finished.{blocks_of, present_count}
use Rattle.col_build.specs.Finished.{AreMade}
use Rattle.arr_export.specs.promise.ArrayTrees.{column_tree, made_buffers}
use Rattle.col_build.specs.declared.builder.Builder.{Builder}
use Rattle.csv_read.specs.Chunks.{AreColumnsOf, IsColumnOf, all_blocks, own_blocks}

made-holds : (buffers : List (Option (List ℕ))) → holds_of (made_buffers buffers) ≡ present_count buffers
made-holds [] = refl
made-holds (None ∷ buffers) = made-holds buffers
made-holds (Some bytes ∷ buffers) = ap (λ n. 1 + n) (made-holds buffers)

-- the holds of a finished column
pub finished-holds : (views : List (Option BufView)) (buffers : List (Option (List ℕ))) → AreMade views buffers
    → holds_of (buffers_of views) ≡ present_count buffers
finished-holds [] [] made = refl
finished-holds (None ∷ views) (None ∷ buffers) made = finished-holds views buffers made.1
finished-holds (Some view ∷ views) (Some bytes ∷ buffers) made = ap (λ n. 1 + n) (finished-holds views buffers made.1)
finished-holds (None ∷ views) (Some bytes ∷ buffers) made = absurd made.0
finished-holds (Some view ∷ views) (None ∷ buffers) made = absurd made.0
finished-holds [] (bytes ∷ buffers) made = absurd made
finished-holds (view ∷ views) [] made = absurd made

pub column-blocks : (kind : DataType) (values : List Value) → own_blocks (column_tree kind values None) ≡ blocks_of kind values
column-blocks kind values = made-holds (encoded kind values).buffers

pub column-cost : (kind : DataType) (values : List Value) → Cost (column_tree kind values None) ≡ 1 + blocks_of kind values
column-cost kind values = omega (arith, made-holds (encoded kind values).buffers)

few-present : (buffers : List (Option (List ℕ))) → present_count buffers ≤ length buffers
few-present [] = omega arith
few-present (None ∷ buffers) = omega (arith, few-present buffers)
few-present (Some bytes ∷ buffers) = omega (arith, few-present buffers)

three-by : (wide : Bool) (form : Form) (values : List Value) → length (buffers_by wide form values) ≤ 3
three-by wide Truths values = omega arith
three-by wide (Wholes bits signed) values = omega arith
three-by wide (FloatBits bits) values = omega arith
three-by wide Text values = omega arith
three-by wide HexBytes values = omega arith
three-by wide (SizedHex size) values = omega arith
three-by wide (Decimals precision places) values = omega arith

three : (wide : Bool) (form : Option Form) (values : List Value) → length (buffers_if wide form values) ≤ 3
three wide None values = omega arith
three wide (Some form) values = three-by wide form values

pub few-blocks : (kind : DataType) (values : List Value) → blocks_of kind values ≤ 3
few-blocks kind values = omega (arith, few-present (encoded kind values).buffers, three (is_wide kind) (form_of kind) values)

-- ---- columns one after the other

pub columns-push : (builders : List Builder) (arrays : List ArrayTree) (builder : Builder) (array : ArrayTree)
    → AreColumnsOf builders arrays → IsColumnOf builder array → AreColumnsOf (builders ++ builder ∷ []) (arrays ++ array ∷ [])
columns-push [] [] builder array are is = (is, tt)
columns-push (b ∷ bs) (a ∷ as') builder array are is = (are.0, columns-push bs as' builder array are.1 is)
columns-push [] (a ∷ as') builder array are is = absurd are
columns-push (b ∷ bs) [] builder array are is = absurd are

pub blocks-push : (arrays : List ArrayTree) (array : ArrayTree) → all_blocks (arrays ++ array ∷ []) ≡ all_blocks arrays + own_blocks array
blocks-push arrays array = sum_by-append own_blocks arrays (array ∷ []) ∙ ap (λ n. all_blocks arrays + n) (sum_by-cons own_blocks array [] ∙ omega arith)

pub cost-push : (arrays : List ArrayTree) (array : ArrayTree) → cost_of_all (trees (arrays ++ array ∷ [])) ≡ cost_of_all (trees arrays) + Cost array
cost-push arrays array = omega (arith, cost_of_all-append holds arrays (array ∷ []))
