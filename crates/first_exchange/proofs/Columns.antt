-- What a finished column holds, and what its array costs: a hold for each buffer of its encoding, and a node.
use Rattle.std.proofs.Common.{◌≡◌, ◌∙◌, ◌+◌, ℕ, List, [], ◌∷◌, Option, None, Some, refl, sym, ap, arith}
use Rattle.std.specs.Prelude.{count_by, is_some}
use Rattle.buf_block.specs.declared.hold.BufView.{BufView}
use Rattle.data_types.specs.promise.Value.{Value}
use Rattle.data_types.specs.declared.kind.DataType.{DataType}
use Rattle.raw_array.specs.promise.Members.{Cost, holds_of}
use Rattle.raw_array.specs.View.{buffers_of}
use Rattle.raw_array.proofs.Buffers.{holds_of-count}
use Rattle.col_build.specs.promise.Encoding.{encoded}
use Rattle.col_build.specs.promise.Finished.{blocks_of, present_count}
use Rattle.col_build.specs.Finished.{AreMade}
use Rattle.arr_export.specs.promise.ArrayTrees.{column_tree, made_buffers}

view-holds : (views : List (Option BufView)) (buffers : List (Option (List ℕ))) → AreMade views buffers
    → holds_of (buffers_of views) ≡ present_count buffers
view-holds [] [] made = refl
view-holds (None ∷ views) (None ∷ buffers) made = view-holds views buffers made.1
view-holds (Some view ∷ views) (Some bytes ∷ buffers) made = ap (λ n. 1 + n) (view-holds views buffers made.1)
view-holds (None ∷ views) (Some bytes ∷ buffers) made = absurd made.0
view-holds (Some view ∷ views) (None ∷ buffers) made = absurd made.0
view-holds [] (bytes ∷ buffers) made = absurd made
view-holds (view ∷ views) [] made = absurd made

pub finished-holds : (views : List (Option BufView)) (buffers : List (Option (List ℕ))) → AreMade views buffers
    → count_by is_some views ≡ present_count buffers
finished-holds views buffers made = sym (holds_of-count views) ∙ view-holds views buffers made

array-holds : (buffers : List (Option (List ℕ))) → holds_of (made_buffers buffers) ≡ present_count buffers
array-holds [] = refl
array-holds (None ∷ buffers) = array-holds buffers
array-holds (Some bytes ∷ buffers) = ap (λ n. 1 + n) (array-holds buffers)

pub column-cost : (kind : DataType) (values : List Value) → Cost (column_tree kind values None) ≡ 1 + blocks_of kind values
column-cost kind values = omega (arith, array-holds (encoded kind values).buffers)
