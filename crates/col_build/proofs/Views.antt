-- Views that are there, counted.
use Rattle.std.proofs.Common.{◌≡◌, ◌+◌, List, [], ◌∷◌, cond, arith}
use Rattle.std.proofs.lemmas.List.Sums.{sum_by-cons}
use Rattle.std.specs.Prelude.{Option, None, Some, ℕ, count_by, is_some}
use Rattle.buf_block.specs.declared.hold.BufView.{BufView}
use Rattle.col_build.specs.promise.Finished.{present_count}
use Rattle.col_build.specs.Finished.{AreMade}

some-cons : (view : Option BufView) (views : List (Option BufView)) → count_by is_some (view ∷ views) ≡ cond (is_some view) 1 0 + count_by is_some views
some-cons view views = sum_by-cons (λ view. cond (is_some view) 1 0) view views

-- a finished column has as many views as buffers of its encoding are there
pub made-count : (views : List (Option BufView)) (buffers : List (Option (List ℕ))) → AreMade views buffers → count_by is_some views ≡ present_count buffers
made-count [] [] made = omega arith
made-count [] (bytes ∷ buffers) made = absurd made
made-count (view ∷ views) [] made = absurd made
made-count (None ∷ views) (None ∷ buffers) made = omega (arith, some-cons None views, made-count views buffers made.1)
made-count (None ∷ views) (Some bytes ∷ buffers) made = absurd made.0
made-count (Some view ∷ views) (None ∷ buffers) made = absurd made.0
made-count (Some view ∷ views) (Some bytes ∷ buffers) made = omega (arith, some-cons (Some view) views, made-count views buffers made.1)
