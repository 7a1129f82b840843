-- Which columns of a chunk are looked at for the first value that isn't null.
use Rattle.std.specs.Prelude.{◌≡◌, ◌<◌, ◌+◌, ℕ, true, List, get_or, length}
use Rattle.data_types.specs.promise.KindTrees.{KindTree}
use Rattle.data_types.specs.promise.Value.{Null, is_null}
use Rattle.layout_rules.specs.promise.Values.{row_items}
use Rattle.raw_array.specs.promise.Members.{ArrayTree}

-- a column is null in each row
abbrev pub IsNullColumn : KindTree → ArrayTree → ℕ → Type 0
IsNullColumn typed array k = (i : ℕ) → is_null (get_or (row_items typed array i) k Null) ≡ true

-- numbers below one, in order, and of all that aren't among them something holds
pub record AreAllBut (Holds : ℕ → Type 0) (count : ℕ) (numbers : List ℕ) : Type 0 where
  pub below : (p : ℕ) → p < length numbers → get_or numbers p count < count
  pub start : (k : ℕ) → k < get_or numbers 0 count → Holds k
  pub between : (p k : ℕ) → p < length numbers → get_or numbers p count < k → k < get_or numbers (p + 1) count → Holds k
