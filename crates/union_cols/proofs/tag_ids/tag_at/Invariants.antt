use Rattle.std.proofs.Common.{◌≡◌, ◌<◌, ℕ, get_or, length, map, true}
use Rattle.data_types.specs.promise.Value.{Null, is_null}
use Rattle.arr_import.specs.Cols.{window_of}
use Rattle.arr_import.specs.Window.{item_at}
use Rattle.union_cols.proofs.tag_ids.tag_at.Given as goal

-- the columns before this one are null
abbrev pub invariant-loop-p : goal.invariant-loop-p
invariant-loop-p l = (k : ℕ) → k < get_or l.numbers l.p (length l.columns) → is_null (get_or (map (λ c. item_at (window_of c) l.i) l.columns) k Null) ≡ true
