use Rattle.std.proofs.Common.{◌≡◌, ◌+◌, ℕ, map, take}
use Rattle.std.specs.List.{All}
use Rattle.layout_rules.specs.promise.Values.{row_items}
use Rattle.arr_import.specs.Cols.{window_of}
use Rattle.arr_import.specs.Window.{item_at}
use Rattle.arr_import.proofs.col.Col.columns.Given as goal

-- the columns so far have the first fields of each row, and the items of the struct
abbrev pub invariant-loop-k : goal.invariant-loop-k
invariant-loop-k l = record {
  rows : (i : ℕ) → map (λ c. item_at (window_of c) i) l.columns.items
      ≡ take l.k (row_items (window_of l.self).typed (window_of l.self).array ((window_of l.self).start + i));
  counts : All (λ c. (window_of c).count ≡ (window_of l.self).count) l.columns.items;
}
