use Rattle.std.proofs.Common.{◌≡◌, ◌<◌, ℕ, None, get_or, length}
use Rattle.arr_import.specs.Cols.{window_of}
use Rattle.arr_import.specs.Window.{item_at}
use Rattle.value_text.specs.Homes.{IsAt}
use Rattle.value_text.proofs.homes.entry_homes.Given as goal

-- the items so far
abbrev pub invariant-loop-i : goal.invariant-loop-i
invariant-loop-i l = record {
  many : length l.places.items ≡ l.i;
  each : (k : ℕ) → k < l.i → IsAt (window_of l.entries.items) (get_or l.places.items k None) (item_at (window_of l.col) k);
}
