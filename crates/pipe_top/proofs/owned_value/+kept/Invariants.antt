use Rattle.std.proofs.Common.{◌≡◌, ◌+◌, ◌*◌, map, take}
use Rattle.data_types.specs.promise.Value.{values}
use Rattle.layout_rules.specs.promise.Values.{each, row_items, value_at}
use Rattle.arr_import.specs.Cols.{window_of}
use Rattle.arr_import.specs.Window.{item_at, items_of}
use Rattle.pipe_top.specs.OwnedValues.{value_of}
use Rattle.pipe_top.proofs.Kept.{value_size, values_size}
use Rattle.pipe_top.proofs.owned_value.+kept.Given as goal

abbrev pub decreases-kept_value : goal.decreases-kept_value
decreases-kept_value a = 2 * value_size (item_at (window_of a.col.now) a.i) + 1

abbrev pub decreases-kept_items : goal.decreases-kept_items
decreases-kept_items a = 2 * values_size (values (items_of (window_of a.col.now)))

abbrev pub decreases-kept_fields : goal.decreases-kept_fields
decreases-kept_fields a =
    2 * values_size (values (row_items (window_of a.col.now).typed (window_of a.col.now).array ((window_of a.col.now).start + a.i)))

-- the items so far
abbrev pub invariant-kept_items-loop-i : goal.invariant-kept_items-loop-i
invariant-kept_items-loop-i l =
    map value_of l.items.items ≡ each (value_at (window_of l.col).typed (window_of l.col).array) (window_of l.col).start l.i

-- the fields so far
abbrev pub invariant-kept_fields-loop-k : goal.invariant-kept_fields-loop-k
invariant-kept_fields-loop-k l =
    map value_of l.fields.items ≡ take l.k (row_items (window_of l.col).typed (window_of l.col).array ((window_of l.col).start + l.i))
