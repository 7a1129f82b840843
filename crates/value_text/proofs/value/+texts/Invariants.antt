use Rattle.std.proofs.Common.{◌≡◌, ◌+◌, ◌*◌, ◌++◌, take}
use Rattle.data_types.specs.promise.Value.{values}
use Rattle.layout_rules.specs.promise.Values.{each, row_items, value_at}
use Rattle.arr_import.specs.Cols.{window_of}
use Rattle.arr_import.specs.Window.{item_at, items_of}
use Rattle.value_text.proofs.Parts.{parts}
use Rattle.value_text.proofs.Sizes.{value_size, values_size}
use Rattle.value_text.proofs.value.+texts.Given as goal

abbrev pub decreases-push_value : goal.decreases-push_value
decreases-push_value a = 3 * value_size (item_at (window_of a.col.now) a.i) + 1

abbrev pub decreases-push_part : goal.decreases-push_part
decreases-push_part a = 3 * value_size (item_at (window_of a.col.now) a.i) + 2

abbrev pub decreases-push_list : goal.decreases-push_list
decreases-push_list a = 3 * values_size (values (items_of (window_of a.col.now)))

abbrev pub decreases-push_struct : goal.decreases-push_struct
decreases-push_struct a =
    3 * values_size (values (row_items (window_of a.col.now).typed (window_of a.col.now).array ((window_of a.col.now).start + a.i)))

-- the items so far
abbrev pub invariant-push_list-loop-i : goal.invariant-push_list-loop-i
invariant-push_list-loop-i l =
    l.text ≡ l.initial.text ++ parts (each (value_at (window_of l.col).typed (window_of l.col).array) (window_of l.col).start l.i)

-- the fields so far
abbrev pub invariant-push_struct-loop-k : goal.invariant-push_struct-loop-k
invariant-push_struct-loop-k l =
    l.text ≡ l.initial.text ++ parts (take l.k (row_items (window_of l.col).typed (window_of l.col).array ((window_of l.col).start + l.i)))
