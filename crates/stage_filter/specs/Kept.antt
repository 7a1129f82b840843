-- The items of a column that pass a test, by their numbers.
use Rattle.std.specs.Prelude.{ℕ, ◌+◌, ◌*◌, Bool, true, false, List, Option, map, if◌then◌else◌}
use Rattle.std.specs.List.{filter}
use Rattle.std.specs.declared.cmp.Ordering.{Ordering}
use Rattle.std.specs.Ordering.{is_eq, is_ne, is_lt, is_le, is_gt, is_ge}
use Rattle.data_types.specs.promise.Table.{Row}
use Rattle.data_types.specs.promise.Value.{Value, Null, Whole}
use Rattle.data_types.specs.promise.Packed.{meant, number_at}
use Rattle.raw_array.specs.promise.Members.{ArrayTree}
use Rattle.data_types.specs.promise.KindTrees.{KindTree}
use Rattle.layout_rules.specs.promise.Layout.{is_valid_by}
use Rattle.layout_rules.specs.promise.Values.{each, row_items}
use Rattle.arr_import.specs.Window.{Window, item_at}
use Rattle.stage_model.specs.promise.Stages.{passes}
use Rattle.stage_model.specs.declared.stage.Const.{Const}
use Rattle.stage_model.specs.declared.stage.Test.{Test}
use Rattle.stage_model.specs.declared.stage.Test.TheVariants as tests

-- a value passes that compares so to a constant
abbrev pub order_passes : Test → Ordering → Bool
order_passes tests.Eq order = is_eq order
order_passes tests.Ne order = is_ne order
order_passes tests.Lt order = is_lt order
order_passes tests.Le order = is_le order
order_passes tests.Gt order = is_gt order
order_passes tests.Ge order = is_ge order
order_passes tests.Null order = false
order_passes tests.Valid order = false

-- whether a value must be the constant, or must not
abbrev pub equality : Bool → Test
equality equal = if equal then tests.Eq else tests.Ne

-- this many numbers from one on
abbrev pub numbers : ℕ → ℕ → List ℕ
numbers from count = each (λ i. i) from count

-- of this many items from one on, the numbers of those that pass
abbrev pub kept_numbers : Test → Const → Window → ℕ → ℕ → List ℕ
kept_numbers test constant w from count = filter (λ i. passes test constant (item_at w i)) (numbers from count)

-- ---- the rows of a struct, by numbers that are counted from a row of its window on

abbrev pub rows_at : KindTree → ArrayTree → ℕ → List ℕ → List Row
rows_at typed array start kept = map (λ i. row_items typed array (start + i)) kept

-- an index of 32 bits at a place of the buffers: null where its validity bit is clear
abbrev pub index_in : Option (List ℕ) → List ℕ → ℕ → Value
index_in validity stored place = if is_valid_by validity place then Whole (meant 4 true (number_at stored (place * 4) 4)) else Null
