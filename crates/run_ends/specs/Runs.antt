-- Run-end encoded arrays ("Arrow Columnar Format", "Run-End Encoded Layout"): the runs, the run that an item lies in, and its value.
use Rattle.std.specs.Prelude.{ℕ}
use Rattle.data_types.specs.promise.Value.{Value}
use Rattle.tree_model.specs.promise.TreeParts.{child_at}
use Rattle.raw_array.specs.promise.Members.{ArrayTree}
use Rattle.layout_rules.specs.promise.Values.{tree_items, value_at}
use Rattle.data_types.specs.KindTrees.{TypedOk}
use Rattle.run_ends.specs.promise.Runs.{Ends, IsEnds, RunTree, ends_above, first_from, run_of}

-- what every call asks of them
pub record RunTypedOk (u : RunTree) : Type 0 where
  pub ends_are : IsEnds u.ends
  pub ends_ok : TypedOk u.ends
  pub values_ok : TypedOk u.values

-- ---- the parts of an array

abbrev pub value_count : ArrayTree → ℕ
value_count array = tree_items (child_at array 1)

-- the run of a place: the first one, of this many, whose end is above the place
abbrev pub run_at : Ends → ℕ → ℕ → ℕ
run_at ends count place = first_from (ends_above ends place) 0 count

-- The value of item i: that of its run.
abbrev pub run_value : RunTree → ArrayTree → ℕ → Value
run_value u array i = value_at u.values (child_at array 1) (run_of u array i)
