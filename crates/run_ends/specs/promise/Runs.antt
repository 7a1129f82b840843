-- Run-end encoded arrays ("Arrow Columnar Format", "Run-End Encoded Layout"): the runs, the run that an item lies in, and its value.
use Rattle.std.specs.Prelude.{ℕ, zero, suc, ◌+◌, ◌⊎◌, ◌≡◌, ℤ, pos, Bool, true, int_lt, if◌then◌else◌, List}
use Rattle.data_types.specs.declared.kind.DataType.TheVariants as kinds
use Rattle.data_types.specs.promise.Value.{Value}
use Rattle.data_types.specs.promise.Value.Value.{Whole}
use Rattle.tree_model.specs.promise.TreeData.{Live, absent}
use Rattle.tree_model.specs.promise.TreeParts.{child_at}
use Rattle.raw_array.specs.promise.Members.{ArrayTree, members_of}
use Rattle.data_types.specs.promise.KindTrees.{KindTree}
use Rattle.layout_rules.specs.promise.Layout.{first, items}
use Rattle.layout_rules.specs.promise.Values.{each, value_at, tree_items}

-- the kinds of a run-end encoded array: of its ends, and of its values
pub record RunTree : Type 0 where
  pub ends : KindTree
  pub values : KindTree

-- whole numbers with a sign, of 16, 32 or 64 bits, without a dictionary
abbrev pub IsEnds : KindTree → Type 0
IsEnds (Live (kinds.Int bits true) kids absent) = (bits ≡ 16) ⊎ (bits ≡ 32) ⊎ (bits ≡ 64)
IsEnds _ = ⊥

-- ---- the runs: the array's own window isn't that of its children

abbrev pub run_count : ArrayTree → ℕ
run_count array = tree_items (child_at array 0)

-- the items of the first child: the ends of the runs, in order
abbrev pub Ends : Type 0
Ends = ℕ → Value

abbrev pub ends_in : RunTree → ArrayTree → Ends
ends_in u array = value_at u.ends (child_at array 0)

abbrev pub whole_of : Value → ℤ
whole_of (Whole n) = n
whole_of _ = pos 0

-- where a run ends: the place behind its last item
abbrev pub run_end : Ends → ℕ → ℤ
run_end ends k = whole_of (ends k)

-- where the run before it ends
abbrev pub end_before : Ends → ℕ → ℤ
end_before ends zero = pos 0
end_before ends (suc k) = run_end ends k

-- ---- the items

-- the first of this many numbers from k on of which something holds, and the number behind them where it holds of none
abbrev pub first_from : (ℕ → Bool) → ℕ → ℕ → ℕ
first_from f k zero = k
first_from f k (suc n) = if f k then k else first_from f (suc k) n

-- a run that ends above a place
abbrev pub ends_above : Ends → ℕ → ℕ → Bool
ends_above ends place k = int_lt (pos place) (run_end ends k)

-- the run of an item of the array's window: the first one whose end is above the item's place
abbrev pub run_of : RunTree → ArrayTree → ℕ → ℕ
run_of u array i = first_from (ends_above (ends_in u array) (first (members_of array) + i)) 0 (run_count array)

-- the values of the window's items, in order: each is that of its run
abbrev pub run_values : RunTree → ArrayTree → List Value
run_values u array = each (λ i. value_at u.values (child_at array 1) (run_of u array i)) 0 (items (members_of array))
