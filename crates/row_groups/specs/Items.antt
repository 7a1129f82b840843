-- The items of an array that are grouped.
use Rattle.std.specs.Prelude.{ℕ, ◌+◌, ◌-◌, ◌^◌, ◌<◌, List}
use Rattle.data_types.specs.promise.Value.{Value}
use Rattle.raw_array.specs.promise.Members.{ArrayTree}
use Rattle.data_types.specs.promise.KindTrees.{KindTree}
use Rattle.layout_rules.specs.promise.Values.{each, value_at}
use Rattle.row_groups.specs.declared.fault.GroupFault.{GroupFault}
use Rattle.row_groups.specs.declared.fault.GroupFault.TheVariants.{TooMany, NoMemory}

-- this many items of an array's window, from one of them on
abbrev pub items_from : KindTree → ArrayTree → ℕ → ℕ → List Value
items_from typed array start count = each (λ i. value_at typed array (start + i)) 0 count

-- the most distinct values that are counted
abbrev pub most_groups : ℕ
most_groups = 2 ^ 31 - 1

-- there are more distinct values than are counted, or memory ran out
abbrev pub IsRefusedFor : ℕ → GroupFault → Type 0
IsRefusedFor found TooMany = most_groups < found
IsRefusedFor found NoMemory = Unit {0}
