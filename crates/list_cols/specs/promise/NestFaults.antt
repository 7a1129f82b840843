-- Which chunks aren't grouped.
use Rattle.std.specs.Prelude.{ℕ, nat_lt, Bool, ◌&&◌, ◌||◌, List, length, Option}
use Rattle.data_types.specs.promise.Table.{Row}
use Rattle.tree_model.specs.promise.TreeParts.{children_of}
use Rattle.data_types.specs.promise.KindTrees.{KindTree}
use Rattle.list_cols.specs.promise.Faults.{fault_of, first_wrong, most_named}
use Rattle.column_fill.specs.promise.FlatColumns.{is_flat_column}
use Rattle.list_cols.specs.promise.NestedTables.{keys_of}
use Rattle.list_cols.specs.declared.fault.ListFault.{ListFault}

-- There would be too many rows, one for each distinct value, or too many items in a list column: each row gives each list column one
-- item. The bytes of a column are no more than they were, so that narrow offsets still reach them.
abbrev pub is_nest_too_long : ℕ → ℕ → List Row → Bool
is_nest_too_long width column rows = nat_lt most_named (length (keys_of column rows)) || (nat_lt 1 width && nat_lt most_named (length rows))

-- Why the rows of a chunk aren't grouped by a column: a column isn't of a flat type, or there would be too many rows or items.
abbrev pub nest_fault : ℕ → KindTree → List Row → Option ListFault
nest_fault column typed rows = fault_of (first_wrong (λ k kid. is_flat_column kid) 0 (children_of typed)) (is_nest_too_long (length (children_of typed)) column rows)
