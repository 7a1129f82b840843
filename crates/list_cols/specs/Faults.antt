-- Which chunks aren't grouped, and of which the lists aren't spread out.
use Rattle.std.specs.Prelude.{◌≡◌, ◌≤◌, ◌<◌, ℕ, Bool, Option, None, Some}
use Rattle.list_cols.specs.declared.fault.ListFault.{ListFault}
use Rattle.list_cols.specs.declared.fault.ListFault.TheVariants.{NoMemory}
use Rattle.list_cols.specs.promise.Faults.{most_named}
use Rattle.data_types.specs.promise.KindTrees.{KindTree}
use Rattle.column_fill.specs.promise.FlatColumns.{is_flat_column}

-- ---- what an answer says of it

-- a number, where it is one that is named
abbrev pub IsNamed : ℕ → Option ℕ → Type 0
IsNamed total (Some count) = (count ≡ total) × (total ≤ most_named)
IsNamed total None = most_named < total

-- the answer's fault is this one, or memory ran out
abbrev pub IsRefusedBy : Option ListFault → ListFault → Type 0
IsRefusedBy fault NoMemory = Unit {0}
IsRefusedBy fault found = fault ≡ Some found

-- ---- the kinds of columns

-- what each column must be whose rows are grouped
abbrev pub nests : ℕ → KindTree → Bool
nests k typed = is_flat_column typed
