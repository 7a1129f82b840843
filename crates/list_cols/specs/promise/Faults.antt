-- Which chunks aren't grouped, and of which the lists aren't spread out.
use Rattle.std.specs.Prelude.{ℕ, suc, ◌==◌, ◌^◌, ◌-◌, nat_lt, Bool, true, false, not, ◌||◌, if◌then◌else◌, List, [], ◌∷◌, length, Option, None, Some}
use Rattle.std.specs.List.{list_any}
use Rattle.data_types.specs.promise.FieldText.{form_of}
use Rattle.data_types.specs.promise.Table.{Row}
use Rattle.data_types.specs.declared.kind.DataType.{DataType}
use Rattle.data_types.specs.declared.kind.DataType.TheVariants as kinds
use Rattle.tree_model.specs.promise.TreeData.{Live, more_trees}
use Rattle.tree_model.specs.promise.TreeParts.{children_of}
use Rattle.col_build.specs.promise.Encoding.{are_within, is_wide}
use Rattle.data_types.specs.promise.Value.{byte_total}
use Rattle.data_types.specs.promise.KindTrees.{KindTree}
use Rattle.column_fill.specs.promise.FlatColumns.{is_flat_column}
use Rattle.arr_export.specs.promise.ValueColumns.{ValueColumn}
use Rattle.list_cols.specs.promise.FlatTables.{columns_from}
use Rattle.list_cols.specs.promise.Exploded.{exploded_kinds}
use Rattle.list_cols.specs.promise.Nested.{Explode}
use Rattle.list_cols.specs.declared.fault.ListFault.{ListFault}
use Rattle.list_cols.specs.declared.fault.ListFault.TheVariants.{WrongKind, TooLong}

-- ---- the kinds of columns

-- lists of values of flat types, with offsets of 32 or 64 bits
abbrev pub is_flat_list : KindTree → Bool
is_flat_list (Live (kinds.List wide) (more_trees kid kids) dict) = is_flat_column kid
is_flat_list _ = false

-- what a column must be whose lists are spread out, and what the others must be
abbrev pub explodes : ℕ → ℕ → KindTree → Bool
explodes column k typed = if k == column then is_flat_list typed else is_flat_column typed

-- the first column, from one of them on, that isn't so
abbrev pub first_wrong : (ℕ → KindTree → Bool) → ℕ → List KindTree → Option ℕ
first_wrong is_so k [] = None
first_wrong is_so k (typed ∷ others) = if is_so k typed then first_wrong is_so (suc k) others else Some k

-- the most columns of a chunk whose rows are made anew
abbrev pub most_columns : ℕ
most_columns = 1024

-- ---- what is too long

-- this many rows, items of a list column, or bytes between narrow offsets are named
abbrev pub most_named : ℕ
most_named = 2 ^ 31 - 1

-- the column has more bytes than its offsets name
abbrev pub is_too_wide : ValueColumn → Bool
is_too_wide c = not (are_within (is_wide c.own.kind) (form_of c.own.kind) (byte_total c.own.values))

-- a table of these rows has too many of them, or a column with too many bytes
abbrev pub is_too_long : List DataType → List Row → Bool
is_too_long kinds rows = nat_lt most_named (length rows) || list_any is_too_wide (columns_from 0 kinds rows)

abbrev pub fault_of : Option ℕ → Bool → Option ListFault
fault_of (Some column) long = Some (WrongKind column)
fault_of None true = Some TooLong
fault_of None false = None

-- Why the lists of a column of a chunk with these rows aren't spread out.
abbrev pub explode_fault : ℕ → KindTree → List Row → Option ListFault
explode_fault column typed rows =
    fault_of (first_wrong (explodes column) 0 (children_of typed)) (is_too_long (exploded_kinds column typed) (Explode column rows))
