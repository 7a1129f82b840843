-- A table of columns of flat types, made of rows.
use Rattle.std.specs.Prelude.{ℕ, suc, List, [], ◌∷◌, None}
use Rattle.data_types.specs.declared.kind.DataType.{DataType}
use Rattle.data_types.specs.promise.Parts.{column_values}
use Rattle.data_types.specs.promise.Table.{Row}
use Rattle.arr_export.specs.promise.ValueColumns.{ValueColumn}

-- the columns of rows from one of them on, of these types and without dictionaries
abbrev pub columns_from : ℕ → List DataType → List Row → List ValueColumn
columns_from k [] rows = []
columns_from k (kind ∷ kinds) rows =
    record { own = record { kind = kind; values = column_values k rows }; dictionary = None } ∷ columns_from (suc k) kinds rows
