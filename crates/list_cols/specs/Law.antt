-- What grouping and spreading out give together.
use Rattle.std.specs.Prelude.{◌≡◌, List}
use Rattle.std.specs.List.{flat_map}
use Rattle.data_types.specs.promise.Parts.{column_values}
use Rattle.data_types.specs.promise.Table.{Row}
use Rattle.list_cols.specs.promise.Nested.{Explode, Nest, rows_with}
use Rattle.data_types.specs.promise.Groups.{distinct}

-- of rows of two columns, grouped by the first and spread out again: for each key in order of first appearance its rows, in order
abbrev pub KeysComeTogether : List Row → Type 0
KeysComeTogether rows = Explode 1 (Nest 2 0 rows) ≡ flat_map (λ key. rows_with 0 key rows) (distinct (column_values 0 rows))
