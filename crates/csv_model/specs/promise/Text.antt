-- The text of a table: `csv`'s row text, by its default settings, of the names and then of each row. A null is written as
-- the mark.
use Rattle.std.specs.Prelude.{ℕ, List, [], ◌∷◌, ◌++◌, map}
use Rattle.std.specs.List.{concat}
use Rattle.csv.specs.Writing.{default_writer, row_text}
use Rattle.data_types.specs.promise.FieldText.{written_field}
use Rattle.data_types.specs.promise.Table.{Column, Row, Table}

-- the fields of a row
abbrev pub row_fields : List ℕ → List Column → Row → List (List ℕ)
row_fields mark (c ∷ cs) (value ∷ values) = written_field mark c.kind value ∷ row_fields mark cs values
row_fields mark _ _ = []

abbrev pub table_text : List ℕ → Table → List ℕ
table_text mark table =
    row_text default_writer (map (λ c. c.name) table.columns)
    ++ concat (map (λ values. row_text default_writer (row_fields mark table.columns values)) table.rows)
