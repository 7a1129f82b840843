-- The spelling of a column's number.
use Rattle.std.specs.Prelude.{ℕ, List, Option}
use Rattle.tree_check.specs.promise.Numbers.{number_between}

-- the greatest number of a column
abbrev pub most_column : ℕ
most_column = 1023

-- the number of a column that decimal digits without sign or leading zero spell
abbrev pub column_number : List ℕ → Option ℕ
column_number = number_between 0 most_column
