-- Rows that are grouped by the values of a column, and rows whose lists are spread out.
use Rattle.std.specs.Prelude.{ℕ, ◌==◌, if◌then◌else◌, List, [], get_or, map}
use Rattle.std.specs.List.{filter, flat_map}
use Rattle.data_types.specs.promise.Groups.{same, distinct}
use Rattle.data_types.specs.promise.Parts.{column_values, replaced, value_list}
use Rattle.data_types.specs.promise.Table.{Row}
use Rattle.data_types.specs.promise.Value.{Value, Null, Items, values}
use Rattle.layout_rules.specs.promise.Values.{each}

-- the rows with this value in a column, in order
abbrev pub rows_with : ℕ → Value → List Row → List Row
rows_with column key rows = filter (λ row. same key (get_or row column Null)) rows

-- of the rows with a key, the key, or the list of their values in another column
abbrev pub nested_value : ℕ → Value → List Row → ℕ → Value
nested_value column key rows k = if k == column then key else Items (values (column_values k (rows_with column key rows)))

-- rows of this many columns, grouped by one of them: a row for each of its distinct values
abbrev pub Nest : ℕ → ℕ → List Row → List Row
Nest width column rows = map (λ key. each (nested_value column key rows) 0 width) (distinct (column_values column rows))

-- the items of a list; a null has none
abbrev pub items_in : Value → List Value
items_in (Items vs) = value_list vs
items_in _ = []

-- for each item of a row's list in a column a row with the item in its place
abbrev pub Explode : ℕ → List Row → List Row
Explode column rows = flat_map (λ row. map (λ item. replaced column item row) (items_in (get_or row column Null))) rows
