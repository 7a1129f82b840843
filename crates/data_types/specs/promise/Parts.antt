-- Parts of columns and rows by their numbers, from 0.
use Rattle.std.specs.Prelude.{ℕ, ◌+◌, List, [], ◌∷◌, ◌++◌, drop, get_or, map, take}
use Rattle.data_types.specs.promise.Table.{Column, Members, no_members, more_members, Row}
use Rattle.data_types.specs.promise.Value.{Value, Null, Fields, Values, no_values, more_values}

-- the items of these numbers, in their order; `outside` stands for those that aren't there
abbrev pub picked : {X : Type 0} → X → List ℕ → List X → List X
picked outside picks items = map (λ p. get_or items p outside) picks

-- another item in the place of one
abbrev pub replaced : {X : Type 0} → ℕ → X → List X → List X
replaced place item items = take place items ++ item ∷ drop (place + 1) items

-- ---- rows

-- the values of a column
abbrev pub column_values : ℕ → List Row → List Value
column_values place rows = map (λ row. get_or row place Null) rows

abbrev pub value_list : Values → List Value
value_list no_values = []
value_list (more_values v vs) = v ∷ value_list vs

-- the values of a struct's item
abbrev pub fields_of : Value → List Value
fields_of (Fields vs) = value_list vs
fields_of _ = []

-- ---- columns

-- the columns of a struct
abbrev pub member_columns : Members → List Column
member_columns no_members = []
member_columns (more_members name kind rest) = record { name = name; kind = kind } ∷ member_columns rest
