-- How many structures the schema of columns has, and how deep it is.
use Rattle.std.specs.Prelude.{◌≡◌, ℕ, ◌+◌, List, [], ◌∷◌, All}
use Rattle.data_types.specs.declared.kind.DataType.{DataType}
use Rattle.data_types.specs.promise.Table.{Column, Kind, Flat, Dict, Columns, Members, no_members, more_members}

abbrev mutual
  -- one for values, two for a dictionary and its indices, and for a struct of columns one more than they have
  pub nodes_of_kind : Kind → ℕ
  nodes_of_kind (Flat kind) = 1
  nodes_of_kind (Dict kind) = 2
  nodes_of_kind (Columns members) = 1 + nodes_of_members members

  pub nodes_of_members : Members → ℕ
  nodes_of_members no_members = 0
  nodes_of_members (more_members name kind rest) = nodes_of_kind kind + nodes_of_members rest

abbrev pub nodes_of_columns : List Column → ℕ
nodes_of_columns [] = 0
nodes_of_columns (c ∷ cs) = nodes_of_kind c.kind + nodes_of_columns cs

-- columns of plain values
abbrev pub AreFlat : List Column → Type 0
AreFlat columns = All (λ c. (kind : DataType) × (c.kind ≡ Flat kind)) columns
