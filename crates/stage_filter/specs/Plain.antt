-- What new arrays of columns draw at most.
use Rattle.std.specs.Prelude.{ℕ, ◌+◌, List, [], ◌∷◌}
use Rattle.data_types.specs.promise.Table.{Column, Kind, Flat, Dict, Columns, Members, no_members, more_members}

abbrev mutual
  -- the units that a new array draws: a node and at most three buffers of values or indices, and a node of a struct. A dictionary
  -- is moved
  pub most_cost : Kind → ℕ
  most_cost (Flat kind) = 4
  most_cost (Dict kind) = 4
  most_cost (Columns members) = 1 + most_of_members members

  pub most_of_members : Members → ℕ
  most_of_members no_members = 0
  most_of_members (more_members name kind rest) = most_cost kind + most_of_members rest

abbrev pub most_of_columns : List Column → ℕ
most_of_columns [] = 0
most_of_columns (c ∷ cs) = most_cost c.kind + most_of_columns cs
