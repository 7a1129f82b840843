-- The struct columns of columns.
use Rattle.std.specs.Prelude.{ℕ, ◌+◌, List, [], ◌∷◌}
use Rattle.data_types.specs.promise.Table.{Column, Kind, Flat, Dict, Columns, Members, no_members, more_members}

abbrev mutual
  -- the struct columns in a kind, at all depths
  pub structs : Kind → ℕ
  structs (Flat kind) = 0
  structs (Dict kind) = 0
  structs (Columns members) = 1 + member_structs members

  pub member_structs : Members → ℕ
  member_structs no_members = 0
  member_structs (more_members name kind rest) = structs kind + member_structs rest

-- in columns
abbrev pub column_structs : List Column → ℕ
column_structs [] = 0
column_structs (c ∷ cs) = structs c.kind + column_structs cs

-- the most of them before a stage
abbrev pub most_structs : ℕ
most_structs = 16
