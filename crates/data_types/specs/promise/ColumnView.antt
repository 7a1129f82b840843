-- Columns one behind the other, as the members of a struct.
use Rattle.std.specs.Prelude.{List, [], ◌∷◌}
use Rattle.data_types.specs.promise.Table.{Members, no_members, more_members, Column}

abbrev pub members : List Column → Members
members [] = no_members
members (c ∷ cs) = more_members c.name c.kind (members cs)
