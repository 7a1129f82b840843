-- The members of a schema node's own, and how the logic stores them.
use Rattle.std.specs.Prelude.{ℕ, ℤ, pos, List, [], Option, None}
use Rattle.tree_model.specs.promise.TreeData.{Tree}
use Rattle.tree_model.specs.promise.TreeParts.{members_or}

pub record SchemaMembers : Type 0 where
  pub format : List ℕ
  pub name : Option (List ℕ)
  pub metadata : Option (List ℕ)
  pub flags : ℤ

abbrev pub SchemaTree : Type 0
SchemaTree = Tree SchemaMembers

-- the members of a live schema, and empty ones of a released one
abbrev pub members_of : SchemaTree → SchemaMembers
members_of t = members_or (record { format = []; name = None; metadata = None; flags = pos 0 }) t
