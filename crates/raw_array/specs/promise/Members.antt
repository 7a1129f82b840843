-- The members of an array node's own, and how the logic stores them.
use Rattle.std.specs.Prelude.{ℕ, ℤ, pos, ◌+◌, ◌^◌, List, [], ◌∷◌, length, Option, None, Some}
use Rattle.raw_array.specs.declared.array.ReleaseKind.{ReleaseKind}
use Rattle.raw_array.specs.declared.array.ReleaseKind.TheVariants.{Assembled}
use Rattle.tree_model.specs.promise.TreeData.{Tree}
use Rattle.tree_model.specs.promise.TreeParts.{members_or}
use Rattle.tree_model.specs.promise.TreeCost as tree

-- a present buffer: its bytes, and its hold's amount
pub record Buffer : Type 0 where
  pub bytes : List ℕ
  pub amount : ℕ

pub record ArrayMembers : Type 0 where
  pub length : ℤ
  pub null_count : ℤ
  pub offset : ℤ
  pub buffers : List (Option Buffer)
  pub kind : ReleaseKind

abbrev pub ArrayTree : Type 0
ArrayTree = Tree ArrayMembers

-- the members of a live array, and empty ones of a released one
abbrev pub members_of : ArrayTree → ArrayMembers
members_of t = members_or (record { length = pos 0; null_count = pos 0; offset = pos 0; buffers = []; kind = Assembled }) t

-- the bytes of a present buffer
abbrev pub bytes_in : Option Buffer → Option (List ℕ)
bytes_in None = None
bytes_in (Some b) = Some b.bytes

-- ---- measures

-- the number of present buffers
abbrev pub holds_of : List (Option Buffer) → ℕ
holds_of [] = 0
holds_of (None ∷ bs) = holds_of bs
holds_of (Some b ∷ bs) = 1 + holds_of bs

abbrev pub holds : ArrayMembers → ℕ
holds members = holds_of members.buffers

abbrev pub Cost : ArrayTree → ℕ
Cost t = tree.Cost holds t

-- the amount of a whole block: more than that no hold has
abbrev pub whole : ℕ
whole = 2 ^ 32
