-- The buffers of a union that is made, where its offsets are there or not.
use Rattle.std.specs.Prelude.{ℕ, ℤ, pos, List, [], ◌∷◌, Option, None, Some}
use Rattle.std.specs.declared.alloc.Global.{Global}
use Rattle.std.specs.declared.vec.Vec.{Vec}
use Rattle.raw_array.specs.promise.Members.{ArrayMembers, Buffer}
use Rattle.raw_array.specs.declared.array.ReleaseKind.TheVariants.{Exported}
use Rattle.union_cols.specs.Tags.{block_of}

abbrev pub starts_in : Option (Vec ℕ Global) → List (Option Buffer)
starts_in None = []
starts_in (Some starts) = block_of starts.items ∷ []

abbrev pub union_members : ℤ → List (Option Buffer) → ArrayMembers
union_members length buffers = record { length = length; null_count = pos 0; offset = pos 0; buffers = buffers; kind = Exported }
