-- What a reader sees of a tree of arrays: all of it but how much of a block each buffer's hold has, and how a node is released.
use Rattle.std.specs.Prelude.{◌≡◌, map, Option, None, Some}
use Rattle.tree_model.specs.Tree.{map_tree}
use Rattle.raw_array.specs.promise.Members.{Buffer, ArrayMembers, ArrayTree}
use Rattle.raw_array.specs.declared.array.ReleaseKind.TheVariants.{Assembled}

abbrev pub shown_buffer : Option Buffer → Option Buffer
shown_buffer None = None
shown_buffer (Some b) = Some (record { bytes = b.bytes; amount = 0 })

abbrev pub shown_members : ArrayMembers → ArrayMembers
shown_members m =
    record { length = m.length; null_count = m.null_count; offset = m.offset; buffers = map shown_buffer m.buffers; kind = Assembled }

abbrev pub shown : ArrayTree → ArrayTree
shown t = map_tree shown_members t

-- the same tree but for amounts and release kinds
abbrev pub SameShown : ArrayTree → ArrayTree → Type 0
SameShown t u = shown t ≡ shown u
