-- Views ("Arrow Columnar Format", "Variable-size binary view layout"): four numbers of 4 bytes. The first is the item's
-- length. Of an item of at most 12 bytes the others are these bytes, padded; of a longer one they are its first four bytes,
-- the number of a data buffer, and where in that buffer the item begins.
use Rattle.std.specs.Prelude.{ℕ, ◌+◌, ◌*◌, ℤ, pos, Bool, true, int_lt, if◌then◌else◌, List, take, drop}
use Rattle.data_types.specs.promise.Packed.{number_at, meant}
use Rattle.raw_array.specs.promise.Members.{ArrayMembers}
use Rattle.layout_rules.specs.promise.Layout.{natural, first, bytes, view_width, data_place}

-- one of the four numbers of an item's view
abbrev pub view_number : ArrayMembers → ℕ → ℕ → ℕ
view_number a i word = number_at (bytes a 1) (((first a + i) * 4 + word) * 4) 4

abbrev pub view_length : ArrayMembers → ℕ → ℤ
view_length a i = meant 4 true (view_number a i 0)

abbrev pub view_buffer : ArrayMembers → ℕ → ℤ
view_buffer a i = meant 4 true (view_number a i 2)

abbrev pub view_offset : ArrayMembers → ℕ → ℤ
view_offset a i = meant 4 true (view_number a i 3)

-- an item that doesn't fit in its view
abbrev pub is_long : ℤ → Bool
is_long size = int_lt (pos 12) size

-- the item's bytes in the data buffer that the view names
abbrev pub data_named : ArrayMembers → ℕ → List ℕ
data_named a i =
    take (natural (view_length a i)) (drop (natural (view_offset a i)) (bytes a (data_place (natural (view_buffer a i)))))

-- the item's bytes, which are in the view where they fit
abbrev pub view_data : ArrayMembers → ℕ → List ℕ
view_data a i = if is_long (view_length a i) then data_named a i else take (natural (view_length a i)) (drop ((first a + i) * view_width + 4) (bytes a 1))
