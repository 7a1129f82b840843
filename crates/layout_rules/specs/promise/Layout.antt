-- The layout of an array, by its type: how many buffers it has, what they need, and what its items are
-- ("Arrow Columnar Format", "Physical memory layout").
use Rattle.std.specs.Prelude.{ℕ, zero, suc, ◌+◌, ◌-◌, ◌*◌, ◌/◌, ℤ, pos, negsuc, Bool, true, nat_lt, max, ◌==◌, ◌||◌, if◌then◌else◌, List, [], length, take}
use Rattle.std.specs.Prelude.{drop, get_or, Option, Some, None}
use Rattle.data_types.specs.declared.kind.DataType.{DataType}
use Rattle.data_types.specs.declared.storage.Storage.{Storage}
use Rattle.data_types.specs.declared.storage.Storage.TheVariants as stored
use Rattle.data_types.specs.promise.Storage.{storage_of}
use Rattle.data_types.specs.promise.Packed.{bit, number_at, meant, offset_width}
use Rattle.raw_array.specs.promise.Members.{ArrayMembers, bytes_in}
use Rattle.layout_rules.specs.declared.layout.Layout.{Layout}
use Rattle.layout_rules.specs.declared.layout.Layout.TheVariants.{NoBuffers, FixedWidth, TruthBits, ByOffsets, ListOffsets, FixedItems, ByChildren, Views}

abbrev pub laid_out : Storage → Layout
laid_out stored.Nothing = NoBuffers
laid_out stored.Truths = TruthBits
laid_out (stored.Wholes bits signed) = FixedWidth (bits / 8)
laid_out (stored.Floats bits) = FixedWidth (bits / 8)
laid_out (stored.Sized size) = FixedWidth size
laid_out (stored.Between wide text) = ByOffsets wide
laid_out (stored.Lists wide) = ListOffsets wide
laid_out (stored.FixedLists size) = FixedItems size
laid_out stored.Children = ByChildren
laid_out (stored.Views text) = Views

-- the layout of a type's arrays, by how its values are stored
abbrev pub layout_of : DataType → Layout
layout_of kind = laid_out (storage_of kind)

-- how many buffers an array with this many must have: of views as many as it has, and at least validity, the views and the
-- lengths
abbrev pub buffer_count : Layout → ℕ → ℕ
buffer_count NoBuffers found = 0
buffer_count (FixedWidth width) found = 2
buffer_count TruthBits found = 2
buffer_count (ByOffsets wide) found = 3
buffer_count (ListOffsets wide) found = 2
buffer_count (FixedItems size) found = 1
buffer_count ByChildren found = 1
buffer_count Views found = max 3 found

-- ---- an array's own members

-- a number that isn't negative, and 0 for one that is
abbrev pub natural : ℤ → ℕ
natural (pos n) = n
natural (negsuc n) = 0

abbrev pub items : ArrayMembers → ℕ
items a = natural a.length

abbrev pub first : ArrayMembers → ℕ
first a = natural a.offset

-- the place behind the window's last item
abbrev pub end : ArrayMembers → ℕ
end a = first a + items a

-- a buffer's bytes, where the buffer is there
abbrev pub buffer : ArrayMembers → ℕ → Option (List ℕ)
buffer a k = bytes_in (get_or a.buffers k None)

abbrev pub bytes_or_none : Option (List ℕ) → List ℕ
bytes_or_none None = []
bytes_or_none (Some bytes) = bytes

abbrev pub bytes : ArrayMembers → ℕ → List ℕ
bytes a k = bytes_or_none (buffer a k)

-- an item of the window is null where its bit is clear; with no validity buffer none is
abbrev pub is_valid_by : Option (List ℕ) → ℕ → Bool
is_valid_by None place = true
is_valid_by (Some validity) place = bit validity place == 1

abbrev pub is_valid : ArrayMembers → ℕ → Bool
is_valid a i = is_valid_by (buffer a 0) (first a + i)

-- the offset at a place of an offsets buffer's bytes
abbrev pub offset_in : Bool → List ℕ → ℕ → ℤ
offset_in wide offsets place = meant (offset_width wide) true (number_at offsets (place * offset_width wide) (offset_width wide))

abbrev pub offset : Bool → ArrayMembers → ℕ → ℤ
offset wide a place = offset_in wide (bytes a 1) place

-- the data between the offsets at two places
abbrev pub data_between : Bool → ArrayMembers → ℕ → ℕ → List ℕ
data_between wide a from to =
    let here = natural (offset wide a from) in
    let next = natural (offset wide a to) in
    take (next - here) (drop here (bytes a 2))

-- the data of an item
abbrev pub data_of : Bool → ArrayMembers → ℕ → List ℕ
data_of wide a i = data_between wide a (first a + i) (first a + i + 1)

-- an item that is stored in place, as a number
abbrev pub stored_number : ℕ → Bool → ArrayMembers → ℕ → ℤ
stored_number width signed a i = meant width signed (number_at (bytes a 1) ((first a + i) * width) width)

abbrev pub offsets_need : Bool → ℕ → ℕ
offsets_need wide zero = 0
offsets_need wide (suc n) = (suc n + 1) * offset_width wide

-- what the offsets say of the data's length, where they are long enough to say it
abbrev pub data_need : Bool → ArrayMembers → ℕ
data_need wide a =
    if (end a == 0) || nat_lt (length (bytes a 1)) (offsets_need wide (end a)) then 0 else natural (offset wide a (end a))

-- ---- the buffers of views: validity, the views, data buffers, and the lengths of these

abbrev pub view_width : ℕ
view_width = 16

-- how many data buffers there are
abbrev pub data_buffers : ArrayMembers → ℕ
data_buffers a = length a.buffers - 3

-- the place of a data buffer among the buffers, and of the lengths behind the last
abbrev pub data_place : ℕ → ℕ
data_place k = k + 2

abbrev pub data_lengths : ArrayMembers → List ℕ
data_lengths a = bytes a (data_place (data_buffers a))

abbrev pub lengths_need : ArrayMembers → ℕ
lengths_need a = data_buffers a * 8

-- what the lengths say of a data buffer, where they are long enough to say it
abbrev pub data_length : ArrayMembers → ℕ → ℕ
data_length a k =
    if nat_lt (length (data_lengths a)) (lengths_need a) then 0 else natural (offset_in true (data_lengths a) k)

-- how many bytes of its k-th buffer an array needs
abbrev pub need : Layout → ArrayMembers → ℕ → ℕ
need layout a zero = (end a + 7) / 8
need (FixedWidth width) a (suc k) = end a * width
need TruthBits a (suc k) = (end a + 7) / 8
need (ByOffsets wide) a (suc zero) = offsets_need wide (end a)
need (ByOffsets wide) a (suc (suc k)) = data_need wide a
need (ListOffsets wide) a (suc k) = offsets_need wide (end a)
need NoBuffers a (suc k) = 0
need (FixedItems size) a (suc k) = 0
need ByChildren a (suc k) = 0
need Views a (suc zero) = end a * view_width
need Views a (suc (suc k)) = if nat_lt k (data_buffers a) then data_length a k else lengths_need a
