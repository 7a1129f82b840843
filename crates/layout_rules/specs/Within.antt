-- What is read of a lawful array lies within its buffers, its children and its dictionary ("Arrow Columnar Format",
-- "Physical memory layout").
use Rattle.std.specs.Prelude.{ℕ, ◌+◌, ◌*◌, ◌/◌, ◌<◌, ◌≤◌, ◌≤ℤ◌, pos, Bool, IsTrue, List, length}
use Rattle.data_types.specs.declared.kind.DataType.{DataType}
use Rattle.data_types.specs.declared.kind.DataType.TheVariants as kinds
use Rattle.data_types.specs.promise.Packed.{offset_width}
use Rattle.raw_array.specs.promise.Members.{ArrayMembers, ArrayTree}
use Rattle.layout_rules.specs.declared.layout.Layout.{Layout}
use Rattle.layout_rules.specs.declared.layout.Layout.TheVariants.{NoBuffers, FixedWidth, TruthBits, ByOffsets, ListOffsets, FixedItems, ByChildren, Views}
use Rattle.layout_rules.specs.promise.Layout.{natural, bytes, offset, offset_in, is_valid, stored_number, view_width, data_buffers, data_length, data_place}
use Rattle.layout_rules.specs.promise.Views.{view_length, view_buffer, view_offset, is_long}
use Rattle.layout_rules.specs.promise.Values.{tree_items}

-- the offset at a place and the one behind it are there, the first is at least 0, and the second no less than it
pub record OffsetsRise (wide : Bool) (offsets : List ℕ) (place : ℕ) : Type 0 where
  pub there : (place + 1 + 1) * offset_width wide ≤ length offsets
  pub from : pos 0 ≤ℤ offset_in wide offsets place
  pub rise : offset_in wide offsets place ≤ℤ offset_in wide offsets (place + 1)

-- what the buffers have of the item at a place
abbrev pub StoredWithin : Layout → ArrayMembers → ℕ → Type 0
StoredWithin NoBuffers own place = Unit {0}
StoredWithin (FixedWidth width) own place = (place + 1) * width ≤ length (bytes own 1)
StoredWithin TruthBits own place = place < 8 * length (bytes own 1)
StoredWithin (ByOffsets wide) own place = OffsetsRise wide (bytes own 1) place × (offset wide own (place + 1) ≤ℤ pos (length (bytes own 2)))
StoredWithin (ListOffsets wide) own place = OffsetsRise wide (bytes own 1) place
StoredWithin (FixedItems size) own place = Unit {0}
StoredWithin ByChildren own place = Unit {0}
StoredWithin Views own place = (place + 1) * view_width ≤ length (bytes own 1)

-- what a child of this many items has of the item at a place
abbrev pub ItemsWithin : Layout → ArrayMembers → ℕ → ℕ → Type 0
ItemsWithin (ListOffsets wide) own place total = natural (offset wide own (place + 1)) ≤ total
ItemsWithin (FixedItems size) own place total = (place + 1) * size ≤ total
ItemsWithin ByChildren own place total = place < total
ItemsWithin _ own place total = Unit {0}

-- an index that isn't null is a place of the dictionary
abbrev pub IndexWithin : DataType → ArrayMembers → ℕ → ArrayTree → Type 0
IndexWithin (kinds.Int bits signed) own i dictionary =
    IsTrue (is_valid own i) → (pos 0 ≤ℤ stored_number (bits / 8) signed own i) × (natural (stored_number (bits / 8) signed own i) < tree_items dictionary)
IndexWithin _ own i dictionary = Unit {0}

-- the data buffer that a long view names is there, and has the view's data
pub record NamedWithin (own : ArrayMembers) (i : ℕ) : Type 0 where
  pub buffer_from : pos 0 ≤ℤ view_buffer own i
  pub buffer : natural (view_buffer own i) < data_buffers own
  pub from : pos 0 ≤ℤ view_offset own i
  pub sized : natural (view_offset own i) + natural (view_length own i) ≤ data_length own (natural (view_buffer own i))
  pub there : natural (view_offset own i) + natural (view_length own i) ≤ length (bytes own (data_place (natural (view_buffer own i))))

-- a view has a length, and its data are there
pub record DataWithin (own : ArrayMembers) (i : ℕ) : Type 0 where
  pub size : pos 0 ≤ℤ view_length own i
  pub named : IsTrue (is_long (view_length own i)) → NamedWithin own i

-- a view that isn't null
abbrev pub ViewWithin : Layout → ArrayMembers → ℕ → Type 0
ViewWithin Views own i = IsTrue (is_valid own i) → DataWithin own i
ViewWithin _ own i = Unit {0}

-- each data buffer has what the lengths say of it
abbrev pub AreThere : ArrayMembers → Type 0
AreThere own = (k : ℕ) → k < data_buffers own → data_length own k ≤ length (bytes own (data_place k))
