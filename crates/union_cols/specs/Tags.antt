-- The schema and the array of a chunk's columns as a union's children ("Arrow Columnar Format", "Union Layout").
use Rattle.std.specs.Prelude.{ℕ, ℤ, pos, Bool, if◌then◌else◌, List, [], ◌∷◌, ◌++◌, length, map, flat_map, decimal}
use Rattle.std.specs.Prelude.{Option, Some, None}
use Rattle.data_types.specs.promise.Packed.{le_bytes}
use Rattle.tree_model.specs.promise.TreeData.{Live, trees, absent}
use Rattle.tree_model.specs.promise.TreeParts.{children_of}
use Rattle.raw_schema.specs.promise.Members.{SchemaMembers, SchemaTree}
use Rattle.raw_schema.specs.promise.Members as schemas
use Rattle.raw_array.specs.promise.Members.{ArrayMembers, ArrayTree, Buffer, members_of, whole}
use Rattle.raw_array.specs.Windows.{Window}
use Rattle.raw_array.specs.declared.array.ReleaseKind.TheVariants.{Exported}
use Rattle.data_types.specs.promise.KindTrees.{KindTree}
use Rattle.layout_rules.specs.promise.Values.{each, rows_of}
use Rattle.union_cols.specs.promise.UnionFormats.{keyword, joined}
use Rattle.union_cols.specs.promise.Unions.{UnionTree}
use Rattle.union_cols.specs.promise.Tags.{tag_of}

-- ---- the trees

-- the numbers from 0 on, this many of them
abbrev pub numbers : ℕ → List ℕ
numbers count = each (λ k. k) 0 count

-- the kinds of the union: the columns' numbers are their ids
abbrev pub tagged_kinds : Bool → KindTree → UnionTree
tagged_kinds dense typed = record { dense = dense; ids = numbers (length (children_of typed)); kids = children_of typed }

-- the format of a union whose ids are the numbers from 0 on
abbrev pub tag_format : Bool → ℕ → List ℕ
tag_format dense count = keyword dense ++ joined (map decimal (numbers count))

-- the columns' numbers are the ids; the name is that of the top, whose flags and metadata aren't kept
abbrev pub tagged_members : Bool → SchemaTree → SchemaMembers
tagged_members dense schema = record {
  format = tag_format dense (length (children_of schema));
  name = (schemas.members_of schema).name;
  metadata = None;
  flags = pos 0;
}

-- the columns' schemas stay as they are
abbrev pub tagged_schema : Bool → SchemaTree → SchemaTree
tagged_schema dense schema = Live (tagged_members dense schema) (trees (children_of schema)) absent

-- the whole of a new block, and no buffer where there are no bytes
abbrev pub block_of : List ℕ → Option Buffer
block_of [] = None
block_of (byte ∷ bytes) = Some (record { bytes = byte ∷ bytes; amount = whole })

-- the offsets 0, 1, 2 and so on
abbrev pub start_bytes : ℕ → List ℕ
start_bytes count = flat_map (le_bytes 4) (numbers count)

-- the ids, and the offsets of a dense union: item r is item r of its child
abbrev pub tag_buffers : Bool → List ℕ → List (Option Buffer)
tag_buffers dense ids = block_of ids ∷ (if dense then block_of (start_bytes (length ids)) ∷ [] else [])

-- a union of this length with these ids
abbrev pub tag_members : Bool → ℤ → List ℕ → ArrayMembers
tag_members dense length ids = record {
  length = length;
  null_count = pos 0;
  offset = pos 0;
  buffers = tag_buffers dense ids;
  kind = Exported;
}

-- the columns, each cut to the chunk's window
abbrev pub cut_columns : ArrayTree → List ArrayTree
cut_columns array = map (λ column. Window column (members_of array).offset (members_of array).length) (children_of array)

-- the columns under the ids of the rows
abbrev pub tagged_array : Bool → KindTree → ArrayTree → ArrayTree
tagged_array dense typed array =
    Live (tag_members dense (members_of array).length (map tag_of (rows_of typed array))) (trees (cut_columns array)) absent
