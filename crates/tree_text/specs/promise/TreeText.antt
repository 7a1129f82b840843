-- A schema tree and an array tree as a text: which lines the two spell ("The Arrow C Data Interface", "Structure
-- definitions", has what the lines tell).
use Rattle.std.specs.Prelude.{◌≡◌, ℕ, ◌+◌, ◌/◌, ◌%◌, ◌<◌, ◌≤◌, ℤ, Bool, true, not, ◌&&◌, ◌==◌, IsTrue, if◌then◌else◌, List, [], ◌∷◌, ◌++◌, length, map}
use Rattle.std.specs.Prelude.{codes, Option, None, Some}
use Rattle.std.specs.Int.{is_in_range}
use Rattle.std.specs.List.{flat_map, join_with_byte, AllByRecursion}
use Rattle.std.specs.Fmt.{decimal, signed_decimal, digit_glyph}
use Rattle.std.specs.Str.Lines.{lines}
use Rattle.data_types.specs.promise.FieldText.{hex_text, in_range}
use Rattle.tree_model.specs.promise.TreeData.{Tree, Released, Live, Trees, no_trees, more_trees, MaybeTree, absent, present, tree_list}
use Rattle.raw_schema.specs.promise.Members.{SchemaMembers, SchemaTree}
use Rattle.raw_array.specs.promise.Members.{Buffer, ArrayMembers, ArrayTree, whole, bytes_in}
use Rattle.raw_array.specs.declared.array.ReleaseKind.TheVariants.{Exported}

-- ---- tokens: bytes that may be absent

-- a printable byte but `%` stands for itself
abbrev pub is_plain : ℕ → Bool
is_plain byte = is_in_range 33 126 byte && not (byte == 37)

-- any other byte is `%` and two upper-case hexadecimal digits
abbrev pub byte_text : ℕ → List ℕ
byte_text byte = if is_plain byte then byte ∷ [] else 37 ∷ digit_glyph true (byte / 16) ∷ digit_glyph true (byte % 16) ∷ []

-- `~` for absent, or `=` and the bytes
abbrev pub token : Option (List ℕ) → List ℕ
token None = codes "~"
token (Some bytes) = codes "=" ++ flat_map byte_text bytes

-- ---- lines

-- fields with one space between them
abbrev pub spaced : List (List ℕ) → List ℕ
spaced fields = join_with_byte 32 fields

-- a live schema node: its format, name, flags, number of children, number of dictionaries and metadata
abbrev pub schema_line : SchemaMembers → ℕ → ℕ → List ℕ
schema_line own children dictionaries =
    spaced (codes "S" ∷ token (Some own.format) ∷ token own.name ∷ signed_decimal own.flags ∷ decimal children ∷ decimal dictionaries ∷ token own.metadata ∷ [])

-- the numbers of an array's line: its members, with the number of its buffers
pub record ArrayNumbers : Type 0 where
  pub length : ℤ
  pub null_count : ℤ
  pub offset : ℤ
  pub buffers : ℕ

-- those of a live node
abbrev pub numbers_of : ArrayMembers → ArrayNumbers
numbers_of own = record { length = own.length; null_count = own.null_count; offset = own.offset; buffers = length own.buffers }

-- a live array node: its length, null count, offset and the numbers of its buffers, children and dictionaries
abbrev pub array_line : ArrayNumbers → ℕ → ℕ → List ℕ
array_line own children dictionaries =
    spaced (codes "A" ∷ signed_decimal own.length ∷ signed_decimal own.null_count ∷ signed_decimal own.offset ∷ decimal own.buffers ∷ decimal children
    ∷ decimal dictionaries ∷ [])

-- an absent buffer, or the bytes of one by pairs of lower-case hexadecimal digits
abbrev pub buffer_text : Option (List ℕ) → List ℕ
buffer_text None = codes "B ~"
buffer_text (Some bytes) = codes "B =" ++ hex_text bytes

-- ---- trees: a node's line, an array's buffers, then the children in order, then the dictionary

-- 1 where there is a dictionary, and else 0
abbrev pub dictionaries : {M : Type 0} → MaybeTree M → ℕ
dictionaries absent = 0
dictionaries (present t) = 1

-- the lines of a tree, from the line of a released node and from the lines of a live node's own: its members, with the
-- numbers of its children and of its dictionaries
abbrev mutual
  pub lines_of : {M : Type 0} → List ℕ → (M → ℕ → ℕ → List (List ℕ)) → Tree M → List (List ℕ)
  lines_of released own_lines Released = released ∷ []
  lines_of released own_lines (Live own children dictionary) =
      own_lines own (length (tree_list children)) (dictionaries dictionary)
      ++ (lines_of_all released own_lines children ++ lines_of_maybe released own_lines dictionary)

  pub lines_of_all : {M : Type 0} → List ℕ → (M → ℕ → ℕ → List (List ℕ)) → Trees M → List (List ℕ)
  lines_of_all released own_lines no_trees = []
  lines_of_all released own_lines (more_trees t ts) = lines_of released own_lines t ++ lines_of_all released own_lines ts

  pub lines_of_maybe : {M : Type 0} → List ℕ → (M → ℕ → ℕ → List (List ℕ)) → MaybeTree M → List (List ℕ)
  lines_of_maybe released own_lines absent = []
  lines_of_maybe released own_lines (present t) = lines_of released own_lines t

abbrev pub array_node_lines : ArrayMembers → ℕ → ℕ → List (List ℕ)
array_node_lines own children dictionaries = array_line (numbers_of own) children dictionaries ∷ map (λ buffer. buffer_text (bytes_in buffer)) own.buffers

-- the lines of a text: its first, those of the schema tree, and those of the array tree; `!` says that a node is released
abbrev pub tree_lines : SchemaTree → ArrayTree → List (List ℕ)
tree_lines schema array = codes "tree 1" ∷ (lines_of (codes "S !") (λ own children dictionaries. schema_line own children dictionaries ∷ []) schema ++ lines_of (codes "A !") array_node_lines array)

-- ---- what has lines: a number's range, how many parts a node may have, and how deep a node may be

-- the most buffers and the most children of a node
abbrev pub most_parts : ℕ
most_parts = 1048576

-- the root has level 1
abbrev pub deepest_level : ℕ
deepest_level = 100

-- a number from -2^63 to 2^63 - 1
abbrev pub IsLong : ℤ → Type 0
IsLong number = IsTrue (in_range 64 true number)

-- numbers below 256
abbrev pub AreBytes : List ℕ → Type 0
AreBytes bytes = AllByRecursion (λ byte. byte < 256) bytes

abbrev pub AreBytesIf : Option (List ℕ) → Type 0
AreBytesIf None = Unit {0}
AreBytesIf (Some bytes) = AreBytes bytes

-- what a schema node's line can tell
pub record SchemaNodeFits (own : SchemaMembers) (children : ℕ) : Type 0 where
  pub format : AreBytes own.format
  pub name : AreBytesIf own.name
  pub metadata : AreBytesIf own.metadata
  pub flags : IsLong own.flags
  pub few_children : children ≤ most_parts

-- what an array node's line can tell
pub record ArrayNumbersFit (own : ArrayNumbers) (children : ℕ) : Type 0 where
  pub length : IsLong own.length
  pub null_count : IsLong own.null_count
  pub offset : IsLong own.offset
  pub buffers : own.buffers ≤ most_parts
  pub few_children : children ≤ most_parts

-- a buffer that is there is the whole of a block
abbrev pub BufferFits : Option Buffer → Type 0
BufferFits None = Unit {0}
BufferFits (Some buffer) = AreBytes buffer.bytes × (buffer.amount ≡ whole)

-- what an array node's lines can spell: one that a text spells is made by an export
pub record ArrayNodeFits (own : ArrayMembers) (children : ℕ) : Type 0 where
  pub numbers : ArrayNumbersFit (numbers_of own) children
  pub buffers : AllByRecursion BufferFits own.buffers
  pub kind : own.kind ≡ Exported

-- no node of a tree whose root is on a level is too deep, and each live one can be spelled
abbrev mutual
  pub TreeFits : {M : Type 0} → (M → ℕ → Type 0) → ℕ → Tree M → Type 0
  TreeFits NodeFits level Released = level ≤ deepest_level
  TreeFits NodeFits level (Live own children dictionary) =
      (level ≤ deepest_level) × NodeFits own (length (tree_list children)) × AllFit NodeFits (level + 1) children × MaybeFits NodeFits (level + 1) dictionary

  pub AllFit : {M : Type 0} → (M → ℕ → Type 0) → ℕ → Trees M → Type 0
  AllFit NodeFits level no_trees = Unit {0}
  AllFit NodeFits level (more_trees t ts) = TreeFits NodeFits level t × AllFit NodeFits level ts

  pub MaybeFits : {M : Type 0} → (M → ℕ → Type 0) → ℕ → MaybeTree M → Type 0
  MaybeFits NodeFits level absent = Unit {0}
  MaybeFits NodeFits level (present t) = TreeFits NodeFits level t

-- The text is that of the two trees. `lines` are the parts that end with a line feed, before which one carriage return is
-- no part of the line; the last line may end without either.
pub record TreeIs (bytes : List ℕ) (schema : SchemaTree) (array : ArrayTree) : Type 0 where
  pub spelled : lines bytes ≡ tree_lines schema array
  pub schema_fits : TreeFits SchemaNodeFits 1 schema
  pub array_fits : TreeFits ArrayNodeFits 1 array
