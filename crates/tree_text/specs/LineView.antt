-- What the code makes of a line. Only private contracts cite this.
use Rattle.std.specs.Prelude.{◌≡◌, ℕ, List, [], ◌∷◌, length, get_or, Option, None, Some}
use Rattle.raw_schema.specs.promise.Members.{SchemaMembers}
use Rattle.raw_schema.specs.View.{bytes_of}
use Rattle.tree_text.specs.declared.node_line.SchemaNodeLine.{SchemaNodeLine}
use Rattle.tree_text.specs.declared.node_line.SchemaLine.{SchemaLine}
use Rattle.tree_text.specs.declared.node_line.SchemaLine.TheVariants as schemas
use Rattle.tree_text.specs.declared.node_line.ArrayNodeLine.{ArrayNodeLine}
use Rattle.tree_text.specs.declared.node_line.ArrayLine.{ArrayLine}
use Rattle.tree_text.specs.declared.node_line.ArrayLine.TheVariants as arrays
use Rattle.tree_text.specs.declared.node_line.BufferLine.{BufferLine}
use Rattle.tree_text.specs.declared.node_line.BufferLine.TheVariants as buffers
use Rattle.tree_text.specs.promise.TreeText.{ArrayNumbers}
use Rattle.tree_text.specs.promise.Standing.{NodeLine, ReleasedLine, LiveLine}

-- the members of a live schema node
abbrev pub schema_own : SchemaNodeLine → SchemaMembers
schema_own own = record { format = own.format.items; name = bytes_of own.name; metadata = bytes_of own.metadata; flags = own.flags }

-- a line of the schema tree
abbrev pub schema_told : SchemaLine → NodeLine SchemaMembers
schema_told schemas.Released = ReleasedLine
schema_told (schemas.Live own) = LiveLine (schema_own own) own.children own.dictionaries

-- the numbers of a live array node
abbrev pub array_own : ArrayNodeLine → ArrayNumbers
array_own own = record { length = own.length; null_count = own.null_count; offset = own.offset; buffers = own.buffers }

-- a line of the array tree
abbrev pub array_told : ArrayLine → NodeLine ArrayNumbers
array_told arrays.Released = ReleasedLine
array_told (arrays.Live own) = LiveLine (array_own own) own.children own.dictionaries

-- a line of a buffer
abbrev pub buffer_told : BufferLine → Option (List ℕ)
buffer_told buffers.Absent = None
buffer_told (buffers.Present bytes) = Some bytes.items

-- six fields
abbrev pub six : List ℕ → List ℕ → List ℕ → List ℕ → List ℕ → List ℕ → List (List ℕ)
six a b c d e f = a ∷ b ∷ c ∷ d ∷ e ∷ f ∷ []

-- not six fields behind a letter
abbrev pub IsOther : ℕ → List (List ℕ) → Type 0
IsOther letter parts = length parts ≡ 7 → get_or parts 0 [] ≡ letter ∷ [] → ⊥
