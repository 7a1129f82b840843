-- Names for the lines of each of the two trees.
use Rattle.std.specs.Prelude.{ℕ, List, codes, Option, [], ◌∷◌}
use Rattle.raw_schema.specs.promise.Members.{SchemaTree, SchemaMembers}
use Rattle.raw_array.specs.promise.Members.{Buffer, ArrayTree, bytes_in}
use Rattle.tree_text.specs.promise.TreeText.{ArrayNodeFits, SchemaNodeFits, TreeFits, array_node_lines, buffer_text, lines_of, dictionaries, schema_line}

-- the line of a node's buffer
abbrev pub buffer_line : Option Buffer → List ℕ
buffer_line buffer = buffer_text (bytes_in buffer)

-- the line of a released node
abbrev pub released_schema : List ℕ
released_schema = codes "S !"

abbrev pub released_array : List ℕ
released_array = codes "A !"

-- the lines of a live node's own
abbrev pub schema_node_lines : SchemaMembers → ℕ → ℕ → List (List ℕ)
schema_node_lines own children dictionaries = schema_line own children dictionaries ∷ []

-- the lines of a schema tree, and those of an array tree
abbrev pub schema_lines : SchemaTree → List (List ℕ)
schema_lines t = lines_of released_schema schema_node_lines t

abbrev pub array_lines : ArrayTree → List (List ℕ)
array_lines t = lines_of released_array array_node_lines t

abbrev pub SchemaFits : ℕ → SchemaTree → Type 0
SchemaFits level t = TreeFits SchemaNodeFits level t

abbrev pub ArrayFits : ℕ → ArrayTree → Type 0
ArrayFits level t = TreeFits ArrayNodeFits level t
