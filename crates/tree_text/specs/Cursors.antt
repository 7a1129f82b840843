-- How far a text was read, and what was read from there on. Only private contracts cite this.
use Rattle.std.specs.Prelude.{◌≡◌, ℕ, ◌+◌, ◌≤◌, List, [], ◌∷◌, ◌++◌, length, map, drop, Option, None, Some}
use Rattle.std.specs.List.{AllByRecursion}
use Rattle.std.specs.Str.Lines.{lines}
use Rattle.tree_model.specs.promise.TreeData.{Live, trees, maybe_tree}
use Rattle.raw_schema.specs.promise.Members.{SchemaMembers, SchemaTree}
use Rattle.raw_array.specs.promise.Members.{Buffer, ArrayMembers, ArrayTree}
use Rattle.raw_array.specs.declared.array.ReleaseKind.TheVariants.{Exported}
use Rattle.tree_text.specs.declared.fault.TextFault.{TextFault}
use Rattle.tree_text.specs.declared.fault.TextFault.TheVariants.{Line, TooManyLines, NoMemory}
use Rattle.tree_text.specs.declared.cursor.Cursor.{Cursor}
use Rattle.tree_text.specs.promise.Answers.{most_lines}
use Rattle.tree_text.specs.promise.TreeText.{lines_of, lines_of_all, TreeFits, AllFit, array_node_lines}
use Rattle.tree_text.specs.TreeText.{schema_node_lines, released_schema, released_array, buffer_line}
use Rattle.tree_text.specs.promise.TreeText.{deepest_level, SchemaNodeFits, ArrayNodeFits, ArrayNumbers, BufferFits}
use Rattle.tree_text.specs.promise.Standing.{Place, first_fault, NodeLine, read_schema_line, read_array_line, read_buffer_line}

-- the lines from a cursor on
abbrev pub left : List ℕ → Cursor → List (List ℕ)
left bytes cursor = lines (drop cursor.at bytes)

-- a line of the text begins here, or the text ends; its number counts from 1
pub record IsCursor (bytes : List ℕ) (cursor : Cursor) : Type 0 where
  pub within : cursor.at ≤ length bytes
  pub few : length (lines bytes) ≤ most_lines
  pub counted : cursor.line + length (left bytes cursor) ≡ length (lines bytes) + 1

-- the fault names this line, or is out of memory
abbrev pub StopsAt : TextFault → Option ℕ → Type 0
StopsAt (Line number) fault = fault ≡ Some number
StopsAt TooManyLines fault = ⊥
StopsAt NoMemory fault = Unit {0}

-- this many things are expected at a cursor, and the lines from there on stop at the fault, whatever is expected behind them
abbrev pub Stops : List ℕ → Cursor → List Place → TextFault → Type 0
Stops bytes cursor places f = (behind : List Place) → StopsAt f (first_fault (places ++ behind) (left bytes cursor) cursor.line)

-- a tree that may be there, as a list
abbrev pub listed : {X : Type 0} → Option X → List X
listed None = []
listed (Some x) = x ∷ []

-- the same where nothing is expected behind
abbrev pub StopsLast : List ℕ → Cursor → List Place → TextFault → Type 0
StopsLast bytes cursor places f = StopsAt f (first_fault places (left bytes cursor) cursor.line)

-- these lines were read between two cursors
pub record Between (bytes : List ℕ) (from to : Cursor) (read : List (List ℕ)) : Type 0 where
  pub spelled : left bytes from ≡ read ++ left bytes to
  pub cursor : IsCursor bytes to

pub record SchemaRead (bytes : List ℕ) (from to : Cursor) (level : ℕ) (t : SchemaTree) : Type 0 where
  pub between : Between bytes from to (lines_of released_schema schema_node_lines t)
  pub fits : TreeFits SchemaNodeFits level t

pub record SchemasRead (bytes : List ℕ) (from to : Cursor) (level count : ℕ) (ts : List SchemaTree) : Type 0 where
  pub between : Between bytes from to (lines_of_all released_schema schema_node_lines (trees ts))
  pub fits : AllFit SchemaNodeFits level (trees ts)
  pub counted : length ts ≡ count

-- the line at a cursor tells this of a node on a level
pub record SchemaLineRead (bytes : List ℕ) (from to : Cursor) (level : ℕ) (told : NodeLine SchemaMembers) : Type 0 where
  pub line : List ℕ
  pub here : left bytes from ≡ line ∷ left bytes to
  pub low : level ≤ deepest_level
  pub is : read_schema_line line ≡ Some told
  pub cursor : IsCursor bytes to

-- a live node with these members of its own, but for its own line
pub record LiveSchemaRead (bytes : List ℕ) (from to : Cursor) (level : ℕ) (own : SchemaMembers) (c d : ℕ) (t : SchemaTree) : Type 0 where
  pub children : List SchemaTree
  pub dictionary : Option SchemaTree
  pub is : t ≡ Live own (trees children) (maybe_tree dictionary)
  pub one : length (listed dictionary) ≡ d
  pub read : SchemasRead bytes from to (level + 1) (c + d) (children ++ listed dictionary)

-- the line at a cursor tells this of a buffer
pub record BufferLineRead (bytes : List ℕ) (from to : Cursor) (told : Option (List ℕ)) : Type 0 where
  pub line : List ℕ
  pub here : left bytes from ≡ line ∷ left bytes to
  pub is : read_buffer_line line ≡ Some told
  pub cursor : IsCursor bytes to

-- a buffer's line, and this many of them
pub record BufferRead (bytes : List ℕ) (from to : Cursor) (buffer : Option Buffer) : Type 0 where
  pub between : Between bytes from to (buffer_line buffer ∷ [])
  pub fits : BufferFits buffer

pub record BuffersRead (bytes : List ℕ) (from to : Cursor) (count : ℕ) (buffers : List (Option Buffer)) : Type 0 where
  pub between : Between bytes from to (map buffer_line buffers)
  pub fits : AllByRecursion BufferFits buffers
  pub counted : length buffers ≡ count

pub record ArrayRead (bytes : List ℕ) (from to : Cursor) (level : ℕ) (t : ArrayTree) : Type 0 where
  pub between : Between bytes from to (lines_of released_array array_node_lines t)
  pub fits : TreeFits ArrayNodeFits level t

pub record ArraysRead (bytes : List ℕ) (from to : Cursor) (level count : ℕ) (ts : List ArrayTree) : Type 0 where
  pub between : Between bytes from to (lines_of_all released_array array_node_lines (trees ts))
  pub fits : AllFit ArrayNodeFits level (trees ts)
  pub counted : length ts ≡ count

-- the line at a cursor tells this of a node on a level
pub record ArrayLineRead (bytes : List ℕ) (from to : Cursor) (level : ℕ) (told : NodeLine ArrayNumbers) : Type 0 where
  pub line : List ℕ
  pub here : left bytes from ≡ line ∷ left bytes to
  pub low : level ≤ deepest_level
  pub is : read_array_line line ≡ Some told
  pub cursor : IsCursor bytes to

-- the members of a live node, of its numbers and its buffers
abbrev pub with_buffers : ArrayNumbers → List (Option Buffer) → ArrayMembers
with_buffers own buffers = record { length = own.length; null_count = own.null_count; offset = own.offset; buffers = buffers; kind = Exported }

-- a live node with these numbers of its own, but for its own line
pub record LiveArrayRead (bytes : List ℕ) (from to : Cursor) (level : ℕ) (own : ArrayNumbers) (c d : ℕ) (t : ArrayTree) : Type 0 where
  pub buffers : List (Option Buffer)
  pub children : List ArrayTree
  pub dictionary : Option ArrayTree
  pub mid : Cursor
  pub is : t ≡ Live (with_buffers own buffers) (trees children) (maybe_tree dictionary)
  pub first : BuffersRead bytes from mid own.buffers buffers
  pub one : length (listed dictionary) ≡ d
  pub read : ArraysRead bytes mid to (level + 1) (c + d) (children ++ listed dictionary)

-- the lines from a cursor on are those of two trees
pub record TreesRead (bytes : List ℕ) (cursor : Cursor) (schema : SchemaTree) (array : ArrayTree) : Type 0 where
  pub spelled : left bytes cursor ≡ lines_of released_schema schema_node_lines schema ++ lines_of released_array array_node_lines array
  pub schema_fits : TreeFits SchemaNodeFits 1 schema
  pub array_fits : TreeFits ArrayNodeFits 1 array
