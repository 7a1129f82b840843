-- A small chunk of three columns, whose own window and whose columns' windows begin behind their first items: numbers of
-- two bytes, numbers of one byte with a null, and views of texts ("Arrow Columnar Format", "Variable-size binary view
-- layout").
use Rattle.std.specs.Prelude.{◌≡◌, ℕ, ℤ, pos, negsuc, true, false, List, [], ◌∷◌, ◌++◌, Option, None, Some}
use Rattle.data_types.specs.declared.kind.DataType.TheVariants as kinds
use Rattle.data_types.specs.promise.Table.{Row}
use Rattle.data_types.specs.promise.Value.{Value, Bytes, Whole}
use Rattle.tree_model.specs.promise.TreeData.{Live, no_trees, absent, trees}
use Rattle.raw_array.specs.promise.Members.{Buffer, ArrayTree}
use Rattle.raw_array.specs.declared.array.ReleaseKind.TheVariants.{Assembled, Exported}
use Rattle.data_types.specs.promise.KindTrees.{KindTree}
use Rattle.layout_rules.specs.promise.Values.{rows_of}
use Rattle.layout_rules.specs.promise.Walk.{first_chunk_fault}
use Rattle.data_types.specs.ColumnKinds.{table_type}

abbrev pub bytes : List ℕ → Option Buffer
bytes bs = Some (record { bytes = bs; amount = 7 })

-- `length` items of no children, from a first one on
abbrev pub column : ℕ → ℤ → ℕ → List (Option Buffer) → ArrayTree
column length nulls offset buffers =
    Live (record { length = pos length; null_count = nulls; offset = pos offset; buffers = buffers; kind = Exported }) no_trees absent

-- `length` items of these columns, from a first one on
abbrev pub struct : ℕ → ℤ → ℕ → Option Buffer → List ArrayTree → ArrayTree
struct length nulls offset validity columns =
    Live (record { length = pos length; null_count = nulls; offset = pos offset; buffers = validity ∷ []; kind = Assembled }) (trees columns) absent

abbrev pub shorts : ArrayTree
shorts = column 5 (pos 0) 1 (None ∷ bytes (0 ∷ 0 ∷ 1 ∷ 0 ∷ 2 ∷ 0 ∷ 3 ∷ 0 ∷ 4 ∷ 0 ∷ 5 ∷ 0 ∷ []) ∷ [])

abbrev pub octets : ArrayTree
octets = column 4 (pos 1) 0 (bytes (11 ∷ []) ∷ bytes (10 ∷ 20 ∷ 30 ∷ 40 ∷ []) ∷ [])

-- a view of the text `hi`, and one of `hello, world!`, which begins at place 2 of data buffer 0
abbrev pub short_view : List ℕ
short_view = 2 ∷ 0 ∷ 0 ∷ 0 ∷ 104 ∷ 105 ∷ 0 ∷ 0 ∷ 0 ∷ 0 ∷ 0 ∷ 0 ∷ 0 ∷ 0 ∷ 0 ∷ 0 ∷ []

abbrev pub long_view : List ℕ
long_view = 13 ∷ 0 ∷ 0 ∷ 0 ∷ 104 ∷ 101 ∷ 108 ∷ 108 ∷ 0 ∷ 0 ∷ 0 ∷ 0 ∷ 2 ∷ 0 ∷ 0 ∷ 0 ∷ []

-- `hello, world!`
abbrev pub long_text : List ℕ
long_text = 104 ∷ 101 ∷ 108 ∷ 108 ∷ 111 ∷ 44 ∷ 32 ∷ 119 ∷ 111 ∷ 114 ∷ 108 ∷ 100 ∷ 33 ∷ []

-- a view of a length below 0
abbrev pub no_view : List ℕ
no_view = 255 ∷ 255 ∷ 255 ∷ 255 ∷ 0 ∷ 0 ∷ 0 ∷ 0 ∷ 0 ∷ 0 ∷ 0 ∷ 0 ∷ 0 ∷ 0 ∷ 0 ∷ 0 ∷ []

-- five texts, of which the second is null; its length follows the data buffer
abbrev pub texts : ArrayTree
texts =
    column 5 (negsuc 0) 0
    (bytes (29 ∷ []) ∷ bytes (short_view ++ no_view ++ long_view ++ short_view ++ long_view) ∷ bytes (120 ∷ 121 ∷ long_text)
    ∷ bytes (15 ∷ 0 ∷ 0 ∷ 0 ∷ 0 ∷ 0 ∷ 0 ∷ 0 ∷ []) ∷ [])

abbrev pub chunk : ArrayTree
chunk = struct 3 (pos 0) 1 None (shorts ∷ octets ∷ texts ∷ [])

abbrev pub text_views : KindTree
text_views = Live kinds.Utf8View no_trees absent

abbrev pub types : List KindTree
types = Live (kinds.Int 16 true) no_trees absent ∷ Live (kinds.Int 8 false) no_trees absent ∷ text_views ∷ []

abbrev pub n : ℕ → Value
n k = Whole (pos k)

abbrev pub hello : Value
hello = Bytes long_text

abbrev pub hi : Value
hi = Bytes (104 ∷ 105 ∷ [])

abbrev pub three : Value → Value → Value → Row
three a b c = a ∷ b ∷ c ∷ []

-- a chunk with these rows
abbrev pub HasRows : List KindTree → ArrayTree → List Row → Type 0
HasRows types tree rows = (first_chunk_fault (table_type types) tree ≡ None) × (rows_of (table_type types) tree ≡ rows)
