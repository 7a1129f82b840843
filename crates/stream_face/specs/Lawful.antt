-- What holds of a lawful stream: of its columns, of the tables that it still gives, and of each chunk that it gives.
use Rattle.std.specs.Prelude.{◌≡◌, ◌≢◌, ◌+◌, ◌^◌, ◌<◌, ◌≤◌, ℕ, List, [], ◌∷◌, length, map, drop, get_or, All}
use Rattle.std.specs.List.{AllByRecursion}
use Rattle.data_types.specs.promise.KindTrees.{most_levels}
use Rattle.data_types.specs.declared.kind.DataType.{DataType}
use Rattle.data_types.specs.declared.kind.DataType.TheVariants as kinds
use Rattle.data_types.specs.ColumnForms.{AreColumnKinds}
use Rattle.data_types.specs.FieldText.{IsValueOf}
use Rattle.data_types.specs.promise.Parts.{column_values, fields_of, member_columns, value_list}
use Rattle.data_types.specs.promise.Table.{Column, Row, Kind, Flat, Dict, Columns, Members, no_members, more_members}
use Rattle.data_types.specs.promise.Value.{Value, Null, Fields, byte_total}
use Rattle.tree_model.specs.promise.TreeData.{Live, Released, no_trees, absent}
use Rattle.tree_model.specs.promise.TreeParts.{children_of, child_at}
use Rattle.tree_model.specs.Tree.{Depth, dictionary_at}
use Rattle.raw_array.specs.promise.Members.{ArrayTree, Cost}
use Rattle.tree_model.specs.promise.TreeCost.{Nodes}
use Rattle.unit_pass.specs.declared.pass.TheConstants.{CHUNK}
use Rattle.data_types.specs.promise.ColumnKinds.{type_of_columns}
use Rattle.schema_check.specs.promise.ColumnSchema.{SchemaOf}
use Rattle.schema_check.specs.promise.Schemas.{TypedOf}
use Rattle.layout_rules.specs.promise.Values.{rows_of, values_of}
use Rattle.layout_rules.specs.promise.Walk.{ChunkOk}

-- ---- its columns

-- texts, or bytes
abbrev pub HasBytes : DataType → Type 0
HasBytes (kinds.Utf8 wide) = Unit {0}
HasBytes (kinds.Binary wide) = Unit {0}
HasBytes _ = ⊥

abbrev mutual
  -- a dictionary has texts or bytes, at all depths
  pub DictsHaveBytes : Kind → Type 0
  DictsHaveBytes (Flat kind) = Unit {0}
  DictsHaveBytes (Dict kind) = HasBytes kind
  DictsHaveBytes (Columns members) = MemberDictsHaveBytes members

  pub MemberDictsHaveBytes : Members → Type 0
  MemberDictsHaveBytes no_members = Unit {0}
  MemberDictsHaveBytes (more_members name kind rest) = DictsHaveBytes kind × MemberDictsHaveBytes rest

abbrev mutual
  -- the columns that are no structs, at all depths
  pub leaves : Kind → ℕ
  leaves (Flat kind) = 1
  leaves (Dict kind) = 1
  leaves (Columns members) = member_leaves members

  pub member_leaves : Members → ℕ
  member_leaves no_members = 0
  member_leaves (more_members name kind rest) = leaves kind + member_leaves rest

abbrev pub column_leaves : List Column → ℕ
column_leaves [] = 0
column_leaves (c ∷ cs) = leaves c.kind + column_leaves cs

pub record LawfulColumns (columns : List Column) : Type 0 where
  pub kinds : All (λ c. AreColumnKinds c.kind) columns
  pub dicts : All (λ c. DictsHaveBytes c.kind) columns
  pub few : column_leaves columns ≤ 4096
  -- their schema passes the check, and is small
  pub typed : TypedOf (SchemaOf columns) (type_of_columns columns)
  pub small : Nodes (SchemaOf columns) ≤ CHUNK
  pub not_deep : Depth (SchemaOf columns) ≤ most_levels

-- ---- its tables

-- an item of a struct that isn't null, with this many fields
abbrev pub HasFields : ℕ → Value → Type 0
HasFields count (Fields vs) = length (value_list vs) ≡ count
HasFields count _ = ⊥

-- null, or of the kind; their bytes are at most 2^30
abbrev pub AreValues : DataType → List Value → Type 0
AreValues kind items = All (IsValueOf kind) items × (byte_total items ≤ 2 ^ 30)

abbrev mutual
  -- the items of a column: of its kind; no item of a struct column is null, and its fields are items of its columns
  pub AreItems : Kind → List Value → Type 0
  AreItems (Flat kind) items = AreValues kind items
  AreItems (Dict kind) items = AreValues kind items
  AreItems (Columns members) items = All (HasFields (length (member_columns members))) items × AreFieldItems members (map fields_of items)

  pub AreFieldItems : Members → List Row → Type 0
  AreFieldItems no_members rows = Unit {0}
  AreFieldItems (more_members name kind rest) rows = AreItems kind (column_values 0 rows) × AreFieldItems rest (map (drop 1) rows)

pub record IsTable (columns : List Column) (rows : List Row) : Type 0 where
  pub widths : All (λ row. length row ≡ length columns) rows
  pub items : (k : ℕ) (none : Column) → k < length columns → AreItems (get_or columns k none).kind (column_values k rows)

abbrev pub total_rows : List (List Row) → ℕ
total_rows [] = 0
total_rows (rows ∷ more) = length rows + total_rows more

pub record LawfulTables (columns : List Column) (ahead : List (List Row)) : Type 0 where
  pub tables : AllByRecursion (IsTable columns) ahead
  pub rows : total_rows ahead ≤ 2 ^ 30

-- ---- its chunks

abbrev mutual
  -- no value of a dictionary is null, at all depths
  pub DictsAreFull : Kind → ArrayTree → Type 0
  DictsAreFull (Flat kind) column = Unit {0}
  DictsAreFull (Dict kind) column = All (λ value. value ≢ Null) (values_of (Live kind no_trees absent) (dictionary_at column))
  DictsAreFull (Columns members) column = MemberDictsAreFull members (children_of column)

  pub MemberDictsAreFull : Members → List ArrayTree → Type 0
  MemberDictsAreFull no_members children = Unit {0}
  MemberDictsAreFull (more_members name kind rest) children = DictsAreFull kind (get_or children 0 Released) × MemberDictsAreFull rest (drop 1 children)

-- a chunk of these columns and rows
pub record IsChunkOf (columns : List Column) (rows : List Row) (chunk : ArrayTree) : Type 0 where
  pub ok : ChunkOk (type_of_columns columns) chunk
  pub rows_are : rows_of (type_of_columns columns) chunk ≡ rows
  pub small : Cost chunk ≤ CHUNK
  pub dicts : (k : ℕ) (none : Column) → k < length columns → DictsAreFull (get_or columns k none).kind (child_at chunk k)
