-- A column that is made anew, and the chunk with it in the place of another.
use Rattle.std.specs.Prelude.{◌≡◌, ℕ, ◌+◌, ◌^◌, ◌<◌, ◌≤◌, Bool, true, false, not, List, length, map}
use Rattle.data_types.specs.ColumnForms.{IsColumnKind}
use Rattle.data_types.specs.ColumnView.{column_of}
use Rattle.data_types.specs.promise.Parts.{column_values, replaced}
use Rattle.data_types.specs.promise.Table.{Column, Kind, Flat, Dict, Columns}
use Rattle.data_types.specs.declared.kind.ColumnType.{ColumnType}
use Rattle.data_types.specs.declared.kind.DataType.{DataType}
use Rattle.data_types.specs.declared.kind.DataType.TheVariants as kinds
use Rattle.data_types.specs.promise.Value.{Value}
use Rattle.unit_pass.specs.promise.Tally.{risen}
use Rattle.unit_pass.specs.Tally.{Tally}
use Rattle.raw_array.specs.promise.Members.{ArrayTree, Cost}
use Rattle.data_types.specs.promise.ColumnKinds.{type_of_columns}
use Rattle.data_types.specs.promise.KindTrees.{KindTree}
use Rattle.layout_rules.specs.promise.Values.{rows_of}
use Rattle.layout_rules.specs.promise.Walk.{ChunkOk}
use Rattle.stages.specs.Structs.{column_structs, most_structs}
use Rattle.stage_model.specs.promise.Traffic.{Made, kind_blocks, kind_nodes}
use Rattle.stage_model.specs.promise.Typing.{column, is_bytes}
use Rattle.stage_model.specs.Typing.{column_at}
use Rattle.stage_model.specs.declared.stage.Step.{Step}
use Rattle.stage_model.specs.declared.stage.Step.TheVariants as steps
use Rattle.stream_face.specs.Lawful.{AreValues, HasBytes}
use Rattle.dict_stage.specs.Indices.{recoded_tree}

-- the array of these values was made, of its units, blocks and nodes
pub record IsRecoded (kind : Kind) (values : List Value) (tree : ArrayTree) (before after : Tally) : Type 0 where
  pub tree_is : tree ≡ recoded_tree kind values
  pub units : after.units + Cost tree ≡ before.units
  pub small : Cost tree ≤ 8
  pub blocks : after.blocks ≡ risen before.blocks (kind_blocks Made kind values)
  pub nodes : after.nodes ≡ risen before.nodes (kind_nodes Made kind)

-- a chunk of columns, one of which has this place
pub record HasPlace (place : ℕ) (chunk : ArrayTree) : Type 0 where
  pub columns : List Column
  pub ok : ChunkOk (type_of_columns columns) chunk
  pub inside : place < length columns

-- values of a type of texts or bytes
pub record TextsOf (type : DataType) (values : List Value) : Type 0 where
  pub is : IsColumnKind type
  pub bytes : HasBytes type
  pub are : AreValues type values
  pub few : length values ≤ 2 ^ 30

-- a chunk whose column of this place has texts or bytes
pub record CanRecodeChunk (type : DataType) (place : ℕ) (typed : KindTree) (chunk : ArrayTree) : Type 0 where
  pub columns : List Column
  pub typed_is : typed ≡ type_of_columns columns
  pub ok : ChunkOk (type_of_columns columns) chunk
  pub inside : place < length columns
  pub texts : TextsOf type (column_values place (rows_of typed chunk))

-- ---- columns

-- a column of the type with a dictionary, or without
abbrev pub text_kind : Bool → DataType → Kind
text_kind true type = Dict type
text_kind false type = Flat type

-- the type of a column that is no struct
abbrev pub type_in : Kind → DataType
type_in (Flat type) = type
type_in (Dict type) = type
type_in (Columns _) = kinds.Null

-- the step of the plan
abbrev pub recode_step : Bool → ℕ → Step
recode_step true column = steps.Dict column
recode_step false column = steps.Plain column

-- the columns with one of them made anew
abbrev pub recoded_columns : Bool → ℕ → DataType → List Column → List Column
recoded_columns dict place type before = replaced place (column (column_at before place).name (text_kind dict type)) before

-- a column of these is of the other kind
pub record Recodes (dict : Bool) (place : ℕ) (type : DataType) (before : List Column) : Type 0 where
  pub within : place < length before
  pub is_old : (column_at before place).kind ≡ text_kind (not dict) type
  pub bytes : HasBytes type
  pub few_structs : column_structs before ≤ most_structs

-- what the step asks for: a column of these is plain and is to have a dictionary, if it has texts or bytes, or it has one and is
-- to be plain; and the columns that are kept have it so in its place
pub record RecodeFits (dict : Bool) (place : ℕ) (kept : List ColumnType) (before : List Column) : Type 0 where
  pub within : place < length before
  pub type : DataType
  pub is_old : (column_at before place).kind ≡ text_kind (not dict) type
  pub has_bytes : dict ≡ true → is_bytes (Flat type) ≡ true
  pub columns : map column_of kept ≡ recoded_columns dict place type before
  pub few_structs : column_structs before ≤ most_structs
