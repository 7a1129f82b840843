-- The blocks and the nodes that a run makes: for each link the nodes of its schema, and for each chunk of the link what
-- the stage makes anew. What a stage moves or slices isn't made anew.
use Rattle.std.specs.Prelude.{ℕ, ◌+◌, ◌==◌, List, [], ◌∷◌, get_or, map, Option, None, Some, if◌then◌else◌}
use Rattle.std.specs.List.{concat, list_any, sum_by}
use Rattle.data_types.specs.promise.FieldText.{Form, Text, HexBytes, SizedHex, form_of}
use Rattle.data_types.specs.promise.Parts.{column_values, fields_of}
use Rattle.data_types.specs.promise.Table.{Column, Kind, Flat, Dict, Columns, Members, no_members, more_members, Row}
use Rattle.data_types.specs.promise.Value.{Value, Null, bytes_of, is_null}
use Rattle.data_types.specs.declared.kind.DataType.{DataType}
use Rattle.stage_model.specs.promise.Dictionary.{Dictionary}
use Rattle.stage_model.specs.promise.Links.{Link}
use Rattle.stage_model.specs.promise.Typing.{no_column}
use Rattle.stage_model.specs.declared.stage.Step.{Step}
use Rattle.stage_model.specs.declared.stage.Step.TheVariants as steps

-- ---- nodes

-- the dictionary of a column is made with it, or moved
pub data Dictionaries : Type 0 where
  Made : Dictionaries
  Moved : Dictionaries

abbrev pub dict_nodes : Dictionaries → ℕ
dict_nodes Made = 2
dict_nodes Moved = 1

abbrev mutual
  pub kind_nodes : Dictionaries → Kind → ℕ
  kind_nodes how (Flat type) = 1
  kind_nodes how (Dict type) = dict_nodes how
  kind_nodes how (Columns members) = 1 + member_nodes how members

  pub member_nodes : Dictionaries → Members → ℕ
  member_nodes how no_members = 0
  member_nodes how (more_members name kind rest) = kind_nodes how kind + member_nodes how rest

-- the struct of columns and all below it
abbrev pub table_nodes : Dictionaries → List Column → ℕ
table_nodes how columns = 1 + sum_by (λ c. kind_nodes how c.kind) columns

-- ---- blocks

-- a block where a list isn't empty
abbrev pub one_if_any : {X : Type 0} → List X → ℕ
one_if_any [] = 0
one_if_any (x ∷ xs) = 1

-- a validity bitmap where a value is null
abbrev pub validity_blocks : List Value → ℕ
validity_blocks values = if list_any is_null values then 1 else 0

-- offsets, and data where there are bytes
abbrev pub offset_blocks : List Value → ℕ
offset_blocks values = 1 + one_if_any (concat (map bytes_of values))

abbrev pub form_blocks : Option Form → List Value → ℕ
form_blocks None values = 0
form_blocks (Some Text) values = offset_blocks values
form_blocks (Some HexBytes) values = offset_blocks values
form_blocks (Some (SizedHex size)) values = if size == 0 then 0 else one_if_any values
form_blocks (Some _) values = one_if_any values

-- the blocks of a column of plain values
abbrev pub flat_blocks : DataType → List Value → ℕ
flat_blocks type values = validity_blocks values + form_blocks (form_of type) values

abbrev pub dictionary_blocks : Dictionaries → DataType → List Value → ℕ
dictionary_blocks Made type values = flat_blocks type (Dictionary values)
dictionary_blocks Moved type values = 0

abbrev mutual
  pub kind_blocks : Dictionaries → Kind → List Value → ℕ
  kind_blocks how (Flat type) values = flat_blocks type values
  kind_blocks how (Dict type) values = (validity_blocks values + one_if_any values) + dictionary_blocks how type values
  kind_blocks how (Columns members) values = member_blocks how members 0 values

  pub member_blocks : Dictionaries → Members → ℕ → List Value → ℕ
  member_blocks how no_members place values = 0
  member_blocks how (more_members name kind rest) place values = kind_blocks how kind (map (λ value. get_or (fields_of value) place Null) values) + member_blocks how rest (place + 1) values

abbrev pub blocks_from : Dictionaries → ℕ → List Column → List Row → ℕ
blocks_from how place [] rows = 0
blocks_from how place (c ∷ cs) rows = kind_blocks how c.kind (column_values place rows) + blocks_from how (place + 1) cs rows

abbrev pub column_blocks : ℕ → List Column → List Row → ℕ
column_blocks place columns rows = kind_blocks Made (get_or columns place no_column).kind (column_values place rows)

-- ---- chunks

-- the nodes that are made for a chunk of a link of these columns
abbrev pub made_nodes : Option Step → List Column → ℕ
made_nodes None columns = table_nodes Made columns
made_nodes (Some (steps.Select picks)) columns = 1
made_nodes (Some (steps.Slice off len)) columns = 0
made_nodes (Some (steps.Filter column test constant)) columns = table_nodes Moved columns
made_nodes (Some (steps.Pack rest picks)) columns = 2
made_nodes (Some (steps.Unpack column)) columns = 1
made_nodes (Some (steps.Dict column)) columns = 3
made_nodes (Some (steps.Plain column)) columns = 2
made_nodes (Some (steps.Totals places)) columns = table_nodes Made columns

-- and the blocks, by the rows of the chunk
abbrev pub made_blocks : Option Step → List Column → List Row → ℕ
made_blocks None columns rows = blocks_from Made 0 columns rows
made_blocks (Some (steps.Select picks)) columns rows = 0
made_blocks (Some (steps.Slice off len)) columns rows = 0
made_blocks (Some (steps.Filter column test constant)) columns rows = blocks_from Moved 0 columns rows
made_blocks (Some (steps.Pack rest picks)) columns rows = 0
made_blocks (Some (steps.Unpack column)) columns rows = 0
made_blocks (Some (steps.Dict column)) columns rows = column_blocks column columns rows
made_blocks (Some (steps.Plain column)) columns rows = column_blocks column columns rows
made_blocks (Some (steps.Totals places)) columns rows = blocks_from Made 0 columns rows

-- ---- runs

-- for each link the schema's nodes, and those of each chunk
abbrev pub run_nodes : List Link → ℕ
run_nodes links = sum_by (λ (link : Link). table_nodes Made link.columns + sum_by (λ rows. made_nodes link.maker link.columns) link.chunks) links

abbrev pub run_blocks : List Link → ℕ
run_blocks links = sum_by (λ (link : Link). sum_by (made_blocks link.maker link.columns) link.chunks) links
