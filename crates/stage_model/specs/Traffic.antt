-- Names for the blocks and nodes of columns and links, which proofs use.
use Rattle.std.specs.Prelude.{ℕ, ◌+◌, List, get_or, map}
use Rattle.std.specs.List.{sum_by}
use Rattle.data_types.specs.promise.Parts.{fields_of}
use Rattle.data_types.specs.promise.Table.{Column, Row}
use Rattle.data_types.specs.promise.Value.{Value, Null}
use Rattle.stage_model.specs.promise.Links.{Link}
use Rattle.stage_model.specs.promise.Traffic.{Dictionaries, Made, blocks_from, made_blocks, made_nodes, one_if_any, table_nodes, validity_blocks}

-- data where there are rows
abbrev pub row_blocks : List Value → ℕ
row_blocks values = one_if_any values

-- the blocks of a column of indices of these values
abbrev pub index_blocks : List Value → ℕ
index_blocks values = validity_blocks values + row_blocks values

-- the values of a member of a struct column
abbrev pub member_values : ℕ → List Value → List Value
member_values place values = map (λ value. get_or (fields_of value) place Null) values

-- those of all columns of a chunk, and of one of them
abbrev pub table_blocks : Dictionaries → List Column → List Row → ℕ
table_blocks how columns rows = blocks_from how 0 columns rows

-- the schema's nodes, and those of each chunk
abbrev pub link_nodes : Link → ℕ
link_nodes link = table_nodes Made link.columns + sum_by (λ rows. made_nodes link.maker link.columns) link.chunks

abbrev pub link_blocks : Link → ℕ
link_blocks link = sum_by (made_blocks link.maker link.columns) link.chunks
