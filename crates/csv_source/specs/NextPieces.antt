-- The chunk of the next piece, and what is to come behind it.
use Rattle.std.specs.Prelude.{◌≡◌, ◌≤◌, ◌+◌, ◌-◌, ◌*◌, ℕ, List, [], ◌∷◌, length, map, drop, Option, Some, None}
use Rattle.ahead_ring.specs.Coming.{Coming}
use Rattle.csv_source.specs.Refusals.{row_of}
use Rattle.csv_source.specs.declared.refused.Refused.{Refused}
use Rattle.csv_model.specs.promise.Batches.{Chunks}
use Rattle.csv_read.specs.Chunks.{chunk_blocks, chunk_of}
use Rattle.csv_read.specs.StoredRows.{HeldTable}
use Rattle.data_types.specs.ColumnView.{column_of}
use Rattle.data_types.specs.declared.row_fault.RowFault.{RowFault}
use Rattle.data_types.specs.promise.ColumnKinds.{type_of_columns}
use Rattle.layout_rules.specs.promise.Values.{rows_of}
use Rattle.layout_rules.specs.promise.Walk.{ChunkOk}
use Rattle.raw_array.specs.promise.Members.{ArrayTree, Cost}
use Rattle.unit_pass.specs.promise.Tally.{risen}
use Rattle.unit_pass.specs.Tally.{Tally}
use Rattle.csv_source.specs.Pieces.{maker_batches, pieces_of, tables_of}
use Rattle.csv_source.specs.declared.maker.CsvMaker.{CsvMaker}
use Rattle.csv_source.specs.declared.maker.Piece.{Piece}
use Rattle.csv_source.specs.declared.maker.Piece.TheVariants as piece

-- the pieces that are still to come; none once the stream is released
abbrev pub to_come : Option (Coming Piece) → List Piece
to_come None = []
to_come (Some coming) = coming.coming

-- the chunk of the first of the pieces, which are rows; the pass counts what it is made of
pub record IsPieceChunk (chunk : ArrayTree) (old new : List Piece) (before after : Tally) : Type 0 where
  pub held : HeldTable
  pub ahead : old ≡ piece.Rows held ∷ new
  pub is : chunk ≡ chunk_of (map column_of held.columns) held.rows
  pub ok : ChunkOk (type_of_columns (map column_of held.columns)) chunk
  pub rows_are : rows_of (type_of_columns (map column_of held.columns)) chunk ≡ held.rows
  pub cost : Cost chunk ≤ 1 + 4 * length held.columns
  pub blocks : after.blocks ≡ risen before.blocks (chunk_blocks (map column_of held.columns) held.rows)
  pub nodes : after.nodes ≡ risen before.nodes (1 + length held.columns)

-- the record at fault is the first of the pieces
abbrev pub StopsAt : Refused → List Piece → List Piece → Type 0
StopsAt why old new = (row : RowFault) → row_of why ≡ Some row → old ≡ piece.Bad row ∷ new

-- the batches behind this many
abbrev pub later : ℕ → Chunks → Chunks
later n batches = record { chunks = drop n batches.chunks; ending = batches.ending }

-- the pieces are the last ones of those that a maker had to give
abbrev pub AreLast : CsvMaker → List Piece → Type 0
AreLast m pieces = pieces ≡ pieces_of m.batches.columns (later (length (maker_batches m).chunks - length (tables_of pieces)) (maker_batches m))
