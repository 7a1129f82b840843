-- A text as pieces: its batches, and the record at which they end.
use Rattle.std.specs.Prelude.{List, [], ◌∷◌, ◌++◌, map, Option, None, Some}
use Rattle.csv_model.specs.promise.Batches.{Chunks}
use Rattle.csv_read.specs.BatchesLeft.{batches_left}
use Rattle.data_types.specs.promise.Table.{Row}
use Rattle.data_types.specs.declared.kind.ColumnType.{ColumnType}
use Rattle.data_types.specs.declared.row_fault.RowFault.{RowFault}
use Rattle.csv_source.specs.declared.maker.CsvMaker.{CsvMaker}
use Rattle.csv_source.specs.declared.maker.Piece.{Piece}
use Rattle.csv_source.specs.declared.maker.Piece.TheVariants as piece

abbrev pub rows_piece : List ColumnType → List Row → Piece
rows_piece columns rows = piece.Rows (record { columns = columns; rows = rows })

-- the record at which the batches end, where one is at fault
abbrev pub last_piece : Option RowFault → List Piece
last_piece None = []
last_piece (Some fault) = piece.Bad fault ∷ []

abbrev pub pieces_of : List ColumnType → Chunks → List Piece
pieces_of columns batches = map (rows_piece columns) batches.chunks ++ last_piece batches.ending

-- the batches of the records that are left
abbrev pub maker_batches : CsvMaker → Chunks
maker_batches m = batches_left m.batch m.batches

abbrev pub maker_pieces : CsvMaker → List Piece
maker_pieces m = pieces_of m.batches.columns (maker_batches m)

-- the tables of pieces
abbrev pub tables_of : List Piece → List (List Row)
tables_of [] = []
tables_of (piece.Rows held ∷ pieces) = held.rows ∷ tables_of pieces
tables_of (piece.Bad fault ∷ pieces) = tables_of pieces
