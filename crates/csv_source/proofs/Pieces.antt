-- What is to come of a text behind a piece of it.
use Rattle.std.proofs.Common.{◌≡◌, List, [], ◌∷◌, None, Some, ap}
use Rattle.csv_model.specs.promise.Batches.{Chunks}
use Rattle.csv_read.specs.BatchesLeft.{behind}
use Rattle.data_types.specs.promise.Table.{Row}
use Rattle.data_types.specs.declared.kind.ColumnType.{ColumnType}
use Rattle.data_types.specs.declared.row_fault.RowFault.{RowFault}
use Rattle.csv_source.specs.Pieces.{pieces_of, rows_piece}
use Rattle.csv_source.specs.declared.maker.Piece.TheVariants as piece

pub rows_next : (columns : List ColumnType) (old new : Chunks) (rows : List Row) → old ≡ behind rows new
    → pieces_of columns old ≡ rows_piece columns rows ∷ pieces_of columns new
rows_next columns old new rows is = ap (pieces_of columns) is

pub none_left : (columns : List ColumnType) (old : Chunks) → old ≡ record { chunks = []; ending = None } → pieces_of columns old ≡ []
none_left columns old is = ap (pieces_of columns) is

pub bad_last : (columns : List ColumnType) (old : Chunks) (fault : RowFault) → old ≡ record { chunks = []; ending = Some fault }
    → pieces_of columns old ≡ piece.Bad fault ∷ []
bad_last columns old fault is = ap (pieces_of columns) is
