-- What is to come are the last pieces of a maker: the tables of the batches that are left, and behind them the record at fault.
use Rattle.std.proofs.Common.{◌≡◌, ◌+◌, ◌-◌, ◌∙◌, ℕ, zero, suc, List, [], ◌∷◌, length, drop, Option, None, Some, refl, sym, ap, subst, arith}
use Rattle.csv_model.specs.promise.Batches.{Chunks}
use Rattle.csv_read.specs.StoredRows.{HeldTable}
use Rattle.data_types.specs.promise.Table.{Column, Row}
use Rattle.data_types.specs.declared.kind.ColumnType.{ColumnType}
use Rattle.data_types.specs.declared.row_fault.RowFault.{RowFault}
use Rattle.stream_face.specs.Lawful.{LawfulTables}
use Rattle.csv_source.specs.NextPieces.{AreLast, later}
use Rattle.csv_source.specs.Pieces.{maker_batches, maker_pieces, pieces_of, tables_of}
use Rattle.csv_source.specs.declared.maker.CsvMaker.{CsvMaker}
use Rattle.csv_source.specs.declared.maker.Piece.{Piece}
use Rattle.csv_source.specs.declared.maker.Piece.TheVariants as piece

-- ---- the pieces of batches

abbrev pub these : List (List Row) → Option RowFault → Chunks
these chunks ending = record { chunks = chunks; ending = ending }

pub tables-back : (columns : List ColumnType) (chunks : List (List Row)) (ending : Option RowFault) → tables_of (pieces_of columns (these chunks ending)) ≡ chunks
tables-back columns [] None = refl
tables-back columns [] (Some fault) = refl
tables-back columns (rows ∷ chunks) ending = ap (λ (all : List (List Row)). rows ∷ all) (tables-back columns chunks ending)

-- the first piece has the first rows
record First (columns : List ColumnType) (chunks : List (List Row)) (ending : Option RowFault) (held : HeldTable) (rest : List Piece) : Type 0 where
  pub others : List (List Row)
  pub split : chunks ≡ held.rows ∷ others
  pub left : rest ≡ pieces_of columns (these others ending)
  pub columns_are : held.columns ≡ columns

first : (columns : List ColumnType) (chunks : List (List Row)) (ending : Option RowFault) (held : HeldTable) (rest : List Piece)
    → piece.Rows held ∷ rest ≡ pieces_of columns (these chunks ending) → First columns chunks ending held rest
first columns [] None held rest is = let never : ◌≡◌ {A = List Piece} (piece.Rows held ∷ rest) [] = is in absurd (cc)
first columns [] (Some fault) held rest is = let never : ◌≡◌ {A = List Piece} (piece.Rows held ∷ rest) (piece.Bad fault ∷ []) = is in absurd (cc)
first columns (rows ∷ chunks) ending held rest is =
    let both : ◌≡◌ {A = List Piece} (piece.Rows held ∷ rest) (piece.Rows (record { columns = columns; rows = rows }) ∷ pieces_of columns (these chunks ending)) = is in
    let same : ◌≡◌ {A = HeldTable} held (record { columns = columns; rows = rows }) = cc in
    record {
      others = chunks;
      split = ap (λ (t : HeldTable). t.rows ∷ chunks) (sym same);
      left = cc;
      columns_are = ap (λ (t : HeldTable). t.columns) same;
    }

no-ending : (columns : List ColumnType) (chunks : List (List Row)) (ending : Option RowFault) → [] ≡ pieces_of columns (these chunks ending) → ending ≡ None
no-ending columns [] None is = refl
no-ending columns [] (Some fault) is = let never : ◌≡◌ {A = List Piece} [] (piece.Bad fault ∷ []) = is in absurd (cc)
no-ending columns (rows ∷ chunks) ending is =
    let never : ◌≡◌ {A = List Piece} [] (piece.Rows (record { columns = columns; rows = rows }) ∷ pieces_of columns (these chunks ending)) = is in absurd (cc)

bad-ending : (columns : List ColumnType) (chunks : List (List Row)) (ending : Option RowFault) (row : RowFault) (rest : List Piece)
    → piece.Bad row ∷ rest ≡ pieces_of columns (these chunks ending) → (rest ≡ []) × (ending ≡ Some row)
bad-ending columns [] None row rest is = let never : ◌≡◌ {A = List Piece} (piece.Bad row ∷ rest) [] = is in absurd (cc)
bad-ending columns [] (Some fault) row rest is =
    let both : ◌≡◌ {A = List Piece} (piece.Bad row ∷ rest) (piece.Bad fault ∷ []) = is in
    let same : fault ≡ row = cc in (cc, ap (λ (f : RowFault). Some f) same)
bad-ending columns (rows ∷ chunks) ending row rest is =
    let never : ◌≡◌ {A = List Piece} (piece.Bad row ∷ rest) (piece.Rows (record { columns = columns; rows = rows }) ∷ pieces_of columns (these chunks ending)) = is in
    absurd (cc)

-- ---- the last ones of a list

behind-first : (n : ℕ) (all : List (List Row)) (rows : List Row) (others : List (List Row)) → drop n all ≡ rows ∷ others
    → (drop (suc n) all ≡ others) × (length all ≡ suc n + length others)
behind-first zero all rows others is = (ap (λ (l : List (List Row)). drop 1 l) is, omega (arith, ap (λ (l : List (List Row)). length l) is))
behind-first (suc n) [] rows others is = let never : ◌≡◌ {A = List (List Row)} [] (rows ∷ others) = is in absurd (cc)
behind-first (suc n) (one ∷ all) rows others is = let more = behind-first n all rows others is in (more.0, omega (arith, more.1))

drop-lawful : (columns : List Column) (n : ℕ) (all : List (List Row)) → LawfulTables columns all → LawfulTables columns (drop n all)
drop-lawful columns zero all lawful = lawful
drop-lawful columns (suc n) [] lawful = lawful
drop-lawful columns (suc n) (rows ∷ all) lawful =
    drop-lawful columns n all (record { tables = lawful.tables.1; rows = omega (arith, lawful.rows) })

-- ---- the last pieces of a maker

pub begun : (m : CsvMaker) (pieces : List Piece) → pieces ≡ maker_pieces m → AreLast m pieces
begun m pieces is =
    let batches = maker_batches m in
    let columns = m.batches.columns in
    let all : tables_of pieces ≡ batches.chunks = ap tables_of is ∙ tables-back columns batches.chunks batches.ending in
    let none : 0 ≡ length batches.chunks - length (tables_of pieces) = omega (arith, ap (λ (l : List (List Row)). length l) all) in
    is ∙ ap (λ (n : ℕ). pieces_of columns (later n batches)) none

-- a piece of rows leaves the last pieces behind it
pub record Taken (m : CsvMaker) (held : HeldTable) (rest : List Piece) : Type 0 where
  pub last : AreLast m rest
  pub columns_are : held.columns ≡ m.batches.columns

pub taken : (m : CsvMaker) (pieces : List Piece) (held : HeldTable) (rest : List Piece) → AreLast m pieces → pieces ≡ piece.Rows held ∷ rest → Taken m held rest
taken m pieces held rest last is =
    let batches = maker_batches m in
    let columns = m.batches.columns in
    let n = length batches.chunks - length (tables_of pieces) in
    let here = first columns (drop n batches.chunks) batches.ending held rest (sym is ∙ last) in
    let behind = behind-first n batches.chunks held.rows here.others here.split in
    let tables : tables_of rest ≡ here.others = ap tables_of here.left ∙ tables-back columns here.others batches.ending in
    let next : suc n ≡ length batches.chunks - length (tables_of rest) =
    omega (arith, behind.1, ap (λ (l : List (List Row)). length l) tables) in
    record {
      last = here.left ∙ ap (λ (l : List (List Row)). pieces_of columns (these l batches.ending)) (sym behind.0)
          ∙ ap (λ (k : ℕ). pieces_of columns (later k batches)) next;
      columns_are = here.columns_are;
    }

pub ended : (m : CsvMaker) (pieces : List Piece) → AreLast m pieces → pieces ≡ [] → (maker_batches m).ending ≡ None
ended m pieces last is =
    let batches = maker_batches m in
    let n = length batches.chunks - length (tables_of pieces) in
    no-ending m.batches.columns (drop n batches.chunks) batches.ending (sym is ∙ last)

pub stopped : (m : CsvMaker) (pieces : List Piece) (row : RowFault) (rest : List Piece) → AreLast m pieces → pieces ≡ piece.Bad row ∷ rest
    → (rest ≡ []) × ((maker_batches m).ending ≡ Some row)
stopped m pieces row rest last is =
    let batches = maker_batches m in
    let n = length batches.chunks - length (tables_of pieces) in
    bad-ending m.batches.columns (drop n batches.chunks) batches.ending row rest (sym is ∙ last)

pub last-lawful : (columns : List Column) (m : CsvMaker) (pieces : List Piece) → LawfulTables columns (maker_batches m).chunks → AreLast m pieces
    → LawfulTables columns (tables_of pieces)
last-lawful columns m pieces lawful last =
    let batches = maker_batches m in
    let n = length batches.chunks - length (tables_of pieces) in
    let are : tables_of pieces ≡ drop n batches.chunks = ap tables_of last ∙ tables-back m.batches.columns (drop n batches.chunks) batches.ending in
    subst (LawfulTables columns) (sym are) (drop-lawful columns n batches.chunks lawful)
