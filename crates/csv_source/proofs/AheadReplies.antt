-- The tables that a stream still gives, and what a call for the next one leaves and counts.
use Rattle.std.proofs.Common.{◌≡◌, ◌≤◌, ◌<◌, ◌^◌, ◌∙◌, true, List, [], ◌∷◌, length, map, All, Option, None, Some, refl, sym, ap, subst, arith, inl, inr, ℕ}
use Rattle.std.specs.Prelude.{is_some}
use Rattle.ahead_ring.specs.Coming.{Coming}
use Rattle.csv_source.proofs.PlainKinds.{IsPlain}
use Rattle.csv_source.specs.SourceStreams.{AreShort, chunks_traffic, stream_of}
use Rattle.csv_source.specs.declared.refused.Refused.{Refused}
use Rattle.csv_model.specs.promise.Batches.{Chunks}
use Rattle.csv_model.specs.promise.Reading.{Record}
use Rattle.csv_read.specs.BatchesLeft.{BatchesLeft, all_left, batches_left}
use Rattle.csv_read.specs.RecordReader.{field_bytes}
use Rattle.data_types.specs.ColumnView.{column_of}
use Rattle.data_types.specs.promise.Table.{Column, Row}
use Rattle.data_types.specs.declared.kind.ColumnType.{ColumnType}
use Rattle.data_types.specs.declared.row_fault.RowFault.{RowFault}
use Rattle.raw_array.specs.promise.Members.{ArrayTree}
use Rattle.stream_face.proofs.Producers.{live-or-released}
use Rattle.stream_face.specs.Calls.{Counts}
use Rattle.stream_face.specs.Lawful.{LawfulTables}
use Rattle.tree_model.specs.promise.TreeParts.{IsLive}
use Rattle.tree_model.specs.promise.TreeData.{Released}
use Rattle.unit_pass.specs.Tally.{Tally}
use Rattle.csv_source.proofs.LastPieces.{last-lawful, tables-back, taken}
use Rattle.csv_source.proofs.NextTables.{next-table, none-counts, table-counts}
use Rattle.csv_source.proofs.SameColumns.{columns-back}
use Rattle.csv_source.specs.NextPieces.{AreLast, IsPieceChunk, to_come}
use Rattle.csv_source.specs.Pieces.{maker_batches, maker_pieces, tables_of}
use Rattle.csv_source.specs.AheadSources.{tables_left}
use Rattle.csv_source.specs.declared.maker.CsvMaker.{CsvMaker}
use Rattle.csv_source.specs.declared.maker.Piece.{Piece}
use Rattle.csv_source.specs.declared.maker.Piece.TheVariants as piece

none-lawful : (columns : List Column) → LawfulTables columns []
none-lawful columns = record { tables = tt; rows = omega arith }

pub tables-lawful : (columns : List Column) (m : CsvMaker) (refused : Option Refused) (coming : Option (Coming Piece))
    → LawfulTables columns (maker_batches m).chunks → (refused ≡ None → is_some coming ≡ true → AreLast m (to_come coming))
    → LawfulTables columns (tables_left refused coming)
tables-lawful columns m None (Some coming) lawful last = last-lawful columns m coming.coming lawful (last refl refl)
tables-lawful columns m None None lawful last = none-lawful columns
tables-lawful columns m (Some why) coming lawful last = none-lawful columns

pub tables-none : (refused : Option Refused) (coming : Option (Coming Piece)) → tables_of (to_come coming) ≡ [] → tables_left refused coming ≡ []
tables-none None coming none = none
tables-none (Some why) coming none = refl

-- ---- a call for the next chunk

pub still-last : (m : CsvMaker) (out : ArrayTree) (old new : List Piece) (before after : Tally) → AreLast m old
    → (IsLive out → IsPieceChunk out old new before after) → (out ≡ Released → (old ≡ []) × (new ≡ [])) → AreLast m new
still-last m out old new before after last chunk end = elim (live-or-released out) [
  | inl live ↦ let next = chunk live in (taken m old next.held new last next.ahead).last
  | inr gone ↦ let ends = end gone in subst (AreLast m) (ends.0 ∙ sym ends.1) last
]

pub given-counts : (m : CsvMaker) (columns : List ColumnType) (refused : Option Refused) (out : ArrayTree) (old new : Option (Coming Piece))
    (before after : Tally) → refused ≡ None → m.batches.columns ≡ columns → All IsPlain (map column_of columns) → AreShort m.batches.records
    → length columns ≤ 1024 → AreLast m (to_come old) → before.blocks < 2 ^ 64 → before.nodes < 2 ^ 64
    → (IsLive out → IsPieceChunk out (to_come old) (to_come new) before after)
    → (out ≡ Released → (to_come old ≡ []) × (to_come new ≡ [])) → (out ≡ Released → after ≡ before)
    → Counts (chunks_traffic (map column_of columns) (tables_left refused old)) (chunks_traffic (map column_of columns) (tables_left refused new)) before after out
given-counts m columns refused out old new before after none same plain short few last blocks nodes chunk end counts =
    let cols = map column_of columns in
    let given : Counts (chunks_traffic cols (tables_of (to_come old))) (chunks_traffic cols (tables_of (to_come new))) before after out =
    elim (live-or-released out) [
      | inl live ↦
          table-counts m cols out (to_come old) (to_come new) before after
          (next-table m columns out (to_come old) (to_come new) before after same plain short few last (chunk live))
      | inr gone ↦
          let ends = end gone in none-counts cols (to_come old) (to_come new) before after out ends.0 ends.1 (counts gone) blocks nodes
    ] in
    subst (λ (o : Option Refused). Counts (chunks_traffic cols (tables_left o old)) (chunks_traffic cols (tables_left o new)) before after out) (sym none) given

-- the record at fault leaves no table
pub none-stopped : (old new : List Piece) (row : RowFault) → old ≡ piece.Bad row ∷ new → new ≡ [] → tables_of old ≡ []
none-stopped old new row is none = ap tables_of is ∙ ap tables_of none

-- ---- the start

pub copied-columns : (columns lent copy : List ColumnType) → lent ≡ columns → map column_of copy ≡ map column_of lent
    → map column_of copy ≡ map column_of columns
copied-columns columns lent copy same copied = copied ∙ ap (λ (cs : List ColumnType). map column_of cs) same

pub record Starts (whole : CsvMaker) (own : List ColumnType) : Type 0 where
  pub same : whole.batches.columns ≡ own
  pub short : AreShort whole.batches.records

pub starting : (whole maker : CsvMaker) (batches : BatchesLeft) (records : List Record) (size : ℕ) (columns lent copy own : List ColumnType) (mark : List ℕ)
    → whole ≡ maker → maker.batches ≡ batches → batches ≡ all_left records columns mark → length records ≤ size → field_bytes records ≤ size → size ≤ 2 ^ 30
    → All IsPlain (map column_of columns) → lent ≡ columns → map column_of copy ≡ map column_of lent → own ≡ copy → Starts whole own
starting whole maker batches records size columns lent copy own mark snap over left count bytes short plain same copied kept =
    let is : whole.batches ≡ all_left records columns mark = ap (λ (m : CsvMaker). m.batches) snap ∙ over ∙ left in
    record {
      same = ap (λ (b : BatchesLeft). b.columns) is ∙ columns-back columns copy plain (sym (copied-columns columns lent copy same copied)) ∙ sym kept;
      short = subst AreShort (sym (ap (λ (b : BatchesLeft). b.records) is)) (omega (arith, count, short), omega (arith, bytes, short));
    }

abbrev these : List (List Row) → Option RowFault → Chunks
these chunks ending = record { chunks = chunks; ending = ending }

pub starts : (whole maker : CsvMaker) (batches : BatchesLeft) (records : List Record) (columns lent copy own : List ColumnType) (mark : List ℕ) (batch : ℕ)
    (coming : List Piece) → whole ≡ maker → maker.batches ≡ batches → batches ≡ all_left records columns mark → maker.batch ≡ batch
    → lent ≡ columns → map column_of copy ≡ map column_of lent → own ≡ copy → coming ≡ maker_pieces maker
    → stream_of (map column_of own) (these (tables_of coming) (maker_batches whole).ending)
    ≡ stream_of (map column_of columns) (batches_left batch (all_left records columns mark))
starts whole maker batches records columns lent copy own mark batch coming snap over left size same copied kept pieces =
    let cols = map column_of columns in
    let all = batches_left batch (all_left records columns mark) in
    let ending = (maker_batches whole).ending in
    let named : map column_of own ≡ cols = ap (λ (cs : List ColumnType). map column_of cs) kept ∙ copied-columns columns lent copy same copied in
    let is : maker_batches maker ≡ all = ap (λ (n : ℕ). batches_left n maker.batches) size ∙ ap (batches_left batch) (over ∙ left) in
    let tables : tables_of coming ≡ all.chunks = ap tables_of pieces ∙ tables-back maker.batches.columns (maker_batches maker).chunks (maker_batches maker).ending
    ∙ ap (λ (b : Chunks). b.chunks) is in
    let ends : ending ≡ all.ending = ap (λ (m : CsvMaker). (maker_batches m).ending) snap ∙ ap (λ (b : Chunks). b.ending) is in
    ap (λ (cs : List Column). stream_of cs (these (tables_of coming) ending)) named ∙ ap (λ (ts : List (List Row)). stream_of cols (these ts ending)) tables
    ∙ ap (λ (e : Option RowFault). stream_of cols (these all.chunks e)) ends
