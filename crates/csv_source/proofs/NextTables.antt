-- The chunk of the next piece is that of the next table.
use Rattle.std.proofs.Common.{◌≡◌, ◌≤◌, ◌+◌, ◌*◌, ◌<◌, ◌^◌, ◌∙◌, ℕ, List, [], ◌∷◌, length, map, All, None, sym, ap, subst}
use Rattle.std.proofs.lemmas.List.{length-map}
use Rattle.csv_source.proofs.Blocks.{blocks-are}
use Rattle.csv_source.proofs.ChunkFacts.{is-chunk, live-chunk, nodes-are}
use Rattle.csv_source.proofs.PlainKinds.{IsPlain}
use Rattle.csv_source.proofs.ChunkStreams.{end-counts, made-counts}
use Rattle.csv_source.proofs.Tables.{left-lawful}
use Rattle.csv_source.specs.SourceStreams.{AreShort, chunks_traffic}
use Rattle.csv_read.specs.Chunks.{chunk_blocks, chunk_of}
use Rattle.data_types.specs.ColumnView.{column_of}
use Rattle.data_types.specs.promise.Table.{Column, Row}
use Rattle.data_types.specs.declared.kind.ColumnType.{ColumnType}
use Rattle.data_types.specs.promise.ColumnKinds.{type_of_columns}
use Rattle.layout_rules.specs.promise.Values.{rows_of}
use Rattle.layout_rules.specs.promise.Walk.{ChunkOk}
use Rattle.raw_array.specs.promise.Members.{ArrayTree, Cost}
use Rattle.stage_model.specs.promise.Traffic.{made_blocks, made_nodes}
use Rattle.stream_face.specs.Calls.{Counts}
use Rattle.stream_face.specs.Lawful.{IsChunkOf, IsTable, LawfulTables}
use Rattle.tree_model.specs.promise.TreeParts.{IsLive}
use Rattle.unit_pass.specs.promise.Tally.{risen}
use Rattle.unit_pass.specs.Tally.{Tally}
use Rattle.csv_source.proofs.LastPieces.{last-lawful, taken}
use Rattle.csv_source.specs.NextPieces.{AreLast, IsPieceChunk}
use Rattle.csv_source.specs.Pieces.{maker_batches, tables_of}
use Rattle.csv_source.specs.declared.maker.CsvMaker.{CsvMaker}
use Rattle.csv_source.specs.declared.maker.Piece.{Piece}

pub maker-lawful : (m : CsvMaker) (columns : List ColumnType) → m.batches.columns ≡ columns → All IsPlain (map column_of columns) → AreShort m.batches.records
    → LawfulTables (map column_of columns) (maker_batches m).chunks
maker-lawful m columns same plain short =
    let own = subst (λ (cs : List ColumnType). All IsPlain (map column_of cs)) (sym same) plain in
    subst (λ (cs : List ColumnType). LawfulTables (map column_of cs) (maker_batches m).chunks) same (left-lawful m.batch m.batches own short)

pub record NextTable (m : CsvMaker) (columns : List Column) (chunk : ArrayTree) (old new : List Piece) (before after : Tally) : Type 0 where
  pub rows : List Row
  pub ahead : tables_of old ≡ rows ∷ tables_of new
  pub live : IsLive chunk
  pub is : IsChunkOf columns rows chunk
  pub blocks : after.blocks ≡ risen before.blocks (made_blocks None columns rows)
  pub nodes : after.nodes ≡ risen before.nodes (made_nodes None columns)
  pub last : AreLast m new

pub next-table : (m : CsvMaker) (columns : List ColumnType) (chunk : ArrayTree) (old new : List Piece) (before after : Tally) → m.batches.columns ≡ columns
    → All IsPlain (map column_of columns) → AreShort m.batches.records → length columns ≤ 1024 → AreLast m old → IsPieceChunk chunk old new before after
    → NextTable m (map column_of columns) chunk old new before after
next-table m columns chunk old new before after same plain short few last next =
    let rows = next.held.rows in
    let cols = map column_of columns in
    let took = taken m old next.held new last next.ahead in
    let named : next.held.columns ≡ columns = took.columns_are ∙ same in
    let is : chunk ≡ chunk_of cols rows = next.is ∙ ap (λ (cs : List ColumnType). chunk_of (map column_of cs) rows) named in
    let ok : ChunkOk (type_of_columns cols) chunk = subst (λ (cs : List ColumnType). ChunkOk (type_of_columns (map column_of cs)) chunk) named next.ok in
    let back : rows_of (type_of_columns cols) chunk ≡ rows =
    subst (λ (cs : List ColumnType). rows_of (type_of_columns (map column_of cs)) chunk ≡ rows) named next.rows_are in
    let cost = subst (λ (cs : List ColumnType). Cost chunk ≤ 1 + 4 * length cs) named next.cost in
    let tables : tables_of old ≡ rows ∷ tables_of new = ap tables_of next.ahead in
    let all = last-lawful cols m old (maker-lawful m columns same plain short) last in
    let here = subst (LawfulTables cols) tables all in
    let table : IsTable cols rows = here.tables.0 in
    record {
      rows = rows;
      ahead = tables;
      live = live-chunk cols rows chunk is;
      is = is-chunk cols rows chunk (length columns) plain is (subst (ChunkOk (type_of_columns cols)) is ok)
          (ap (rows_of (type_of_columns cols)) (sym is) ∙ back) cost few;
      blocks = next.blocks ∙ ap (λ (cs : List ColumnType). risen before.blocks (chunk_blocks (map column_of cs) rows)) named
          ∙ ap (risen before.blocks) (blocks-are cols rows plain table);
      nodes = next.nodes ∙ ap (λ (cs : List ColumnType). risen before.nodes (1 + length cs)) named
          ∙ ap (λ (n : ℕ). risen before.nodes (1 + n)) (sym (length-map columns column_of)) ∙ ap (risen before.nodes) (nodes-are cols plain);
      last = took.last;
    }

pub table-counts : (m : CsvMaker) (columns : List Column) (chunk : ArrayTree) (old new : List Piece) (before after : Tally)
    → NextTable m columns chunk old new before after → Counts (chunks_traffic columns (tables_of old)) (chunks_traffic columns (tables_of new)) before after chunk
table-counts m columns chunk old new before after next =
    subst (λ (all : List (List Row)). Counts (chunks_traffic columns all) (chunks_traffic columns (tables_of new)) before after chunk) (sym next.ahead)
    (made-counts columns next.rows (tables_of new) before after chunk next.live next.blocks next.nodes)

-- at the end nothing was left, and nothing is
pub none-counts : (columns : List Column) (old new : List Piece) (before after : Tally) (out : ArrayTree) → old ≡ [] → new ≡ [] → after ≡ before
    → before.blocks < 2 ^ 64 → before.nodes < 2 ^ 64 → Counts (chunks_traffic columns (tables_of old)) (chunks_traffic columns (tables_of new)) before after out
none-counts columns old new before after out none still same blocks nodes =
    subst (λ (t : Tally). Counts (chunks_traffic columns (tables_of old)) (chunks_traffic columns (tables_of new)) before t out) (sym same)
    (subst (λ (ps : List Piece). Counts (chunks_traffic columns (tables_of old)) (chunks_traffic columns (tables_of ps)) before before out) (none ∙ sym still)
    (end-counts columns (tables_of old) before out (ap tables_of none) blocks nodes))
