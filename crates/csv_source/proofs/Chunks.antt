-- The chunk of the next batch.
use Rattle.std.proofs.Common.{◌≡◌, ◌≤◌, ◌+◌, ◌*◌, ◌∙◌, ℕ, zero, suc, List, [], ◌∷◌, length, drop, All, Option, None, Some, sym, ap, subst, arith}
use Rattle.std.proofs.lemmas.List.{length-map}
use Rattle.col_build.specs.declared.builder.Builder.{Builder}
use Rattle.csv_model.specs.promise.Batches.{Chunks}
use Rattle.csv_model.specs.promise.Reading.{Record}
use Rattle.csv_read.specs.BatchesLeft.{BatchesLeft, IsNextBatch, IsNextFault, at_end, batches_left, behind, columns_in}
use Rattle.csv_read.specs.Chunks.{chunk_blocks, chunk_of}
use Rattle.csv_read.specs.RecordReader.{field_bytes}
use Rattle.csv_read.specs.declared.body.BodyFault.{BodyFault}
use Rattle.csv_read.specs.declared.body.BodyFault.TheVariants as faults
use Rattle.data_types.specs.ColumnView.{column_of}
use Rattle.data_types.specs.promise.Table.{Row}
use Rattle.data_types.specs.declared.row_fault.RowFault.{RowFault}
use Rattle.data_types.specs.promise.ColumnKinds.{type_of_columns}
use Rattle.layout_rules.specs.promise.Values.{rows_of}
use Rattle.layout_rules.specs.promise.Walk.{ChunkOk}
use Rattle.raw_array.specs.promise.Members.{ArrayTree, Cost}
use Rattle.stream_face.specs.Lawful.{IsTable}
use Rattle.unit_pass.specs.promise.Tally.{risen}
use Rattle.unit_pass.specs.Tally.{Tally}
use Rattle.csv_source.specs.SourceStreams.{AreShort, no_batches}
use Rattle.csv_source.specs.NextChunks.{EndsAt, IsNextChunk}
use Rattle.csv_source.specs.Refusals.{TellsOf}
use Rattle.csv_source.specs.declared.refused.Refused.{Refused}
use Rattle.csv_source.specs.declared.refused.Refused.TheVariants as refused
use Rattle.csv_source.proofs.Blocks.{blocks-are}
use Rattle.csv_source.proofs.ChunkFacts.{is-chunk, live-chunk, nodes-are}
use Rattle.csv_source.proofs.PlainKinds.{IsPlain}
use Rattle.csv_source.proofs.Tables.{left-lawful}

-- ---- what is left of the records

drop-short : (n : ℕ) (records : List Record) → (length (drop n records) ≤ length records) × (field_bytes (drop n records) ≤ field_bytes records)
drop-short zero records = (omega arith, omega arith)
drop-short (suc n) [] = (omega arith, omega arith)
drop-short (suc n) (fields ∷ records) = let rest = drop-short n records in (omega (arith, rest.0), omega (arith, rest.1))

pub next-short : (batch : ℕ) (old new : List Record) → new ≡ drop batch old → AreShort old → AreShort new
next-short batch old new is short =
    let fewer = drop-short batch old in
    subst AreShort (sym is) (omega (arith, short.0, fewer.0), omega (arith, short.1, fewer.1))

pub none-short : (new : List Record) → new ≡ [] → AreShort new
none-short new is = subst AreShort (sym is) (omega arith, omega arith)

-- ---- the chunk

next-table : (batch : ℕ) (old : BatchesLeft) (rows : List Row) (others : Chunks) → All IsPlain (columns_in old) → AreShort old.records
    → batches_left batch old ≡ behind rows others → IsTable (columns_in old) rows
next-table batch old rows others plain short ahead =
    let lawful = (left-lawful batch old plain short).tables in
    (rw ahead at lawful).0

pub next-chunk : (batch : ℕ) (builders : List Builder) (chunk : ArrayTree) (old new : BatchesLeft) (before after : Tally)
    (found : IsNextBatch batch builders old new)
    → All IsPlain (columns_in old) → AreShort old.records → length old.columns ≤ 1024
    → batches_left batch old ≡ behind found.rows (batches_left batch new)
    → chunk ≡ chunk_of (columns_in old) found.rows
    → ChunkOk (type_of_columns (columns_in old)) (chunk_of (columns_in old) found.rows)
    → rows_of (type_of_columns (columns_in old)) (chunk_of (columns_in old) found.rows) ≡ found.rows
    → Cost chunk ≤ 1 + 4 * length old.columns
    → after.blocks ≡ risen before.blocks (chunk_blocks (columns_in old) found.rows)
    → after.nodes ≡ risen before.nodes (1 + length old.columns)
    → IsNextChunk batch chunk old new before after
next-chunk batch builders chunk old new before after found plain short few ahead is ok back cost blocks nodes =
    let columns = columns_in old in
    let long : length columns ≡ length old.columns = length-map old.columns column_of in
    let table = next-table batch old found.rows (batches_left batch new) plain short ahead in
    record {
      rows = found.rows;
      ahead = ahead;
      live = live-chunk columns found.rows chunk is;
      is = is-chunk columns found.rows chunk (length old.columns) plain is ok back cost few;
      blocks = blocks ∙ ap (risen before.blocks) (blocks-are columns found.rows plain table);
      nodes = nodes ∙ ap (λ (n : ℕ). risen before.nodes (1 + n)) (sym long) ∙ ap (risen before.nodes) (nodes-are columns plain);
    }

-- the same where as much is left
pub chunk-same : (batch : ℕ) (chunk : ArrayTree) (old new other : BatchesLeft) (before after : Tally) → IsNextChunk batch chunk old new before after
    → batches_left batch other ≡ batches_left batch new → IsNextChunk batch chunk old other before after
chunk-same batch chunk old new other before after next same = record {
  rows = next.rows;
  ahead = next.ahead ∙ ap (behind next.rows) (sym same);
  live = next.live;
  is = next.is;
  blocks = next.blocks;
  nodes = next.nodes;
}

-- ---- a refusal

pub next-fault : (batch : ℕ) (fault : BodyFault) (why : Refused) (old new : BatchesLeft) → TellsOf fault why → IsNextFault fault batch old → new ≡ at_end old
    → ((s : BatchesLeft) (row : RowFault) → IsNextFault (faults.Row row) batch s → batches_left batch s ≡ no_batches (Some row))
    → EndsAt batch why old new
next-fault batch fault why old new tells next ends law = λ row is. (
  law old row (subst (λ (f : BodyFault). IsNextFault f batch old) (tells row is) next),
  ap (λ (s : BatchesLeft). s.records) ends,
)

pub no-row : (batch : ℕ) (old new : BatchesLeft) → EndsAt batch refused.NoMemory old new
no-row batch old new = λ row is. let never : ◌≡◌ {A = Option RowFault} None (Some row) = is in absurd (cc)
