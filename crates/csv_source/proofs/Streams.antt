-- What a call for the next chunk counts.
use Rattle.std.proofs.Common.{◌≡◌, ◌<◌, ◌^◌, ℕ, List, ◌∷◌, map, None, sym, ap, subst}
use Rattle.csv_source.proofs.ChunkStreams.{end-counts, made-counts}
use Rattle.csv_source.specs.SourceStreams.{chunks_traffic, no_batches}
use Rattle.csv_model.specs.promise.Batches.{Chunks}
use Rattle.csv_read.specs.BatchesLeft.{BatchesLeft, batches_left, columns_in}
use Rattle.data_types.specs.ColumnView.{column_of}
use Rattle.data_types.specs.promise.Table.{Row}
use Rattle.data_types.specs.declared.kind.ColumnType.{ColumnType}
use Rattle.raw_array.specs.promise.Members.{ArrayTree}
use Rattle.stream_face.specs.Calls.{Counts}
use Rattle.tree_model.specs.promise.TreeParts.{IsLive}
use Rattle.unit_pass.specs.Tally.{Tally}
use Rattle.csv_source.specs.NextChunks.{IsNextChunk}

pub chunk-counts : (batch : ℕ) (chunk out : ArrayTree) (old new : BatchesLeft) (before after : Tally) → IsNextChunk batch chunk old new before after
    → out ≡ chunk → new.columns ≡ old.columns
    → Counts (chunks_traffic (columns_in old) (batches_left batch old).chunks)
    (chunks_traffic (columns_in new) (batches_left batch new).chunks) before after out
chunk-counts batch chunk out old new before after next is same =
    let columns = columns_in old in
    let chunks = (batches_left batch new).chunks in
    let split : (batches_left batch old).chunks ≡ next.rows ∷ chunks = ap (λ (b : Chunks). b.chunks) next.ahead in
    let live : IsLive out = subst IsLive (sym is) next.live in
    subst (λ (all : List (List Row)). Counts (chunks_traffic columns all) (chunks_traffic (columns_in new) chunks) before after out) (sym split)
    (subst (λ (cs : List ColumnType). Counts (chunks_traffic columns (next.rows ∷ chunks)) (chunks_traffic (map column_of cs) chunks) before after out) (sym same)
    (made-counts columns next.rows chunks before after out live next.blocks next.nodes))

-- the same where the batches that are left stay
pub same-counts : (batch : ℕ) (old new : BatchesLeft) (before after : Tally) (out : ArrayTree) → batches_left batch old ≡ no_batches None
    → batches_left batch new ≡ batches_left batch old → new.columns ≡ old.columns → after ≡ before → before.blocks < 2 ^ 64 → before.nodes < 2 ^ 64
    → Counts (chunks_traffic (columns_in old) (batches_left batch old).chunks)
    (chunks_traffic (columns_in new) (batches_left batch new).chunks) before after out
same-counts batch old new before after out none stays columns same blocks nodes =
    let due = chunks_traffic (columns_in old) (batches_left batch old).chunks in
    subst (λ (t : Tally). Counts due (chunks_traffic (columns_in new) (batches_left batch new).chunks) before t out) (sym same)
    (subst (λ (b : Chunks). Counts due (chunks_traffic (columns_in new) b.chunks) before before out) (sym stays)
    (subst (λ (cs : List ColumnType). Counts due (chunks_traffic (map column_of cs) (batches_left batch old).chunks) before before out) (sym columns)
    (end-counts (columns_in old) (batches_left batch old).chunks before out (ap (λ (b : Chunks). b.chunks) none) blocks nodes)))
