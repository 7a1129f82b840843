-- What a call for a chunk of rows, for the end or for a record at fault counts.
use Rattle.std.proofs.Common.{◌≡◌, ◌≢◌, ◌<◌, ◌^◌, ℤ, List, [], ◌∷◌, None, Some, refl, sym, ap, subst}
use Rattle.std.proofs.lemmas.List.Sums.{sum_by-cons}
use Rattle.std.specs.List.{sum_by}
use Rattle.data_types.specs.promise.Table.{Column, Row}
use Rattle.raw_array.specs.promise.Members.{ArrayTree}
use Rattle.stage_model.specs.promise.Traffic.{made_blocks, made_nodes}
use Rattle.stream_face.specs.Calls.{Counts}
use Rattle.stream_face.specs.Codes.{enomem}
use Rattle.stream_face.proofs.Producers.{counts-nothing, not-released}
use Rattle.tree_model.specs.promise.TreeParts.{IsLive}
use Rattle.unit_pass.specs.promise.Tally.{risen}
use Rattle.unit_pass.specs.Tally.{Tally}
use Rattle.csv_source.specs.NextChunks.{CountsNothing}
use Rattle.csv_source.specs.Refusals.{refusal_of, row_of}
use Rattle.csv_source.specs.SourceStreams.{chunks_traffic}
use Rattle.csv_source.specs.declared.refused.Refused.{Refused}
use Rattle.csv_source.specs.declared.refused.Refused.TheVariants as refused
use Rattle.data_types.specs.declared.row_fault.RowFault.{RowFault}

-- the chunk of the first rows
pub made-counts : (columns : List Column) (rows : List Row) (chunks : List (List Row)) (before after : Tally) (out : ArrayTree) → IsLive out
    → after.blocks ≡ risen before.blocks (made_blocks None columns rows) → after.nodes ≡ risen before.nodes (made_nodes None columns)
    → Counts (chunks_traffic columns (rows ∷ chunks)) (chunks_traffic columns chunks) before after out
made-counts columns rows chunks before after out live blocks nodes = record {
  made = record { blocks = made_blocks None columns rows; nodes = made_nodes None columns };
  blocks = blocks;
  nodes = nodes;
  fewer_blocks = sum_by-cons (made_blocks None columns) rows chunks;
  fewer_nodes = sum_by-cons (λ (rows : List Row). made_nodes None columns) rows chunks;
  no_blocks = λ e. absurd (not-released out live e);
  no_nodes = λ e. absurd (not-released out live e);
}

-- a record at fault, which nothing is left before
pub refused-counts : (columns after : List Column) (old new : List (List Row)) (why : Refused) (code : ℤ) (before later : Tally) (out : ArrayTree)
    → code ≡ (refusal_of why).code → code ≢ enomem → ((row : RowFault) → row_of why ≡ Some row → (old ≡ []) × (new ≡ [])) → CountsNothing why before later
    → before.blocks < 2 ^ 64 → before.nodes < 2 ^ 64 → Counts (chunks_traffic columns old) (chunks_traffic after new) before later out
refused-counts columns after old new (refused.Row row) code before later out is had none same blocks nodes =
    let empty = none row.fault refl in
    subst (λ (t : Tally). Counts (chunks_traffic columns old) (chunks_traffic after new) before t out) (sym (same row.fault refl))
    (subst (λ (chunks : List (List Row)). Counts (chunks_traffic columns old) (chunks_traffic after chunks) before before out) (sym empty.1)
    (subst (λ (chunks : List (List Row)). Counts (chunks_traffic columns chunks) (chunks_traffic after []) before before out) (sym empty.0)
    (counts-nothing (chunks_traffic after []) before before out refl refl blocks nodes (λ _. refl) (λ _. refl))))
refused-counts columns after old new refused.NoMemory code before later out is had none same blocks nodes = absurd (had is)

-- the end, which nothing is left before
pub end-counts : (columns : List Column) (chunks : List (List Row)) (t : Tally) (out : ArrayTree) → chunks ≡ [] → t.blocks < 2 ^ 64 → t.nodes < 2 ^ 64
    → Counts (chunks_traffic columns chunks) (chunks_traffic columns chunks) t t out
end-counts columns chunks t out empty blocks nodes =
    counts-nothing (chunks_traffic columns chunks) t t out refl refl blocks nodes (λ _. ap (sum_by (made_blocks None columns)) empty)
    (λ _. ap (sum_by (λ (rows : List Row). made_nodes None columns)) empty)
