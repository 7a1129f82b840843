-- What totals give at the end.
use Rattle.std.proofs.Common.{arith, ◌≡◌, ◌∙◌, ◌≤◌, ◌+◌, ◌*◌, ℕ, true, false, List, [], ◌∷◌, length, map, refl, sym, ap, subst}
use Rattle.std.specs.Prelude.{◌^◌, None, Some, All}
use Rattle.std.proofs.lemmas.List.{append-nil, length-map}
use Rattle.csv_read.specs.Chunks.{FitFrom, chunk_blocks, chunk_of}
use Rattle.data_types.specs.ColumnView.{column_of}
use Rattle.data_types.specs.Parts.{joined_rows}
use Rattle.data_types.specs.promise.Table.{Column, Kind, Row}
use Rattle.data_types.specs.declared.kind.ColumnType.{ColumnType}
use Rattle.data_types.specs.promise.ColumnKinds.{type_of_columns}
use Rattle.layout_rules.specs.promise.Values.{rows_of}
use Rattle.layout_rules.specs.promise.Walk.{ChunkOk}
use Rattle.raw_array.specs.promise.Members.{ArrayTree, Cost}
use Rattle.tree_model.specs.promise.TreeParts.{IsLive, child_at}
use Rattle.unit_pass.specs.promise.Tally.{risen}
use Rattle.unit_pass.specs.Tally.{Tally}
use Rattle.stage_model.specs.Stages.{totals_row}
use Rattle.stage_model.specs.promise.Traffic.{Made, made_blocks, made_nodes}
use Rattle.stage_model.specs.Traffic.{table_blocks}
use Rattle.stage_model.specs.declared.stage.Step.TheVariants as steps
use Rattle.stream_face.specs.Lawful.{DictsAreFull, IsChunkOf, LawfulColumns, LawfulTables}
use Rattle.stages.specs.Steps.{GivesOut}
use Rattle.total_stage.specs.Froms.{CanGoOn, ahead_from}
use Rattle.total_stage.specs.Rows.{RowFits}
use Rattle.total_stage.specs.Fits.{TotalsFits}
use Rattle.total_stage.specs.declared.numbers.Totals.{Totals}
use Rattle.total_stage.proofs.Fitting.{all-summed, can-total, few-kept, fit-from, from-row, kept-fit, made-blocks, made-nodes, one-table}
use Rattle.total_stage.proofs.Going.{from-begun}

-- ---- the chunk

-- the laws of chunks of rows
abbrev pub MakesChunk : Type 0
MakesChunk = (columns : List Column) (rows : List Row) → FitFrom 0 columns rows → length rows ≤ 2 ^ 40 →
    ChunkOk (type_of_columns columns) (chunk_of columns rows)

abbrev pub MakesRows : Type 0
MakesRows = (columns : List Column) (rows : List Row) → FitFrom 0 columns rows → All (λ (row : Row). length row ≡ length columns) rows
    → rows_of (type_of_columns columns) (chunk_of columns rows) ≡ rows

pub live-chunk : (columns : List Column) (rows : List Row) (made : ArrayTree) → made ≡ chunk_of columns rows → IsLive made
live-chunk columns rows made is = subst IsLive (sym is) tt

pub is-chunk : MakesChunk → MakesRows → (columns : List Column) (row : Row) (made : ArrayTree) → RowFits columns row → made ≡ chunk_of columns (row ∷ [])
    → Cost made ≤ 1 + 4 * length columns → length columns ≤ 4096 → IsChunkOf columns (row ∷ []) made
is-chunk makes gives columns row made fits is cost few =
    let fit = fit-from 0 columns row (from-row columns row fits) in
    record {
      ok = subst (ChunkOk (type_of_columns columns)) (sym is) (makes columns (row ∷ []) fit (omega arith));
      rows_are = ap (rows_of (type_of_columns columns)) is ∙ gives columns (row ∷ []) fit (one-table columns row fits).widths;
      small = omega (arith, cost, few);
      dicts = λ k none inside. subst (λ (kind : Kind). DictsAreFull kind (child_at made k)) (sym (fits.each k none inside).is) tt;
    }

-- ---- the one row

-- the row fits its columns
pub can-fit : (picks : List ℕ) (kept : List ColumnType) (sums : List Totals) (before : List Column) (can : CanGoOn sums picks before [])
    → ∥ TotalsFits picks kept before ∥₁ → LawfulColumns before → RowFits (map column_of kept) (totals_row picks (joined_rows can.done))
can-fit picks kept sums before can fits columns =
    kept-fit picks kept before (joined_rows can.done) fits
    (all-summed picks before can.done (can-total picks kept before fits) columns.kinds
    (subst (LawfulTables before) (append-nil can.done) can.lawful))

-- what totals that were pushed all tables give at the end
pub totals-give : MakesChunk → MakesRows → (picks : List ℕ) (kept : List ColumnType) (sums : List Totals) (before : List Column) (made : ArrayTree)
    (first last : Tally) (can : CanGoOn sums picks before []) → ∥ TotalsFits picks kept before ∥₁ → LawfulColumns before
    → made ≡ chunk_of (map column_of kept) (totals_row picks (joined_rows can.done) ∷ []) → Cost made ≤ 1 + 4 * length kept
    → last.blocks ≡ risen first.blocks (chunk_blocks (map column_of kept) (totals_row picks (joined_rows can.done) ∷ []))
    → last.nodes ≡ risen first.nodes (1 + length kept)
    → GivesOut (map column_of kept) (made_blocks (Some (steps.Totals picks)) (map column_of kept))
    (λ rows. made_nodes (Some (steps.Totals picks)) (map column_of kept)) (λ _ _. Unit {0}) (λ _. ahead_from sums picks false None []) (λ _. []) true
    first last made
totals-give makes gives picks kept sums before made first last can fits columns is cost blocks nodes =
    let row = totals_row picks (joined_rows can.done) in
    let after = map column_of kept in
    let fit = can-fit picks kept sums before can fits columns in
    let long = length-map kept column_of in
    let few = few-kept picks kept before fits in
    let behind = from-row after row fit in
    let own_blocks : chunk_blocks after (row ∷ []) ≡ table_blocks Made after (row ∷ []) = made-blocks 0 after row behind in
    let own_nodes = made-nodes 0 after row behind in
    record {
      rows = row ∷ [];
      ahead = λ _. ap (λ (r : Row). (r ∷ []) ∷ [])
          (from-begun sums picks (joined_rows can.done) [] can.begun ∙ ap (totals_row picks) (append-nil (joined_rows can.done)));
      is = is-chunk makes gives after row made fit is (omega (arith, cost, long)) few;
      live = live-chunk after (row ∷ []) made is;
      gives = tt;
      rests = refl;
      blocks = blocks ∙ ap (risen first.blocks) own_blocks;
      nodes = nodes ∙ ap (λ (n : ℕ). risen first.nodes n) (omega (arith, own_nodes, long));
    }

pub few-columns : (picks : List ℕ) (kept : List ColumnType) (before : List Column) → ∥ TotalsFits picks kept before ∥₁ → length kept ≤ 4096
few-columns picks kept before fits = omega (arith, few-kept picks kept before fits, length-map kept column_of)
