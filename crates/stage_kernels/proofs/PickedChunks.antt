-- What a selection makes of a chunk, and of the answers of the stream below it.
use Rattle.std.proofs.Common.{arith, ◌≡◌, ◌≤◌, ◌<◌, ◌+◌, ℕ, zero, suc, ℤ, List, [], ◌∷◌, ◌^◌, true, length, map, get_or, refl}
use Rattle.std.proofs.Common.{sym, ◌∙◌, ap, subst}
use Rattle.std.proofs.Math.Logic.{∥∥₁_elim}
use Rattle.std.proofs.Props.{props}
use Rattle.data_types.specs.ColumnView.{column_of}
use Rattle.data_types.specs.Parts.{AreWithin}
use Rattle.data_types.specs.promise.Table.{Column, Row}
use Rattle.data_types.specs.declared.kind.ColumnType.{ColumnType}
use Rattle.tree_model.specs.promise.TreeData.{Released}
use Rattle.tree_model.specs.promise.TreeParts.{IsLive, child_at}
use Rattle.tree_model.proofs.Lists.{tree_list-trees}
use Rattle.raw_array.specs.promise.Members.{ArrayTree, Cost, members_of}
use Rattle.raw_array.specs.Windows.{Window}
use Rattle.unit_pass.specs.promise.Tally.{risen}
use Rattle.unit_pass.specs.Tally.{Tally}
use Rattle.data_types.specs.promise.KindTrees.{KindTree}
use Rattle.layout_rules.specs.promise.Walk.{ChunkOk}
use Rattle.layout_rules.specs.promise.Values.{rows_of}
use Rattle.data_types.specs.promise.ColumnKinds.{type_of_columns}
use Rattle.arr_move.specs.TreeActs.{Columns, Distinct, cut}
use Rattle.stream_face.specs.Lawful.{DictsAreFull, IsChunkOf}
use Rattle.stages.specs.Steps.{GivesOut, IsNext}
use Rattle.stages.proofs.PickedColumns.{as-many, column-at}
use Rattle.stages.proofs.ColumnSets.{same_columns}
use Rattle.stages.proofs.CutColumns.{dicts-window}
use Rattle.stage_kernels.specs.Picks.{PickFits, no_column, picked_columns, picked_rows}

-- ---- dictionaries

cut-at : (t : ArrayTree) (off len : ℤ) (picks : List ℕ) (k : ℕ) → k < length picks
    → get_or (map (cut t off len) picks) k Released ≡ cut t off len (get_or picks k 0)
cut-at t off len [] k inside = absurd (omega (arith, inside))
cut-at t off len (p ∷ picks) zero inside = refl
cut-at t off len (p ∷ picks) (suc k) inside = cut-at t off len picks k (omega (arith, inside))

child-of-columns : (t : ArrayTree) (picks : List ℕ) (k : ℕ) → k < length picks
    → child_at (Columns t picks) k ≡ Window (child_at t (get_or picks k 0)) (members_of t).offset (members_of t).length
child-of-columns t picks k inside =
    ap (λ cs. get_or cs k Released) (tree_list-trees (map (cut t (members_of t).offset (members_of t).length) picks))
    ∙ cut-at t (members_of t).offset (members_of t).length picks k inside

dicts-picked : (columns : List Column) (t : ArrayTree) (picks : List ℕ) → AreWithin (length columns) picks
    → ((k : ℕ) (none : Column) → k < length columns → DictsAreFull (get_or columns k none).kind (child_at t k))
    → (k : ℕ) (none : Column) → k < length (picked_columns picks columns)
    → DictsAreFull (get_or (picked_columns picks columns) k none).kind (child_at (Columns t picks) k)
dicts-picked columns t picks within full k none small =
    let inside : k < length picks = omega (arith, small, as-many picks columns) in
    subst (λ (c : Column). DictsAreFull c.kind (child_at (Columns t picks) k)) (sym (column-at picks columns k none inside))
    (subst (DictsAreFull (get_or columns (get_or picks k 0) no_column).kind) (sym (child-of-columns t picks k inside))
    (dicts-window (get_or columns (get_or picks k 0) no_column).kind (child_at t (get_or picks k 0)) (members_of t).offset (members_of t).length
    (full (get_or picks k 0) no_column (within k inside))))

-- ---- a call

-- what the laws say of the picked columns of a chunk
pub record Picked (columns : List Column) (picks : List ℕ) (chunk : ArrayTree) : Type 0 where
  pub within : AreWithin (length columns) picks
  pub ok : ChunkOk (type_of_columns (picked_columns picks columns)) (Columns chunk picks)
  pub rows : rows_of (type_of_columns (picked_columns picks columns)) (Columns chunk picks) ≡ picked_rows picks (rows_of (type_of_columns columns) chunk)
  pub cost : Cost (Columns chunk picks) ≤ Cost chunk

pub are-within : (picks : List ℕ) (kept : List ColumnType) (before : List Column) → ∥ PickFits picks kept before ∥₁ → AreWithin (length before) picks
are-within picks kept before fits = λ k h. ∥∥₁_elim fits (hlevel props) (λ f. f.within k h)

pub are-distinct : (picks : List ℕ) (kept : List ColumnType) (before : List Column) → ∥ PickFits picks kept before ∥₁ → Distinct picks
are-distinct picks kept before fits = λ i j below small. ∥∥₁_elim fits (hlevel props) (λ f. f.distinct i j below small)

-- what the laws say of the columns that were taken of a chunk
pub picked_of : (columns : List Column) (picks : List ℕ) (chunk taken : ArrayTree) → AreWithin (length columns) picks
    → ChunkOk (type_of_columns (picked_columns picks columns)) (Columns chunk picks)
    → rows_of (type_of_columns (picked_columns picks columns)) (Columns chunk picks) ≡ picked_rows picks (rows_of (type_of_columns columns) chunk)
    → taken ≡ Columns chunk picks → Cost taken ≤ Cost chunk → Picked columns picks chunk
picked_of columns picks chunk taken within ok rows is cost =
    record { within = within; ok = ok; rows = rows; cost = let e = ap Cost is in omega (arith, e, cost) }

-- what a selection gives of a chunk of these columns and rows
pub select-gives : (before : List Column) (kept : List ColumnType) (picks : List ℕ) (t taken : ArrayTree) (rows : List Row) (more : List (List Row))
    (typed : KindTree) (first last : Tally) → map column_of kept ≡ picked_columns picks before → IsNext before rows more typed t → Picked before picks t
    → taken ≡ Columns t picks → last.blocks ≡ first.blocks → last.nodes ≡ risen first.nodes 1 → first.blocks < 2 ^ 64
    → GivesOut (map column_of kept) (λ _. 0) (λ _. 1) (λ _ _. Unit {0}) (λ _. map (picked_rows picks) (rows ∷ more)) (λ _. map (picked_rows picks) more)
    true first last taken
select-gives before kept picks t taken rows more typed first last columns next made is blocks nodes b = record {
  rows = picked_rows picks rows;
  ahead = λ _. refl;
  is = subst (λ cs. IsChunkOf cs (picked_rows picks rows) taken) (sym columns) (record {
    ok = subst (ChunkOk (type_of_columns (picked_columns picks before))) (sym is) made.ok;
    rows_are = ap (rows_of (type_of_columns (picked_columns picks before))) is ∙ made.rows ∙ ap (picked_rows picks) next.is.rows_are;
    small = let e = ap Cost is in omega (arith, e, made.cost, next.is.small);
    dicts = λ k none small.
        subst (λ t. DictsAreFull (get_or (picked_columns picks before) k none).kind (child_at t k)) (sym is)
        (dicts-picked before t picks made.within next.is.dicts k none small);
  });
  live = subst IsLive (sym is) tt;
  gives = tt;
  rests = refl;
  blocks = omega (arith, blocks, b);
  nodes = nodes;
}

-- the columns that are kept are those that are picked
pub kept-picked : (picks : List ℕ) (kept : List ColumnType) (before : List Column) → ∥ PickFits picks kept before ∥₁
    → map column_of kept ≡ picked_columns picks before
kept-picked picks kept before fits = same_columns (map column_of kept) (picked_columns picks before) (λ (f : PickFits picks kept before). f.columns) fits
