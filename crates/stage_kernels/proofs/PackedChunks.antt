-- What the chunks of packed columns are.
use Rattle.std.proofs.Common.{arith, ◌≡◌, ◌≤◌, ◌<◌, ◌+◌, ◌*◌, ◌∙◌, ◌++◌, ◌⊎◌, inl, inr, ℕ, zero, suc, ◌^◌, true, List, [], ◌∷◌, length, map, get_or}
use Rattle.std.proofs.Common.{refl, sym, ap, subst}
use Rattle.std.proofs.lemmas.List.{length-map, length_push, get_or_push, get_or_append_left}
use Rattle.unit_pass.specs.promise.Tally.{risen}
use Rattle.unit_pass.specs.Tally.{Tally}
use Rattle.unit_pass.specs.declared.pass.TheConstants.{CHUNK}
use Rattle.data_types.specs.promise.ColumnView.{members}
use Rattle.data_types.specs.ColumnView.{column_of}
use Rattle.data_types.specs.Parts.{packed, packed_columns, AreWithin}
use Rattle.data_types.specs.promise.Table.{Column, Row}
use Rattle.data_types.specs.declared.kind.ColumnType.{ColumnType}
use Rattle.tree_model.specs.promise.TreeData.{Released}
use Rattle.tree_model.specs.promise.TreeParts.{IsLive, child_at}
use Rattle.tree_model.proofs.Lists.{tree_list-trees}
use Rattle.raw_array.specs.promise.Members.{ArrayTree, Cost, members_of}
use Rattle.data_types.specs.promise.ColumnKinds.{type_of_columns}
use Rattle.data_types.specs.promise.KindTrees.{KindTree}
use Rattle.layout_rules.specs.promise.Values.{rows_of}
use Rattle.layout_rules.specs.promise.Walk.{ChunkOk}
use Rattle.arr_move.specs.TreeActs.{Columns}
use Rattle.array_laws.specs.Picking.{Packed}
use Rattle.stream_face.specs.Lawful.{DictsAreFull, MemberDictsAreFull, column_leaves}
use Rattle.stages.specs.Steps.{GivesOut, IsNext}
use Rattle.stages.proofs.CutColumns.{dicts-window}
use Rattle.stage_kernels.specs.Packs.{PackFits, column_in}
use Rattle.stage_kernels.specs.Picks.{no_column, picked_columns}
use Rattle.stages.specs.Structs.{column_structs}
use Rattle.stages.proofs.PickedColumns.{as-many, column-at, first-within, rest-within}
use Rattle.stage_kernels.proofs.PackedStreams.{Kept, Numbers, kept-are, made_name, numbers-of, place-of, struct_column}

-- ---- dictionaries

abbrev FullAt : List Column → ArrayTree → ℕ → Column → Type 0
FullAt columns t k none = DictsAreFull (get_or columns k none).kind (child_at t k)

abbrev FullEach : List Column → ArrayTree → Type 0
FullEach columns t = (k : ℕ) (none : Column) → k < length columns → DictsAreFull (get_or columns k none).kind (child_at t k)

maps-at : {X : Type 0} → (f : ℕ → X) (picks : List ℕ) (none : X) (k : ℕ) → k < length picks → get_or (map f picks) k none ≡ f (get_or picks k 0)
maps-at f [] none k inside = absurd (omega (arith, inside))
maps-at f (p ∷ picks) none zero inside = refl
maps-at f (p ∷ picks) none (suc k) inside = maps-at f picks none k (omega (arith, inside))

full-cut : (columns : List Column) (t : ArrayTree) (p : ℕ) → p < length columns → FullEach columns t
    → DictsAreFull (get_or columns p no_column).kind (column_in t p)
full-cut columns t p inside full =
    dicts-window (get_or columns p no_column).kind (child_at t p) (members_of t).offset (members_of t).length (full p no_column inside)

full-members : (columns : List Column) (t : ArrayTree) (picks : List ℕ) → AreWithin (length columns) picks → FullEach columns t
    → MemberDictsAreFull (members (picked_columns picks columns)) (map (column_in t) picks)
full-members columns t [] within full = tt
full-members columns t (p ∷ picks) within full = (
  full-cut columns t p (first-within (length columns) p picks within) full,
  full-members columns t picks (rest-within (length columns) p picks within) full,
)

child-of-packed : (t : ArrayTree) (rest picks : List ℕ) (k : ℕ)
    → child_at (Packed t rest picks) k ≡ get_or (map (column_in t) rest ++ Columns t picks ∷ []) k Released
child-of-packed t rest picks k = ap (λ cs. get_or cs k Released) (tree_list-trees (map (column_in t) rest ++ Columns t picks ∷ []))

full-at : (made : List ℕ) (rest picks : List ℕ) (columns : List Column) (t : ArrayTree) → Numbers rest picks columns → FullEach columns t
    → (k : ℕ) (none : Column) → (k < length rest) ⊎ (k ≡ length rest)
    → DictsAreFull (get_or (packed_columns no_column made rest picks columns) k none).kind (child_at (Packed t rest picks) k)
full-at made rest picks columns t numbers full k none (inl inside) =
    let own : get_or (packed_columns no_column made rest picks columns) k none ≡ get_or columns (get_or rest k 0) no_column =
    get_or_append_left (picked_columns rest columns) (struct_column made picks columns ∷ []) none k (omega (arith, inside, as-many rest columns))
    ∙ column-at rest columns k none inside in
    let child : child_at (Packed t rest picks) k ≡ column_in t (get_or rest k 0) =
    child-of-packed t rest picks k
    ∙ get_or_append_left (map (column_in t) rest) (Columns t picks ∷ []) Released k (omega (arith, inside, length-map rest (column_in t)))
    ∙ maps-at (column_in t) rest Released k inside in
    subst (λ (c : Column). DictsAreFull c.kind (child_at (Packed t rest picks) k)) (sym own)
    (subst (DictsAreFull (get_or columns (get_or rest k 0) no_column).kind) (sym child)
    (full-cut columns t (get_or rest k 0) (numbers.stay k inside) full))
full-at made rest picks columns t numbers full k none (inr last) =
    let own : get_or (packed_columns no_column made rest picks columns) k none ≡ struct_column made picks columns =
    get_or_push (picked_columns rest columns) (struct_column made picks columns) none k (as-many rest columns ∙ sym last) in
    let child : child_at (Packed t rest picks) k ≡ Columns t picks =
    child-of-packed t rest picks k
    ∙ get_or_push (map (column_in t) rest) (Columns t picks) Released k (length-map rest (column_in t) ∙ sym last) in
    subst (λ (c : Column). DictsAreFull c.kind (child_at (Packed t rest picks) k)) (sym own)
    (subst (DictsAreFull (struct_column made picks columns).kind) (sym child)
    (subst (MemberDictsAreFull (members (picked_columns picks columns))) (sym (tree_list-trees (map (column_in t) picks)))
    (full-members columns t picks numbers.go full)))

full-packed : (made : List ℕ) (rest picks : List ℕ) (columns : List Column) (t : ArrayTree) → Numbers rest picks columns → FullEach columns t
    → FullEach (packed_columns no_column made rest picks columns) (Packed t rest picks)
full-packed made rest picks columns t numbers full k none small =
    let long = length_push (picked_columns rest columns) (struct_column made picks columns) in
    full-at made rest picks columns t numbers full k none (place-of (length rest) k (omega (arith, small, long, as-many rest columns)))

-- ---- a chunk

-- what the laws say of a chunk of packed columns
pub record PackedChunk (columns kept : List Column) (rest picks : List ℕ) (chunk : ArrayTree) : Type 0 where
  pub ok : ChunkOk (type_of_columns kept) (Packed chunk rest picks)
  pub rows : rows_of (type_of_columns kept) (Packed chunk rest picks) ≡ map (packed rest picks) (rows_of (type_of_columns columns) chunk)
  pub small : Cost (Packed chunk rest picks) ≤ CHUNK
  pub dicts : FullEach columns chunk → FullEach kept (Packed chunk rest picks)

-- and so it is with the columns that are kept
pub packed-chunk : (rest picks : List ℕ) (kept : List ColumnType) (columns : List Column) (chunk : ArrayTree) → ∥ PackFits rest picks kept columns ∥₁
    → ChunkOk (type_of_columns (packed_columns no_column (made_name rest kept) rest picks columns)) (Packed chunk rest picks)
    → rows_of (type_of_columns (packed_columns no_column (made_name rest kept) rest picks columns)) (Packed chunk rest picks)
    ≡ map (packed rest picks) (rows_of (type_of_columns columns) chunk)
    → (ChunkOk (type_of_columns (map column_of kept)) (Packed chunk rest picks) → Cost (Packed chunk rest picks) ≤ CHUNK)
    → PackedChunk columns (map column_of kept) rest picks chunk
packed-chunk rest picks kept columns chunk fits ok rows small =
    let same = kept-are rest picks kept columns fits in
    let lawful = subst (λ (cs : List Column). ChunkOk (type_of_columns cs) (Packed chunk rest picks)) (sym same) ok in
    record {
      ok = lawful;
      rows = ap (λ (cs : List Column). rows_of (type_of_columns cs) (Packed chunk rest picks)) same ∙ rows;
      small = small lawful;
      dicts = λ full. subst (λ (cs : List Column). FullEach cs (Packed chunk rest picks)) (sym same)
          (full-packed (made_name rest kept) rest picks columns chunk (numbers-of rest picks kept columns fits) full);
    }

-- what packing gives of a chunk of these columns and rows
pub pack-gives : (before : List Column) (kept : List ColumnType) (rest picks : List ℕ) (t made : ArrayTree) (rows : List Row) (more : List (List Row))
    (typed : KindTree) (first last : Tally) → IsNext before rows more typed t → PackedChunk before (map column_of kept) rest picks t
    → made ≡ Packed t rest picks → last.blocks ≡ first.blocks → last.nodes ≡ risen first.nodes 2 → first.blocks < 2 ^ 64
    → GivesOut (map column_of kept) (λ _. 0) (λ _. 2) (λ _ _. Unit {0}) (λ _. map (map (packed rest picks)) (rows ∷ more))
    (λ _. map (map (packed rest picks)) more) true first last made
pack-gives before kept rest picks t made rows more typed first last next are is blocks nodes b = record {
  rows = map (packed rest picks) rows;
  ahead = λ _. refl;
  is = record {
    ok = subst (ChunkOk (type_of_columns (map column_of kept))) (sym is) are.ok;
    rows_are = ap (rows_of (type_of_columns (map column_of kept))) is ∙ are.rows ∙ ap (map (packed rest picks)) next.is.rows_are;
    small = let e = ap Cost is in omega (arith, e, are.small);
    dicts = λ k none small. subst (λ t. FullAt (map column_of kept) t k none) (sym is) (are.dicts next.is.dicts k none small);
  };
  live = subst IsLive (sym is) tt;
  gives = tt;
  rests = refl;
  blocks = omega (arith, blocks, b);
  nodes = nodes;
}

-- such columns are few
pub small-chunk : (columns : List Column) (t : ArrayTree) → Kept columns → Cost t ≤ 7 * column_leaves columns + 2 * column_structs columns + 2 → Cost t ≤ CHUNK
small-chunk columns t are cost = omega (arith, cost, are.few, are.few_structs)
