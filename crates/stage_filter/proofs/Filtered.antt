-- What a filter gives of a chunk.
use Rattle.std.proofs.Common.{arith, ◌≡◌, ◌∙◌, ◌≤◌, ◌<◌, ◌+◌, ◌*◌, ◌^◌, ℕ, List, [], ◌∷◌, length, map, get_or, All}
use Rattle.std.proofs.Common.{refl, sym, ap, subst, true}
use Rattle.std.specs.Prelude.{Some}
use Rattle.std.proofs.Math.Logic.{∥∥₁_elim}
use Rattle.std.proofs.Props.{props}
use Rattle.data_types.specs.ColumnForms.{AreColumnKinds}
use Rattle.data_types.specs.ColumnView.{column_of}
use Rattle.data_types.specs.promise.Table.{Column, Row, Kind, Flat, Dict, Columns, Members, no_members, more_members}
use Rattle.data_types.specs.promise.Value.{Null}
use Rattle.data_types.specs.declared.kind.ColumnType.{ColumnType}
use Rattle.tree_model.specs.promise.TreeParts.{IsLive, child_at}
use Rattle.unit_pass.specs.promise.Tally.{risen}
use Rattle.unit_pass.specs.Tally.{Tally}
use Rattle.unit_pass.specs.declared.pass.TheConstants.{CHUNK}
use Rattle.raw_array.specs.promise.Members.{ArrayTree, Cost}
use Rattle.raw_array.specs.Members.{Like}
use Rattle.data_types.specs.promise.ColumnKinds.{type_of_columns}
use Rattle.data_types.specs.promise.KindTrees.{KindTree}
use Rattle.data_types.specs.KindTrees.{TypedOk}
use Rattle.layout_rules.specs.promise.Values.{rows_of}
use Rattle.layout_rules.specs.promise.Walk.{ChunkOk}
use Rattle.stage_model.specs.promise.Stages.{passes, rows_after}
use Rattle.stage_model.specs.promise.Traffic.{Moved, made_blocks, made_nodes, table_nodes}
use Rattle.stage_model.specs.Traffic.{table_blocks}
use Rattle.stage_model.specs.declared.stage.Const.{Const}
use Rattle.stage_model.specs.declared.stage.Step.TheVariants as steps
use Rattle.stage_model.specs.declared.stage.Test.{Test}
use Rattle.stream_face.specs.Lawful.{DictsAreFull, DictsHaveBytes, IsChunkOf, IsTable, LawfulColumns, LawfulTables, column_leaves, leaves, member_leaves}
use Rattle.stages.specs.Steps.{GivesOut, IsNext}
use Rattle.stages.specs.Structs.{column_structs, member_structs, most_structs, structs}
use Rattle.stages.proofs.ColumnSets.{same_columns}
use Rattle.stage_filter.specs.Filters.{CanFilter, FilterFits, passing_numbers, passing_rows}
use Rattle.stage_filter.specs.Kept.{rows_at}
use Rattle.stage_filter.specs.KeptTrees.{kept_chunk}
use Rattle.stage_filter.specs.Moving.{CanMoveRows}
use Rattle.stage_filter.specs.Plain.{most_cost, most_of_columns, most_of_members}
use Rattle.stage_filter.proofs.LawTypes.{RootLaw}
use Rattle.stage_filter.proofs.LikeChunks.{LikeLaws, can-like}
use Rattle.stage_filter.proofs.Passing.{passing}
use Rattle.stage_filter.proofs.Sifted.{lawful-filtered}

-- ---- what a filter was made for

pub same : (column : ℕ) (kept : List ColumnType) (before : List Column) → ∥ FilterFits column kept before ∥₁ → map column_of kept ≡ before
same column kept before fits = same_columns (map column_of kept) before (λ (f : FilterFits column kept before). f.columns) fits

within : (column : ℕ) (kept : List ColumnType) (before : List Column) → ∥ FilterFits column kept before ∥₁ → column < length before
within column kept before fits = ∥∥₁_elim fits (hlevel props) (λ f. f.within)

few-structs : (column : ℕ) (kept : List ColumnType) (before : List Column) → ∥ FilterFits column kept before ∥₁ → column_structs before ≤ most_structs
few-structs column kept before fits = ∥∥₁_elim fits (hlevel props) (λ f. f.few)

-- ---- the units

mutual
  most-kind : (kind : Kind) → most_cost kind ≤ 4 * leaves kind + structs kind
  most-kind (Flat kind) = omega arith
  most-kind (Dict kind) = omega arith
  most-kind (Columns ms) = omega (arith, most-members ms)

  most-members : (ms : Members) → most_of_members ms ≤ 4 * member_leaves ms + member_structs ms
  most-members no_members = omega arith
  most-members (more_members name kind rest) = omega (arith, most-kind kind, most-members rest)

most-columns : (columns : List Column) → most_of_columns columns ≤ 4 * column_leaves columns + column_structs columns
most-columns [] = omega arith
most-columns (c ∷ cs) = omega (arith, most-kind c.kind, most-columns cs)

-- ---- a chunk

-- what a chunk that a lawful stream gives has
pub record IsReady (column : ℕ) (columns : List Column) (rows : List Row) (out : ArrayTree) : Type 0 where
  pub can : CanFilter column columns out
  pub rows_are : rows_of (type_of_columns columns) out ≡ rows
  pub table : IsTable columns rows
  pub few : length rows ≤ 2 ^ 30
  pub small : Cost out ≤ CHUNK
  pub most : 1 + most_of_columns columns ≤ CHUNK
  pub dicts : All (λ c. DictsHaveBytes c.kind) columns
  pub leaves : column_leaves columns ≤ 4096
  pub structs : column_structs columns ≤ most_structs

pub ready : (column : ℕ) (kept : List ColumnType) (before : List Column) (rows : List Row) (more : List (List Row)) (typed : KindTree) (chunk : ArrayTree)
    → IsNext before rows more typed chunk → ∥ FilterFits column kept before ∥₁ → IsReady column (map column_of kept) rows chunk
ready column kept before rows more typed chunk next fits =
    let columns = next.columns in
    let few : length rows ≤ 2 ^ 30 = omega (arith, next.tables.rows) in
    let table = next.tables.tables.0 in
    let most = most-columns before in
    let structs = few-structs column kept before fits in
    let types = subst TypedOk next.typed_is next.types in
    subst (λ (cs : List Column). IsReady column cs rows chunk) (sym (same column kept before fits))
    (record {
      can = record {
        within = within column kept before fits;
        kinds = columns.kinds;
        not_deep = omega (arith, types.0);
        ok = next.is.ok;
        full = next.is.dicts;
        table = subst (IsTable before) (sym next.is.rows_are) table;
        small = omega (arith, most, structs, columns.few);
        few = let e = ap (length {A = Row}) next.is.rows_are in omega (arith, e, few);
      };
      rows_are = next.is.rows_are;
      table = table;
      few = few;
      small = next.is.small;
      most = omega (arith, most, structs, columns.few);
      dicts = columns.dicts;
      leaves = columns.few;
      structs = structs;
    })

-- what workers leave of a chunk is as ready as the chunk was
pub ready-like : LikeLaws → (column : ℕ) (columns : List Column) (rows : List Row) (out left : ArrayTree)
    → Like out left → IsReady column columns rows out → IsReady column columns rows left
ready-like laws column columns rows out left like is = record {
  can = can-like laws column columns out left like is.can;
  rows_are = sym (laws.rows (type_of_columns columns) out left like) ∙ is.rows_are;
  table = is.table;
  few = is.few;
  small = let same = laws.cost out left like in omega (arith, same, is.small);
  most = is.most;
  dicts = is.dicts;
  leaves = is.leaves;
  structs = is.structs;
}

-- ---- what it gives

abbrev pub kept_rows : ℕ → Test → Const → List Row → List Row
kept_rows column test constant rows = rows_after (steps.Filter column test constant) rows

-- the laws of the chunks that are made
abbrev MakesChunk : Type 0
MakesChunk = (columns : List Column) (chunk : ArrayTree) (kept : List ℕ) → CanMoveRows columns chunk 0 kept
    → ChunkOk (type_of_columns columns) (kept_chunk columns chunk kept)

abbrev MakesRows : Type 0
MakesRows = (columns : List Column) (chunk : ArrayTree) (kept : List ℕ) → CanMoveRows columns chunk 0 kept
    → rows_of (type_of_columns columns) (kept_chunk columns chunk kept) ≡ rows_at (type_of_columns columns) chunk 0 kept

abbrev MakesFull : Type 0
MakesFull = (columns : List Column) (chunk : ArrayTree) (kept : List ℕ) (k : ℕ) (none : Column) → CanMoveRows columns chunk 0 kept
    → k < length columns → DictsAreFull (get_or columns k none).kind (child_at (kept_chunk columns chunk kept) k)

abbrev AreSmall : Type 0
AreSmall = (columns : List Column) (t : ArrayTree) → All (λ c. AreColumnKinds c.kind) columns → All (λ c. DictsHaveBytes c.kind) columns
    → ChunkOk (type_of_columns columns) t → Cost t ≤ 7 * column_leaves columns + 2 * column_structs columns + 2

-- the chunk of the rows that pass
abbrev pub filtered_chunk : ℕ → Test → Const → List Column → ArrayTree → ArrayTree
filtered_chunk column test constant columns out = kept_chunk columns out (passing_numbers column test constant (type_of_columns columns) out)

-- the same chunk, by the columns that the code has and the chunk that it moved
pub same-chunk : (column : ℕ) (test : Test) (constant : Const) (own columns : List Column) (moved out middle made : ArrayTree) → own ≡ columns
    → moved ≡ out → made ≡ middle → middle ≡ filtered_chunk column test constant own moved → made ≡ filtered_chunk column test constant columns out
same-chunk column test constant own columns moved out middle made same is put tree =
    put ∙ tree ∙ (λ i. filtered_chunk column test constant (same i) (is i))

is-chunk : MakesChunk → MakesRows → MakesFull → AreSmall → RootLaw → (column : ℕ) (test : Test) (constant : Const) (columns : List Column) (rows : List Row)
    (out made : ArrayTree)
    → IsReady column columns rows out → made ≡ filtered_chunk column test constant columns out
    → IsChunkOf columns (kept_rows column test constant rows) made
is-chunk makes gives full small root column test constant columns rows out made is tree =
    let numbers = passing_numbers column test constant (type_of_columns columns) out in
    let pass = passing root column test constant columns out numbers is.can refl in
    let ok : ChunkOk (type_of_columns columns) made = subst (ChunkOk (type_of_columns columns)) (sym tree) (makes columns out numbers pass.can) in
    record {
      ok = ok;
      rows_are = ap (rows_of (type_of_columns columns)) tree ∙ gives columns out numbers pass.can ∙ pass.rows ∙ ap (kept_rows column test constant) is.rows_are;
      small = omega (arith, small columns made is.can.kinds is.dicts ok, is.leaves, is.structs);
      dicts = λ k none inside.
          subst (λ (t : ArrayTree). DictsAreFull (get_or columns k none).kind (child_at t k)) (sym tree) (full columns out numbers k none pass.can inside);
    }

-- what a filter gives of a chunk
pub filter-gives : MakesChunk → MakesRows → MakesFull → AreSmall → RootLaw → (column : ℕ) (test : Test) (constant : Const) (columns : List Column)
    (t left made : ArrayTree) (rows : List Row) (more : List (List Row)) (first last : Tally) → IsReady column columns rows t
    → IsReady column columns rows left → made ≡ filtered_chunk column test constant columns left
    → last.blocks ≡ risen first.blocks (table_blocks Moved columns (passing_rows column test constant columns t))
    → last.nodes ≡ risen first.nodes (table_nodes Moved columns)
    → GivesOut columns (made_blocks (Some (steps.Filter column test constant)) columns)
    (λ rows. made_nodes (Some (steps.Filter column test constant)) columns) (λ _ _. Unit {0})
    (λ _. map (kept_rows column test constant) (rows ∷ more)) (λ _. map (kept_rows column test constant) more) true first last made
filter-gives makes gives full small root column test constant columns t left made rows more first last was is tree blocks nodes = record {
  rows = kept_rows column test constant rows;
  ahead = λ _. refl;
  is = is-chunk makes gives full small root column test constant columns rows left made is tree;
  live = subst IsLive (sym tree) tt;
  gives = tt;
  rests = refl;
  blocks = blocks ∙ ap (λ (rs : List Row). risen first.blocks (table_blocks Moved columns (kept_rows column test constant rs))) was.rows_are;
  nodes = nodes;
}

-- ---- the laws

pub filter-columns : (column : ℕ) (kept : List ColumnType) (before : List Column) → ∥ FilterFits column kept before ∥₁ → LawfulColumns before
    → LawfulColumns (map column_of kept)
filter-columns column kept before fits lawful = subst LawfulColumns (sym (same column kept before fits)) lawful

pub filter-tables : (column : ℕ) (test : Test) (constant : Const) (kept : List ColumnType) (before : List Column) (ahead : List (List Row))
    → ∥ FilterFits column kept before ∥₁ → LawfulTables before ahead
    → LawfulTables (map column_of kept) (map (kept_rows column test constant) ahead)
filter-tables column test constant kept before ahead fits lawful =
    subst (λ (cs : List Column). LawfulTables cs (map (kept_rows column test constant) ahead)) (sym (same column kept before fits))
    (lawful-filtered before (λ row. passes test constant (get_or row column Null)) ahead lawful)
