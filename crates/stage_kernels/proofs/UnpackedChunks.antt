-- What unpacking makes of a chunk.
use Rattle.std.proofs.Common.{arith, ◌≡◌, ◌≤◌, ◌<◌, ◌+◌, ◌∙◌, ℕ, zero, suc, ◌^◌, true, List, [], ◌∷◌, length, map, get_or, All, refl, sym, ap, subst}
use Rattle.std.proofs.lemmas.List.{get_or-map, length-map}
use Rattle.data_types.specs.ColumnView.{column_of}
use Rattle.data_types.specs.promise.Parts.{column_values, member_columns}
use Rattle.data_types.specs.Parts.{unpacked, unpacked_columns, IsFields}
use Rattle.data_types.specs.promise.Table.{Column, Row, Columns as StructOf, Members, no_members, more_members}
use Rattle.data_types.specs.promise.Value.{Value, Null, Truth, Whole, Bits, Bytes, Items, Fields}
use Rattle.data_types.specs.declared.kind.ColumnType.{ColumnType}
use Rattle.tree_model.specs.promise.TreeData.{Released}
use Rattle.tree_model.specs.promise.TreeParts.{IsLive, children_of, child_at}
use Rattle.tree_model.proofs.Lists.{tree_list-trees}
use Rattle.raw_array.specs.promise.Members.{ArrayTree, Cost, members_of}
use Rattle.unit_pass.specs.promise.Tally.{risen}
use Rattle.unit_pass.specs.Tally.{Tally}
use Rattle.data_types.specs.promise.KindTrees.{KindTree}
use Rattle.layout_rules.specs.promise.Walk.{ChunkOk, LayoutOk}
use Rattle.layout_rules.specs.promise.Values.{rows_of}
use Rattle.data_types.specs.promise.ColumnKinds.{type_of_columns}
use Rattle.data_types.specs.ColumnKinds.{table_type, type_of_column, types_of_columns}
use Rattle.array_laws.specs.Picking.{Unpacked, cut_children}
use Rattle.stage_model.specs.promise.Typing.{no_column}
use Rattle.stage_model.specs.Typing.{column_at}
use Rattle.stream_face.specs.Lawful.{AreItems, DictsAreFull, HasFields, IsChunkOf, IsTable, MemberDictsAreFull}
use Rattle.stages.specs.Steps.{GivesOut, IsNext}
use Rattle.stages.proofs.CutColumns.{dicts-window}
use Rattle.arr_move.proofs.MovedChildren.{cut-at, cut_to}
use Rattle.stages.proofs.Spliced.{at-behind, at-front, at-middle, each-holds, length-spliced, spliced}
use Rattle.stage_kernels.specs.Unpacks.{UnpackFits}

-- ---- dictionaries

member-dicts : (fields : Members) (cs : List ArrayTree) → MemberDictsAreFull fields cs → (j : ℕ) (none : Column) → j < length (member_columns fields)
    → DictsAreFull (get_or (member_columns fields) j none).kind (get_or cs j Released)
member-dicts no_members cs full j none small = absurd (omega (arith, small))
member-dicts (more_members name kind rest) cs full zero none small = full.0
member-dicts (more_members name kind rest) [] full (suc j) none small = member-dicts rest [] full.1 j none (omega (arith, small))
member-dicts (more_members name kind rest) (c ∷ cs) full (suc j) none small = member-dicts rest cs full.1 j none (omega (arith, small))

abbrev inner_of : ArrayTree → ℕ → ArrayTree
inner_of t place = get_or (cut_children t) place Released

children-are : (t : ArrayTree) (place : ℕ) → children_of (Unpacked t place) ≡ spliced place (cut_children (inner_of t place)) (cut_children t)
children-are t place = tree_list-trees (spliced place (cut_children (inner_of t place)) (cut_children t))

module _ (columns : List Column) (place : ℕ) (fields : Members) (inside : place < length columns) (is_struct : (column_at columns place).kind ≡ StructOf fields)
    (t : ArrayTree) (count : length (children_of t) ≡ length columns)
    (counted : length (children_of (Unpacked t place)) ≡ length (unpacked_columns place fields columns)) where
  cut-count : length (cut_children t) ≡ length columns
  cut-count = length-map (children_of t) (cut_to (members_of t).offset (members_of t).length) ∙ count

  cut-inside : place < length (cut_children t)
  cut-inside = omega (arith, inside, cut-count)

  inner-count : length (cut_children (inner_of t place)) ≡ length (member_columns fields)
  inner-count =
      omega (
        arith,
        length-spliced place (cut_children (inner_of t place)) (cut_children t) cut-inside,
        length-spliced place (member_columns fields) columns inside,
        ap length (children-are t place),
        counted,
        cut-count,
      )

  at-children : (k : ℕ) → child_at (Unpacked t place) k ≡ get_or (spliced place (cut_children (inner_of t place)) (cut_children t)) k Released
  at-children k = ap (λ cs. get_or cs k Released) (children-are t place)

  module _ (full : (k : ℕ) (none : Column) → k < length columns → DictsAreFull (get_or columns k none).kind (child_at t k)) where
    outer-full : (k : ℕ) (none : Column) → k < length columns → DictsAreFull (get_or columns k none).kind (get_or (cut_children t) k Released)
    outer-full k none small =
        subst (DictsAreFull (get_or columns k none).kind) (sym (cut-at (children_of t) (members_of t).offset (members_of t).length k))
        (dicts-window (get_or columns k none).kind (child_at t k) (members_of t).offset (members_of t).length (full k none small))

    struct-full : MemberDictsAreFull fields (children_of (inner_of t place))
    struct-full = subst (λ kind. DictsAreFull kind (inner_of t place)) is_struct (outer-full place no_column inside)

    inner-full : (j : ℕ) (none : Column) → j < length (member_columns fields)
        → DictsAreFull (get_or (member_columns fields) j none).kind (get_or (cut_children (inner_of t place)) j Released)
    inner-full j none small =
        let inner = inner_of t place in
        let kind = (get_or (member_columns fields) j none).kind in
        subst (DictsAreFull kind) (sym (cut-at (children_of inner) (members_of inner).offset (members_of inner).length j))
        (dicts-window kind (child_at inner j) (members_of inner).offset (members_of inner).length
        (member-dicts fields (children_of inner) struct-full j none small))

    pub dicts-unpacked : (k : ℕ) (none : Column) → k < length (unpacked_columns place fields columns)
        → DictsAreFull (get_or (unpacked_columns place fields columns) k none).kind (child_at (Unpacked t place) k)
    dicts-unpacked =
        let inner = cut_children (inner_of t place) in
        let cs = cut_children t in
        each-holds (λ (c : Column) (u : ArrayTree). DictsAreFull c.kind u) place (member_columns fields) columns inside
        (child_at (Unpacked t place)) (λ k. get_or cs k Released) (λ j. get_or inner j Released)
        (λ k before. at-children k ∙ at-front place inner cs cut-inside k Released before)
        (λ j small. at-children (place + j) ∙ at-middle place inner cs cut-inside j Released (let e = inner-count in omega (arith, e, small)))
        (λ j. ap (λ n. child_at (Unpacked t place) (place + n + j)) (sym inner-count) ∙ at-children (place + length inner + j)
        ∙ at-behind place inner cs cut-inside j Released)
        outer-full inner-full

-- ---- rows without null structs

has-fields : (count : ℕ) (v : Value) → HasFields count v → IsFields v
has-fields count Null has = has
has-fields count (Truth b) has = has
has-fields count (Whole z) has = has
has-fields count (Bits n) has = has
has-fields count (Bytes bs) has = has
has-fields count (Items vs) has = has
has-fields count (Fields vs) has = tt

pub all-fields : (columns : List Column) (place : ℕ) (fields : Members) (rows : List Row) → place < length columns
    → (column_at columns place).kind ≡ StructOf fields → IsTable columns rows → All (λ row. IsFields (get_or row place Null)) rows
all-fields columns place fields rows inside is_struct table = λ k none small.
    let items = subst (λ kind. AreItems kind (column_values place rows)) is_struct (table.items place no_column inside) in
    let one = get_or-map (λ (row : Row). get_or row place Null) rows k none Null small in
    let s : k < length (column_values place rows) = let e = length-map rows (λ (row : Row). get_or row place Null) in omega (arith, e, small) in
    subst IsFields one (has-fields (length (member_columns fields)) (get_or (column_values place rows) k Null) (items.0 k Null s))

-- ---- answers

-- what the laws say of a chunk with a struct's columns in its place
pub record UnpackedChunk (place : ℕ) (fields : Members) (columns : List Column) (chunk : ArrayTree) : Type 0 where
  pub ok : ChunkOk (type_of_columns (unpacked_columns place fields columns)) (Unpacked chunk place)
  pub rows : All (λ row. IsFields (get_or row place Null)) (rows_of (type_of_columns columns) chunk)
      → rows_of (type_of_columns (unpacked_columns place fields columns)) (Unpacked chunk place)
      ≡ map (unpacked place) (rows_of (type_of_columns columns) chunk)
  pub count : length (children_of chunk) ≡ length columns
  pub counted : length (children_of (Unpacked chunk place)) ≡ length (unpacked_columns place fields columns)

-- the laws of unpacked columns and of lawful structs, at a chunk
pub made_of : (place : ℕ) (fields : Members) (columns : List Column) (chunk : ArrayTree) → ChunkOk (type_of_columns columns) chunk
    → ((types : List KindTree) (t : ArrayTree) → LayoutOk (table_type types) t → length (children_of t) ≡ length types)
    → ChunkOk (type_of_columns (unpacked_columns place fields columns)) (Unpacked chunk place)
    → (All (λ row. IsFields (get_or row place Null)) (rows_of (type_of_columns columns) chunk)
    → rows_of (type_of_columns (unpacked_columns place fields columns)) (Unpacked chunk place) ≡ map (unpacked place) (rows_of (type_of_columns columns) chunk))
    → UnpackedChunk place fields columns chunk
made_of place fields columns chunk ok count made rows =
    let after = unpacked_columns place fields columns in
    record {
      ok = made;
      rows = rows;
      count = count (types_of_columns columns) chunk ok.0 ∙ length-map columns type_of_column;
      counted = count (types_of_columns after) (Unpacked chunk place) made.0 ∙ length-map after type_of_column;
    }

chunk-of : (place : ℕ) (fields : Members) (columns : List Column) (rows : List Row) (before out : ArrayTree) → place < length columns
    → (column_at columns place).kind ≡ StructOf fields → UnpackedChunk place fields columns before → IsTable columns rows → IsChunkOf columns rows before
    → out ≡ Unpacked before place → Cost out ≤ Cost before
    → IsChunkOf (unpacked_columns place fields columns) (map (unpacked place) rows) out
chunk-of place fields columns rows before out inside is_struct made table chunk is cost =
    let after = unpacked_columns place fields columns in
    record {
      ok = subst (ChunkOk (type_of_columns after)) (sym is) made.ok;
      rows_are = ap (rows_of (type_of_columns after)) is
          ∙ made.rows (subst (All (λ row. IsFields (get_or row place Null))) (sym chunk.rows_are) (all-fields columns place fields rows inside is_struct table))
          ∙ ap (map (unpacked place)) chunk.rows_are;
      small = let c = chunk.small in omega (arith, cost, c);
      dicts = λ k none small.
          subst (λ t. DictsAreFull (get_or after k none).kind (child_at t k)) (sym is)
          (dicts-unpacked columns place fields inside is_struct before made.count made.counted chunk.dicts k none small);
    }

-- what unpacking gives of a chunk of these columns and rows
pub unpack-gives : (before : List Column) (kept : List ColumnType) (place : ℕ) (t made : ArrayTree) (rows : List Row) (more : List (List Row))
    (typed : KindTree) (first last : Tally) → IsNext before rows more typed t → (fit : UnpackFits place kept before)
    → UnpackedChunk place fit.fields before t → made ≡ Unpacked t place → Cost made ≤ Cost t → last.blocks ≡ first.blocks
    → last.nodes ≡ risen first.nodes 1 → first.blocks < 2 ^ 64
    → GivesOut (map column_of kept) (λ _. 0) (λ _. 1) (λ _ _. Unit {0}) (λ _. map (map (unpacked place)) (rows ∷ more))
    (λ _. map (map (unpacked place)) more) true first last made
unpack-gives before kept place t made rows more typed first last next fit are is cost blocks nodes b = record {
  rows = map (unpacked place) rows;
  ahead = λ _. refl;
  is = subst (λ cs. IsChunkOf cs (map (unpacked place) rows) made) (sym fit.columns)
      (chunk-of place fit.fields before rows t made fit.inside fit.is_struct are next.tables.tables.0 next.is is cost);
  live = subst IsLive (sym is) tt;
  gives = tt;
  rests = refl;
  blocks = omega (arith, blocks, b);
  nodes = nodes;
}
