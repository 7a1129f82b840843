-- The arrays of some items of lawful arrays are lawful, and have these items.
use Rattle.std.proofs.Common.{◌≡◌, ◌∙◌, ◌≤◌, ◌<◌, ◌+◌, ℕ, zero, suc, List, [], ◌∷◌, length, map, drop, get_or, All, None, refl, sym, ap, subst, arith}
use Rattle.std.proofs.lemmas.List.{length-map}
use Rattle.data_types.specs.promise.ColumnView.{members}
use Rattle.data_types.specs.promise.Parts.{column_values, member_columns}
use Rattle.data_types.specs.promise.Table.{Column, Row, Kind, Flat, Dict, Columns, Members, no_members, more_members}
use Rattle.data_types.specs.promise.Value.{Value, Fields, values}
use Rattle.data_types.specs.declared.kind.DataType.{DataType}
use Rattle.data_types.specs.declared.kind.DataType.TheVariants as kinds
use Rattle.tree_model.specs.promise.TreeData.{Live, Released, Trees, absent, trees, tree_list}
use Rattle.tree_model.specs.promise.TreeParts.{IsLive, child_at, children_of}
use Rattle.tree_model.specs.Tree.{dictionary_at}
use Rattle.tree_model.proofs.Lists.{tree_list-trees, trees-tree_list}
use Rattle.raw_array.specs.promise.Members.{ArrayTree, members_of}
use Rattle.data_types.specs.promise.ColumnKinds.{type_of_columns, type_of_kind, types_of_members}
use Rattle.data_types.specs.ColumnKinds.{table_type, type_of_column, types_of_columns}
use Rattle.data_types.specs.promise.KindTrees.{KindTree}
use Rattle.layout_rules.specs.promise.Layout.{first}
use Rattle.layout_rules.specs.promise.Values.{field_items, readers, row_items, rows_of, tree_items, value_at, values_of}
use Rattle.layout_rules.specs.promise.Walk.{ChunkOk, LayoutOk}
use Rattle.arr_export.specs.promise.ArrayTrees.{table_tree}
use Rattle.arr_export.specs.ArrayTrees.{AreLawful, HaveValues, flat_type, rows_of_values}
use Rattle.stream_face.specs.Lawful.{DictsAreFull, MemberDictsAreFull}
use Rattle.column_fill.specs.Gathered.{values_at}
use Rattle.stage_filter.specs.Kept.{rows_at}
use Rattle.stage_filter.specs.KeptTrees.{index_type, indices_at, kept_chunk, kept_columns, kept_members, kept_struct, kept_tree}
use Rattle.stage_filter.specs.Moving.{CanMove, CanMoveRows}
use Rattle.stage_filter.proofs.ChunkLaw.{fields-back, struct-values}
use Rattle.stage_filter.proofs.ChunkRows.{all_values, rows-back, values-long}
use Rattle.stage_filter.proofs.IndexedItems.{are-indices, has-dictionary, indices-fit, looked-up}
use Rattle.stage_filter.proofs.KeptColumns.{live-type}
use Rattle.stage_filter.proofs.KeptShapes.{long-kept, same-at}
use Rattle.stage_filter.proofs.LawTypes.{FlatLawful, FlatValued, IndexLawful, IndexValued, ItemsLaw, PartsLaw, RootLaw, TableLawful, TableValued}
use Rattle.stage_filter.proofs.Steps.{kept-are, later-child, of-members, step}
use Rattle.stage_filter.proofs.StructColumns.{columns-back, type-is}
use Rattle.column_fill.proofs.ValuesTaken.{values-fit}

-- ---- rows are as wide as the columns are many

width : (types : List KindTree) (children : List ArrayTree) (j : ℕ) → length children ≡ length types
    → length (field_items (readers (trees types)) children j) ≡ length types
width [] children j same = refl
width (t ∷ types) [] j same = absurd (omega (arith, same))
width (t ∷ types) (c ∷ children) j same = ap suc (width types children j (omega (arith, same)))

row-width : (types : List KindTree) (array : ArrayTree) (i : ℕ) → IsLive array → length (children_of array) ≡ length types
    → length (row_items (table_type types) array i) ≡ length types
row-width types Released i live same = absurd live
row-width types (Live a children dictionary) i live same = width types (tree_list children) (first a + i) same

row-widths : (types : List KindTree) (array : ArrayTree) (start count : ℕ) (kept : List ℕ) → IsLive array → length (children_of array) ≡ length types
    → length types ≡ count → All (λ (row : Row). length row ≡ count) (rows_at (table_type types) array start kept)
row-widths types array start count [] live same many k d small = absurd (omega (arith, small))
row-widths types array start count (i ∷ kept) live same many zero d small = row-width types array (start + i) live same ∙ many
row-widths types array start count (i ∷ kept) live same many (suc k) d small = row-widths types array start count kept live same many k d (omega (arith, small))

-- ---- the columns of a struct, each with its values

-- of each child items can be moved, and they are the values of a column of the rows
record IsFrom (kind : Kind) (child : ArrayTree) (start : ℕ) (kept : List ℕ) (column : List Value) : Type 0 where
  pub can : CanMove kind child start kept
  pub values_are : values_at (type_of_kind kind) child start kept ≡ column

abbrev AreFrom : ℕ → List Column → List ArrayTree → ℕ → List ℕ → List Row → Type 0
AreFrom place columns children start kept rows =
    (k : ℕ) (none : Column) → k < length columns
    → IsFrom (get_or columns k none).kind (get_or children k Released) start kept (column_values (place + k) rows)

from-first : (place : ℕ) (c : Column) (cs : List Column) (children : List ArrayTree) (start : ℕ) (kept : List ℕ) (rows : List Row)
    → AreFrom place (c ∷ cs) children start kept rows → IsFrom c.kind (get_or children 0 Released) start kept (column_values place rows)
from-first place c cs children start kept rows are =
    let here : place + 0 ≡ place = omega arith in
    subst (λ n. IsFrom c.kind (get_or children 0 Released) start kept (column_values n rows)) here (are 0 c (omega arith))

from-rest : (place : ℕ) (c : Column) (cs : List Column) (children : List ArrayTree) (start : ℕ) (kept : List ℕ) (rows : List Row)
    → AreFrom place (c ∷ cs) children start kept rows → AreFrom (place + 1) cs (drop 1 children) start kept rows
from-rest place c cs children start kept rows are k none small =
    let here : place + suc k ≡ place + 1 + k = omega arith in
    subst (λ n. IsFrom (get_or cs k none).kind (get_or (drop 1 children) k Released) start kept (column_values n rows)) here
    (subst (λ (t : ArrayTree). IsFrom (get_or cs k none).kind t start kept (column_values (place + suc k) rows)) (sym (later-child children k))
    (are (suc k) none (omega (arith, small))))

long-members : (ms : Members) (children : List ArrayTree) (start : ℕ) (kept : List ℕ)
    → All (λ column. length kept ≤ tree_items column) (kept_members ms children start kept)
long-members no_members children start kept k d small = absurd (omega (arith, small))
long-members (more_members name kind rest) children start kept zero d small = omega (arith, long-kept kind (get_or children 0 Released) start kept)
long-members (more_members name kind rest) children start kept (suc k) d small =
    long-members rest (drop 1 children) start kept k d (omega (arith, small))

module _ (flat_lawful : FlatLawful) (flat_valued : FlatValued) (index_lawful : IndexLawful) (index_valued : IndexValued)
    (table_lawful : TableLawful) (table_valued : TableValued) (root : RootLaw) (parts : PartsLaw) (items : ItemsLaw) where
  are-from : (columns : List Column) (array : ArrayTree) (start : ℕ) (kept : List ℕ) → CanMoveRows columns array start kept
      → AreFrom 0 columns (children_of array) (first (members_of array) + start) kept (rows_at (type_of_columns columns) array start kept)
  are-from columns array start kept can k none small =
      let c = get_or columns k none in
      let one = step root parts items columns k c array start kept can small (same-at columns k c none small) in
      let here : 0 + k ≡ k = omega arith in
      record {
        can = one.can;
        values_are = one.values ∙ ap (λ n. column_values n (rows_at (type_of_columns columns) array start kept)) (sym here);
      }

  -- ---- lawful

  mutual
    lawful-kept : (kind : Kind) (array : ArrayTree) (start : ℕ) (kept : List ℕ) → CanMove kind array start kept
        → LayoutOk (type_of_kind kind) (kept_tree kind array start kept)
    lawful-kept (Flat kind) array start kept can =
        let vs = values_at (type_of_kind (Flat kind)) array start kept in
        let long = length-map kept (λ i. value_at (type_of_kind (Flat kind)) array (start + i)) in
        flat_lawful kind vs (values-fit kind vs can.kinds can.items (omega (arith, long, can.few)))
    lawful-kept (Dict kind) array start kept can =
        let has = has-dictionary root parts items kind array can.ok in
        index_lawful index_type (indices_at array start kept) (flat_type kind None) (dictionary_at array)
        (indices-fit kind array start kept has can.inside can.few)
        (are-indices kind array start kept has can.inside) has.ok
    lawful-kept (Columns ms) array start kept can =
        let inner = first (members_of array) + start in
        let types = tree_list (types_of_members ms) in
        let struct = of-members ms array start kept can in
        let rows = rows_at (type_of_columns (member_columns ms)) array start kept in
        let chunk =
        table_lawful types (kept_members ms (children_of array) inner kept) (length kept)
        (lawful-members ms 0 (children_of array) inner kept rows (are-from (member_columns ms) array start kept struct.can))
        (long-members ms (children_of array) inner kept) (omega (arith, can.few)) in
        subst (λ (ts : Trees DataType). LayoutOk (Live kinds.Struct ts absent) (table_tree (length kept) (kept_members ms (children_of array) inner kept)))
        (trees-tree_list (types_of_members ms)) chunk.0

    lawful-members : (ms : Members) (place : ℕ) (children : List ArrayTree) (start : ℕ) (kept : List ℕ) (rows : List Row)
        → AreFrom place (member_columns ms) children start kept rows
        → AreLawful (tree_list (types_of_members ms)) (kept_members ms children start kept)
    lawful-members no_members place children start kept rows are = tt
    lawful-members (more_members name kind rest) place children start kept rows are =
        let c : Column = record { name = name; kind = kind } in (
          live-type kind,
          lawful-kept kind (get_or children 0 Released) start kept (from-first place c (member_columns rest) children start kept rows are).can,
          lawful-members rest (place + 1) (drop 1 children) start kept rows (from-rest place c (member_columns rest) children start kept rows are),
        )

  -- ---- with these values

  -- the rows of a struct, from the values of its columns
  rows-by : (ms : Members) (array : ArrayTree) (start : ℕ) (kept : List ℕ) → CanMoveRows (member_columns ms) array start kept
      → HaveValues (tree_list (types_of_members ms)) (kept_members ms (children_of array) (first (members_of array) + start) kept)
      (all_values 0 (member_columns ms) (rows_at (type_of_columns (member_columns ms)) array start kept))
      → rows_of (type_of_columns (member_columns ms)) (table_tree (length kept) (kept_members ms (children_of array) (first (members_of array) + start) kept))
      ≡ rows_at (type_of_columns (member_columns ms)) array start kept
  rows-by ms array start kept can have =
      let inner = first (members_of array) + start in
      let typed = type_of_columns (member_columns ms) in
      let types = tree_list (types_of_members ms) in
      let columns = kept_members ms (children_of array) inner kept in
      let rows = rows_at typed array start kept in
      let node = root typed array tt can.ok in
      let same : typed ≡ table_type types =
      sym (type-is ms) ∙ sym (ap (λ (ts : Trees DataType). Live kinds.Struct ts absent) (trees-tree_list (types_of_members ms))) in
      let count : length rows ≡ length kept = length-map kept (λ i. row_items typed array (start + i)) in
      let all = all_values 0 (member_columns ms) rows in
      let long : All (λ (vs : List Value). length kept ≤ length vs) all =
      subst (λ n. All (λ (vs : List Value). n ≤ length vs) all) count (values-long 0 (member_columns ms) rows) in
      let read : rows_of (table_type types) (table_tree (length kept) columns) ≡ rows_of_values all (length kept) =
      table_valued types columns all (length kept) have long in
      let many = ap (length {A = KindTree}) (tree_list-trees (types_of_columns (member_columns ms))) in
      let wide = row-widths (types_of_columns (member_columns ms)) array start (length (member_columns ms)) kept node.live (node.kids ∙ many)
      (length-map (member_columns ms) type_of_column) in
      ap (λ (t : KindTree). rows_of t (table_tree (length kept) columns)) same
      ∙ read ∙ ap (rows_of_values all) (sym count) ∙ rows-back (member_columns ms) rows wide

  mutual
    valued-kept : (kind : Kind) (array : ArrayTree) (start : ℕ) (kept : List ℕ) → CanMove kind array start kept
        → values_of (type_of_kind kind) (kept_tree kind array start kept) ≡ values_at (type_of_kind kind) array start kept
    valued-kept (Flat kind) array start kept can =
        let vs = values_at (type_of_kind (Flat kind)) array start kept in
        let long = length-map kept (λ i. value_at (type_of_kind (Flat kind)) array (start + i)) in
        flat_valued kind vs (values-fit kind vs can.kinds can.items (omega (arith, long, can.few)))
    valued-kept (Dict kind) array start kept can =
        let has = has-dictionary root parts items kind array can.ok in
        index_valued index_type (indices_at array start kept) (flat_type kind None) (dictionary_at array)
        (indices-fit kind array start kept has can.inside can.few)
        (are-indices kind array start kept has can.inside)
        ∙ looked-up kind array start kept has can.inside
    valued-kept (Columns ms) array start kept can =
        let inner = first (members_of array) + start in
        let struct = of-members ms array start kept can in
        let vs = values_at (type_of_kind (Columns ms)) array start kept in
        let columns = kept_members ms (children_of array) inner kept in
        let rows = rows_at (type_of_columns (member_columns ms)) array start kept in
        let have = valued-members ms 0 (children_of array) inner kept rows (are-from (member_columns ms) array start kept struct.can) in
        let to_fields : List Row → List Value = map (λ (row : Row). Fields (values row)) in
        ap (λ (t : KindTree). values_of t (table_tree (length kept) columns)) (type-is ms)
        ∙ struct-values (types_of_columns (member_columns ms)) columns (length kept)
        ∙ ap to_fields (rows-by ms array start kept struct.can have ∙ struct.rows)
        ∙ fields-back (length (member_columns ms)) vs can.items.0

    valued-members : (ms : Members) (place : ℕ) (children : List ArrayTree) (start : ℕ) (kept : List ℕ) (rows : List Row)
        → AreFrom place (member_columns ms) children start kept rows
        → HaveValues (tree_list (types_of_members ms)) (kept_members ms children start kept) (all_values place (member_columns ms) rows)
    valued-members no_members place children start kept rows are = tt
    valued-members (more_members name kind rest) place children start kept rows are =
        let c : Column = record { name = name; kind = kind } in
        let one = from-first place c (member_columns rest) children start kept rows are in (
          valued-kept kind (get_or children 0 Released) start kept one.can ∙ one.values_are,
          valued-members rest (place + 1) (drop 1 children) start kept rows (from-rest place c (member_columns rest) children start kept rows are),
        )

  -- ---- the chunk

  chunk-members : (ms : Members) (array : ArrayTree) (start : ℕ) (kept : List ℕ) → CanMoveRows (member_columns ms) array start kept
      → ChunkOk (type_of_columns (member_columns ms)) (kept_struct (member_columns ms) array start kept)
  chunk-members ms array start kept can =
      let inner = first (members_of array) + start in
      let types = tree_list (types_of_members ms) in
      let columns = kept_members ms (children_of array) inner kept in
      let rows = rows_at (type_of_columns (member_columns ms)) array start kept in
      let chunk =
      table_lawful types columns (length kept)
      (lawful-members ms 0 (children_of array) inner kept rows (are-from (member_columns ms) array start kept can))
      (long-members ms (children_of array) inner kept) (omega (arith, can.few)) in
      let same : table_type types ≡ type_of_columns (member_columns ms) =
      ap (λ (ts : Trees DataType). Live kinds.Struct ts absent) (trees-tree_list (types_of_members ms)) ∙ type-is ms in
      subst (λ (t : KindTree). ChunkOk t (kept_struct (member_columns ms) array start kept)) same
      (subst (λ (ts : List ArrayTree). ChunkOk (table_type types) (table_tree (length kept) ts)) (kept-are ms (children_of array) inner kept) chunk)

  rows-struct : (ms : Members) (array : ArrayTree) (start : ℕ) (kept : List ℕ) → CanMoveRows (member_columns ms) array start kept
      → rows_of (type_of_columns (member_columns ms)) (kept_struct (member_columns ms) array start kept)
      ≡ rows_at (type_of_columns (member_columns ms)) array start kept
  rows-struct ms array start kept can =
      ap (λ (ts : List ArrayTree). rows_of (type_of_columns (member_columns ms)) (table_tree (length kept) ts))
      (sym (kept-are ms (children_of array) (first (members_of array) + start) kept))
      ∙ rows-by ms array start kept can
      (valued-members ms 0 (children_of array) (first (members_of array) + start) kept (rows_at (type_of_columns (member_columns ms)) array start kept)
      (are-from (member_columns ms) array start kept can))

  pub kept-lawful : (columns : List Column) (chunk : ArrayTree) (kept : List ℕ) → CanMoveRows columns chunk 0 kept
      → ChunkOk (type_of_columns columns) (kept_chunk columns chunk kept)
  kept-lawful columns chunk kept =
      subst (λ (cs : List Column). CanMoveRows cs chunk 0 kept → ChunkOk (type_of_columns cs) (kept_chunk cs chunk kept)) (columns-back columns)
      (chunk-members (members columns) chunk 0 kept)

  pub kept-rows : (columns : List Column) (chunk : ArrayTree) (kept : List ℕ) → CanMoveRows columns chunk 0 kept
      → rows_of (type_of_columns columns) (kept_chunk columns chunk kept) ≡ rows_at (type_of_columns columns) chunk 0 kept
  kept-rows columns chunk kept =
      subst (λ (cs : List Column). CanMoveRows cs chunk 0 kept → rows_of (type_of_columns cs) (kept_chunk cs chunk kept)
      ≡ rows_at (type_of_columns cs) chunk 0 kept)
      (columns-back columns)
      (rows-struct (members columns) chunk 0 kept)

-- ---- the dictionaries

kept-at : (columns : List Column) (children : List ArrayTree) (start : ℕ) (kept : List ℕ) (k : ℕ) (none : Column) → k < length columns
    → get_or (kept_columns columns children start kept) k Released ≡ kept_tree (get_or columns k none).kind (get_or children k Released) start kept
kept-at [] children start kept k none small = absurd (omega (arith, small))
kept-at (c ∷ cs) children start kept zero none small = refl
kept-at (c ∷ cs) children start kept (suc k) none small =
    kept-at cs (drop 1 children) start kept k none (omega (arith, small))
    ∙ ap (λ (t : ArrayTree). kept_tree (get_or cs k none).kind t start kept) (later-child children k)

child-is : (columns : List Column) (chunk : ArrayTree) (kept : List ℕ) (k : ℕ) (none : Column) → k < length columns
    → child_at (kept_chunk columns chunk kept) k ≡ kept_tree (get_or columns k none).kind (child_at chunk k) (first (members_of chunk) + 0) kept
child-is columns chunk kept k none small =
    let inner = first (members_of chunk) + 0 in
    ap (λ (ts : List ArrayTree). get_or ts k Released) (tree_list-trees (kept_columns columns (children_of chunk) inner kept))
    ∙ kept-at columns (children_of chunk) inner kept k none small

pub kept-dictionary : (columns : List Column) (chunk : ArrayTree) (kept : List ℕ) (k : ℕ) (none : Column) (kind : DataType) → k < length columns
    → (get_or columns k none).kind ≡ Dict kind
    → dictionary_at (child_at (kept_chunk columns chunk kept) k) ≡ dictionary_at (child_at chunk k)
kept-dictionary columns chunk kept k none kind small is =
    ap (λ (t : ArrayTree). dictionary_at t) (child-is columns chunk kept k none small)
    ∙ ap (λ (b : Kind). dictionary_at (kept_tree b (child_at chunk k) (first (members_of chunk) + 0) kept)) is

mutual
  full-kept : (kind : Kind) (array : ArrayTree) (start : ℕ) (kept : List ℕ) → DictsAreFull kind array → DictsAreFull kind (kept_tree kind array start kept)
  full-kept (Flat kind) array start kept full = tt
  full-kept (Dict kind) array start kept full = full
  full-kept (Columns ms) array start kept full =
      let inner = first (members_of array) + start in
      subst (MemberDictsAreFull ms) (sym (tree_list-trees (kept_members ms (children_of array) inner kept)))
      (full-kept-members ms (children_of array) inner kept full)

  full-kept-members : (ms : Members) (children : List ArrayTree) (start : ℕ) (kept : List ℕ) → MemberDictsAreFull ms children
      → MemberDictsAreFull ms (kept_members ms children start kept)
  full-kept-members no_members children start kept full = tt
  full-kept-members (more_members name kind rest) children start kept full =
      (full-kept kind (get_or children 0 Released) start kept full.0, full-kept-members rest (drop 1 children) start kept full.1)

pub kept-full : (columns : List Column) (chunk : ArrayTree) (kept : List ℕ) (k : ℕ) (none : Column) → CanMoveRows columns chunk 0 kept → k < length columns
    → DictsAreFull (get_or columns k none).kind (child_at (kept_chunk columns chunk kept) k)
kept-full columns chunk kept k none can small =
    subst (DictsAreFull (get_or columns k none).kind) (sym (child-is columns chunk kept k none small))
    (full-kept (get_or columns k none).kind (child_at chunk k) (first (members_of chunk) + 0) kept (can.full k none small))
