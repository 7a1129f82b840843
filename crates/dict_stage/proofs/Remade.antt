-- What the arrays and the chunks that are made anew mean.
use Rattle.std.proofs.Common.{◌≡◌, ◌≢◌, ◌∙◌, ◌≤◌, ◌<◌, ◌+◌, ◌*◌, ◌^◌, ℕ, zero, suc, Bool}
use Rattle.std.proofs.Common.{true, false, not, List, [], ◌∷◌, ◌++◌, length, map, get_or, take, drop, All}
use Rattle.std.proofs.Common.{None, Some, refl, sym, ap, subst, arith}
use Rattle.std.proofs.lemmas.List.{drop-map, length-map, map-append, take-map}
use Rattle.std.specs.List.{AllByRecursion}
use Rattle.data_types.specs.ColumnForms.{AreColumnKinds}
use Rattle.data_types.specs.promise.Parts.{column_values, replaced}
use Rattle.data_types.specs.promise.Table.{Column, Flat, Dict, Row}
use Rattle.data_types.specs.promise.Value.{Value, Null}
use Rattle.data_types.specs.declared.kind.DataType.{DataType}
use Rattle.tree_model.specs.promise.TreeParts.{IsLive, child_at, children_of}
use Rattle.tree_model.specs.promise.TreeData.{Released}
use Rattle.tree_model.specs.Tree.{Depth, dictionary_at}
use Rattle.unit_pass.specs.declared.pass.TheConstants.{CHUNK}
use Rattle.raw_array.specs.promise.Members.{ArrayTree, Cost, members_of}
use Rattle.col_build.specs.Encoding.{Fits}
use Rattle.data_types.specs.promise.ColumnKinds.{type_of_columns, type_of_kind}
use Rattle.data_types.specs.ColumnKinds.{table_type, type_of_column, types_of_columns}
use Rattle.schema_check.specs.promise.ColumnSchema.{SchemaOf}
use Rattle.data_types.specs.promise.KindTrees.{KindTree}
use Rattle.schema_check.specs.promise.Schemas.{TypedOf}
use Rattle.tree_model.specs.promise.TreeCost.{Nodes}
use Rattle.layout_rules.specs.promise.Values.{rows_of, tree_items, values_of}
use Rattle.layout_rules.specs.promise.Walk.{ChunkOk, LayoutOk}
use Rattle.arr_export.specs.promise.ArrayTrees.{column_tree}
use Rattle.arr_export.specs.ArrayTrees.{AreIndices, flat_type, looked_up}
use Rattle.array_laws.specs.Picking.{AreLive, Replaced, cut_children}
use Rattle.stages.specs.Structs.{column_structs, structs}
use Rattle.stage_model.specs.promise.Dictionary.{Dictionary}
use Rattle.stage_model.specs.promise.Typing.{column, no_column}
use Rattle.stage_model.specs.Typing.{column_at}
use Rattle.stream_face.specs.Lawful.{AreItems, AreValues, DictsAreFull, DictsHaveBytes, HasBytes, IsChunkOf, IsTable, LawfulColumns, column_leaves, leaves}
use Rattle.column_fill.proofs.ValuesTaken.{values-fit}
use Rattle.stages.proofs.CutColumns.{dicts-window}
use Rattle.arr_move.proofs.MovedChildren.{cut-at}
use Rattle.dict_stage.specs.Indices.{Indices, index_type, recoded_tree}
use Rattle.dict_stage.specs.Recoded.{Recodes, TextsOf, recoded_columns, text_kind}
use Rattle.dict_stage.proofs.Chunks.{row-count}
use Rattle.dict_stage.proofs.Recoded.{dictionary-fits, dictionary-full, indices-fit, indices-of, length-indices, looked-up}
use Rattle.dict_stage.proofs.ReplacedChildren.{children-are, cut-length, each-replaced, length-replaced, replaced-at, replaced-behind, replaced-front}

-- ---- arrays

abbrev pub FlatLawful : Type 0
FlatLawful = (kind : DataType) (vs : List Value) → Fits kind vs → LayoutOk (flat_type kind None) (column_tree kind vs None)

abbrev pub FlatValued : Type 0
FlatValued = (kind : DataType) (vs : List Value) → Fits kind vs → values_of (flat_type kind None) (column_tree kind vs None) ≡ vs

abbrev pub IndexLawful : Type 0
IndexLawful = (kind : DataType) (vs : List Value) (type : KindTree) (dictionary : ArrayTree) → Fits kind vs → AreIndices kind vs dictionary
    → LayoutOk type dictionary → LayoutOk (flat_type kind (Some type)) (column_tree kind vs (Some dictionary))

abbrev pub IndexValued : Type 0
IndexValued = (kind : DataType) (vs : List Value) (type : KindTree) (dictionary : ArrayTree) → Fits kind vs → AreIndices kind vs dictionary
    → values_of (flat_type kind (Some type)) (column_tree kind vs (Some dictionary)) ≡ map (looked_up (values_of type dictionary)) vs

plain-fits : (type : DataType) (vs : List Value) → TextsOf type vs → Fits type vs
plain-fits type vs texts = values-fit type vs texts.is texts.are texts.few

entries-fit : (type : DataType) (vs : List Value) → TextsOf type vs → Fits type (Dictionary vs)
entries-fit type vs texts = dictionary-fits type vs texts.is texts.are texts.few

pub column-lawful : FlatLawful → IndexLawful → (dict : Bool) (type : DataType) (vs : List Value) → TextsOf type vs
    → LayoutOk (type_of_kind (text_kind dict type)) (recoded_tree (text_kind dict type) vs)
column-lawful flat index false type vs texts = flat type vs (plain-fits type vs texts)
column-lawful flat index true type vs texts =
    index index_type (Indices vs) (flat_type type None) (column_tree type (Dictionary vs) None) (indices-fit vs texts.few) (indices-of type vs)
    (flat type (Dictionary vs) (entries-fit type vs texts))

pub column-valued : FlatValued → IndexValued → (dict : Bool) (type : DataType) (vs : List Value) → TextsOf type vs
    → values_of (type_of_kind (text_kind dict type)) (recoded_tree (text_kind dict type) vs) ≡ vs
column-valued flat index false type vs texts = flat type vs (plain-fits type vs texts)
column-valued flat index true type vs texts =
    index index_type (Indices vs) (flat_type type None) (column_tree type (Dictionary vs) None) (indices-fit vs texts.few) (indices-of type vs)
    ∙ ap (λ (entries : List Value). map (looked_up entries) (Indices vs)) (flat type (Dictionary vs) (entries-fit type vs texts))
    ∙ looked-up type vs texts.bytes texts.are

pub dictionary-valued : FlatValued → (type : DataType) (vs : List Value) → TextsOf type vs
    → values_of (type_of_kind (Flat type)) (dictionary_at (recoded_tree (Dict type) vs)) ≡ Dictionary vs
dictionary-valued flat type vs texts = flat type (Dictionary vs) (entries-fit type vs texts)

-- ---- kinds

pub same-items : (dict : Bool) (type : DataType) (vs : List Value) → AreItems (text_kind dict type) vs → AreValues type vs
same-items true type vs are = are
same-items false type vs are = are

pub new-items : (dict : Bool) (type : DataType) (vs : List Value) → AreValues type vs → AreItems (text_kind dict type) vs
new-items true type vs are = are
new-items false type vs are = are

pub same-kind : (old new : Bool) (type : DataType) → AreColumnKinds (text_kind old type) → AreColumnKinds (text_kind new type)
same-kind true true type is = is
same-kind true false type is = is
same-kind false true type is = is
same-kind false false type is = is

pub new-dict : (dict : Bool) (type : DataType) → HasBytes type → DictsHaveBytes (text_kind dict type)
new-dict true type has = has
new-dict false type has = tt

pub one-leaf : (dict : Bool) (type : DataType) → leaves (text_kind dict type) ≡ 1
one-leaf true type = refl
one-leaf false type = refl

pub no-struct : (dict : Bool) (type : DataType) → structs (text_kind dict type) ≡ 0
no-struct true type = refl
no-struct false type = refl

live-type : (dict : Bool) (type : DataType) → IsLive (type_of_kind (text_kind dict type))
live-type true type = tt
live-type false type = tt

long-column : (dict : Bool) (type : DataType) (vs : List Value) → tree_items (recoded_tree (text_kind dict type) vs) ≡ length vs
long-column true type vs = length-indices vs
long-column false type vs = refl

-- ---- columns

replaced-types : (place : ℕ) (c : Column) (columns : List Column) → types_of_columns (replaced place c columns)
    ≡ replaced place (type_of_column c) (types_of_columns columns)
replaced-types place c columns =
    map-append type_of_column (take place columns) (c ∷ drop (place + 1) columns)
    ∙ (λ i. sym (take-map type_of_column place columns) i ++ type_of_column c ∷ sym (drop-map type_of_column (place + 1) columns) i)

leaves-append : (xs ys : List Column) → column_leaves (xs ++ ys) ≡ column_leaves xs + column_leaves ys
leaves-append [] ys = omega arith
leaves-append (x ∷ xs) ys = let e = leaves-append xs ys in omega (arith, e)

leaves-around : (xs : List Column) (place : ℕ) → place < length xs
    → column_leaves (take place xs) + leaves (column_at xs place).kind + column_leaves (drop (place + 1) xs) ≡ column_leaves xs
leaves-around [] place inside = absurd (omega (arith, inside))
leaves-around (x ∷ xs) zero inside = omega arith
leaves-around (x ∷ xs) (suc place) inside =
    let e = leaves-around xs place (omega (arith, inside)) in
    let s : suc place + 1 ≡ suc (place + 1) = omega arith in
    let f = ap (λ n. column_leaves (drop n (x ∷ xs))) s in
    omega (arith, e, f)

structs-append : (xs ys : List Column) → column_structs (xs ++ ys) ≡ column_structs xs + column_structs ys
structs-append [] ys = omega arith
structs-append (x ∷ xs) ys = let e = structs-append xs ys in omega (arith, e)

structs-around : (xs : List Column) (place : ℕ) → place < length xs
    → column_structs (take place xs) + structs (column_at xs place).kind + column_structs (drop (place + 1) xs) ≡ column_structs xs
structs-around [] place inside = absurd (omega (arith, inside))
structs-around (x ∷ xs) zero inside = omega arith
structs-around (x ∷ xs) (suc place) inside =
    let e = structs-around xs place (omega (arith, inside)) in
    let s : suc place + 1 ≡ suc (place + 1) = omega arith in
    let f = ap (λ n. column_structs (drop n (x ∷ xs))) s in
    omega (arith, e, f)

abbrev pub new_column : Bool → ℕ → DataType → List Column → Column
new_column dict place type before = column (column_at before place).name (text_kind dict type)

module _ (dict : Bool) (place : ℕ) (type : DataType) (before : List Column) (is : Recodes dict place type before) where
  abbrev after : List Column
  after = recoded_columns dict place type before

  leaves-after : column_leaves after ≡ column_leaves before
  leaves-after =
      omega (
        arith,
        leaves-append (take place before) (new_column dict place type before ∷ drop (place + 1) before),
        leaves-around before place is.within,
        ap leaves is.is_old,
        one-leaf (not dict) type,
        one-leaf dict type,
      )

  structs-after : column_structs after ≡ column_structs before
  structs-after =
      omega (
        arith,
        structs-append (take place before) (new_column dict place type before ∷ drop (place + 1) before),
        structs-around before place is.within,
        ap structs is.is_old,
        no-struct (not dict) type,
        no-struct dict type,
      )

  all-after : (P : Column → Type 0) → All P before → P (new_column dict place type before) → All P after
  all-after P all own =
      each-replaced (λ (c : Column) (n : ℕ). P c) place (new_column dict place type before) before (λ k. 0) (λ k. 0) is.within
      (λ k low. refl) (λ j. refl) all own

  pub lawful-after : ((cs : List Column) → All (λ c. AreColumnKinds c.kind) cs → Depth (SchemaOf cs) ≤ 64 → TypedOf (SchemaOf cs) (type_of_columns cs))
      → Nodes (SchemaOf after) ≤ CHUNK → Depth (SchemaOf after) ≤ 64 → LawfulColumns before → LawfulColumns after
  lawful-after typed small not_deep lawful =
      let own = same-kind (not dict) dict type (subst AreColumnKinds is.is_old (lawful.kinds place no_column is.within)) in
      let kinds = all-after (λ c. AreColumnKinds c.kind) lawful.kinds own in
      record {
        kinds = kinds;
        dicts = all-after (λ c. DictsHaveBytes c.kind) lawful.dicts (new-dict dict type is.bytes);
        few = omega (arith, leaves-after, lawful.few);
        typed = typed after kinds not_deep;
        small = small;
        not_deep = not_deep;
      }

  own-items : (rows : List Row) → IsTable before rows → AreValues type (column_values place rows)
  own-items rows table =
      same-items (not dict) type (column_values place rows)
      (subst (λ kind. AreItems kind (column_values place rows)) is.is_old (table.items place no_column is.within))

  pub table-after : (rows : List Row) → IsTable before rows → IsTable after rows
  table-after rows table =
      let many = length-replaced place (new_column dict place type before) before is.within in
      record {
        widths = λ k none small. table.widths k none small ∙ sym many;
        items = each-replaced (λ (c : Column) (vs : List Value). AreItems c.kind vs) place (new_column dict place type before) before
            (λ k. column_values k rows) (λ k. column_values k rows) is.within (λ k low. refl) (λ j. refl) table.items
            (new-items dict type (column_values place rows) (own-items rows table));
      }

  pub tables-after : (ahead : List (List Row)) → AllByRecursion (IsTable before) ahead → AllByRecursion (IsTable after) ahead
  tables-after [] tables = tt
  tables-after (rows ∷ more) tables = (table-after rows tables.0, tables-after more tables.1)

  pub texts-are : (rows : List Row) → LawfulColumns before → IsTable before rows → length rows ≤ 2 ^ 30 → TextsOf type (column_values place rows)
  texts-are rows lawful table few = record {
    is = same-kind (not dict) false type (subst AreColumnKinds is.is_old (lawful.kinds place no_column is.within));
    bytes = is.bytes;
    are = own-items rows table;
    few = let e = length-map rows (λ (row : Row). get_or row place Null) in omega (arith, e, few);
  }

  -- ---- a chunk

  module _ (rows : List Row) (t : ArrayTree) (lawful : LawfulColumns before) (now : LawfulColumns after) (table : IsTable before rows)
      (few : length rows ≤ 2 ^ 30) (chunk : IsChunkOf before rows t) where
    abbrev vs : List Value
    vs = column_values place rows

    abbrev own : ArrayTree
    own = recoded_tree (text_kind dict type) vs

    abbrev made : ArrayTree
    made = Replaced t place own

    types-after : table_type (replaced place (type_of_kind (text_kind dict type)) (types_of_columns before)) ≡ type_of_columns after
    types-after = ap table_type (sym (replaced-types place (new_column dict place type before) before))

    as-long : tree_items t ≡ length vs
    as-long = sym (row-count (type_of_columns before) t place) ∙ ap (λ (rs : List Row). length (column_values place rs)) chunk.rows_are

    of-full : FlatValued → (d : Bool) (type : DataType) (xs : List Value) → TextsOf type xs
        → DictsAreFull (text_kind d type) (recoded_tree (text_kind d type) xs)
    of-full flat true type xs texts = subst (All (λ v. v ≢ Null)) (sym (dictionary-valued flat type xs texts)) (dictionary-full xs)
    of-full flat false type xs texts = tt

    count : length (children_of t) ≡ length before → place < length (cut_children t)
    count many = omega (arith, cut-length t, many, is.within)

    at : (k : ℕ) → child_at made k ≡ get_or (replaced place own (cut_children t)) k Released
    at k = ap (λ cs. get_or cs k Released) (children-are t own place)

    dicts-after : FlatValued → length (children_of t) ≡ length before → (k : ℕ) (none : Column) → k < length after
        → DictsAreFull (get_or after k none).kind (child_at made k)
    dicts-after flat many =
        each-replaced (λ (c : Column) (u : ArrayTree). DictsAreFull c.kind u) place (new_column dict place type before) before
        (child_at made) (λ k. get_or (cut_children t) k Released) is.within
        (λ k low. at k ∙ replaced-front place own (cut_children t) (count many) k Released low)
        (λ j. at (place + 1 + j) ∙ replaced-behind place own (cut_children t) (count many) j Released)
        (λ k none small.
        subst (DictsAreFull (get_or before k none).kind) (sym (cut-at (children_of t) (members_of t).offset (members_of t).length k))
        (dicts-window (get_or before k none).kind (child_at t k) (members_of t).offset (members_of t).length (chunk.dicts k none small)))
        (subst (DictsAreFull (text_kind dict type)) (sym (at place ∙ replaced-at place own (cut_children t) (count many) Released))
        (of-full flat dict type vs (texts-are rows lawful table few)))

    abbrev MakesChunk : Type 0
    MakesChunk = (types : List KindTree) (u : ArrayTree) (n : ℕ) (kind : KindTree) (c : ArrayTree) → AreLive types
        → LayoutOk (table_type types) u → IsLive kind → LayoutOk kind c → tree_items u ≤ tree_items c
        → ChunkOk (table_type (replaced n kind types)) (Replaced u n c)

    abbrev KeepsRows : Type 0
    KeepsRows = (types : List KindTree) (u : ArrayTree) (n : ℕ) (kind : KindTree) (c : ArrayTree) → AreLive types
        → LayoutOk (table_type types) u → IsLive kind → LayoutOk kind c → n < length types
        → values_of kind c ≡ map (λ (row : Row). get_or row n Null) (rows_of (table_type types) u)
        → rows_of (table_type (replaced n kind types)) (Replaced u n c) ≡ rows_of (table_type types) u

    abbrev IsSmall : Type 0
    IsSmall = (columns : List Column) (u : ArrayTree) → All (λ c. AreColumnKinds c.kind) columns → All (λ c. DictsHaveBytes c.kind) columns
        → ChunkOk (type_of_columns columns) u → Cost u ≤ 7 * column_leaves columns + 2 * column_structs columns + 2

    pub chunk-after : FlatValued
        → ((d : Bool) (kind : DataType) (xs : List Value) → TextsOf kind xs → LayoutOk (type_of_kind (text_kind d kind)) (recoded_tree (text_kind d kind) xs))
        → ((d : Bool) (kind : DataType) (xs : List Value) → TextsOf kind xs
        → values_of (type_of_kind (text_kind d kind)) (recoded_tree (text_kind d kind) xs) ≡ xs)
        → MakesChunk → KeepsRows → ((columns : List Column) → AreLive (types_of_columns columns)) → IsSmall
        → length (children_of t) ≡ length before
        → IsChunkOf after rows made
    chunk-after flat lays valued makes keeps live small many =
        let types = types_of_columns before in
        let kind = type_of_kind (text_kind dict type) in
        let texts = texts-are rows lawful table few in
        let laid = lays dict type vs texts in
        let long = long-column dict type vs in
        let ok : ChunkOk (type_of_columns after) made =
        subst (λ k. ChunkOk k made) types-after
        (makes types t place kind own (live before) chunk.ok.0 (live-type dict type) laid (omega (arith, as-long, long))) in
        let inside : place < length types = let e = length-map before type_of_column in omega (arith, e, is.within) in
        record {
          ok = ok;
          rows_are = ap (λ k. rows_of k made) (sym types-after)
              ∙ keeps types t place kind own (live before) chunk.ok.0 (live-type dict type) laid inside
              (valued dict type vs texts ∙ ap (column_values place) (sym chunk.rows_are))
              ∙ chunk.rows_are;
          small = let e = small after made now.kinds now.dicts ok in omega (arith, e, now.few, structs-after, is.few_structs);
          dicts = dicts-after flat many;
        }
