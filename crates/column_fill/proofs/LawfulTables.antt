-- A table whose columns are made of values that fit is lawful: its columns, its rows and its chunk.
use Rattle.std.proofs.Common.{◌≡◌, ◌≢◌, ◌∙◌, ◌≤◌, ◌<◌, ◌+◌, ◌*◌, ◌^◌, ℕ, pos, negsuc, zero, suc, List, [], ◌∷◌, length, map, get_or, All, Option, None, Some, refl, sym, ap, subst, arith, inl, inr}
use Rattle.std.proofs.lemmas.Bool.{lt-ltb}
use Rattle.std.proofs.lemmas.List.{get_or-map, length-map, length-append}
use Rattle.std.proofs.lemmas.List.Elements.{All-cons, All-head, All-nil, All-tail}
use Rattle.std.specs.List.{concat}
use Rattle.data_types.specs.ColumnForms.{AreColumnKinds, IsColumnKind}
use Rattle.data_types.specs.FieldText.{IsValueOf}
use Rattle.data_types.specs.promise.Parts.{column_values}
use Rattle.data_types.specs.promise.Table.{Column, Row}
use Rattle.data_types.specs.promise.Value.{Value, Null, Whole, Bytes, Truth, Bits, Items, Fields, byte_total, bytes_of}
use Rattle.data_types.specs.declared.kind.DataType.{DataType}
use Rattle.tree_model.proofs.Lists.{tree_list-trees}
use Rattle.tree_model.specs.promise.TreeData.{Released, trees}
use Rattle.tree_model.specs.promise.TreeParts.{child_at}
use Rattle.tree_model.specs.Tree.{Depth, depth_of_all}
use Rattle.raw_array.specs.promise.Members.{ArrayTree, Cost}
use Rattle.raw_array.specs.Members.{cost_of_all}
use Rattle.tree_model.specs.promise.TreeCost.{Nodes}
use Rattle.col_build.specs.promise.Encoding.{encoded}
use Rattle.col_build.specs.Encoding.{Fits}
use Rattle.col_build.specs.promise.Finished.{blocks_of}
use Rattle.data_types.specs.promise.ColumnKinds.{type_of_columns}
use Rattle.data_types.specs.ColumnKinds.{table_type, type_of_column, types_of_columns}
use Rattle.data_types.specs.promise.KindTrees.{KindTree}
use Rattle.schema_check.specs.promise.ColumnSchema.{SchemaOf}
use Rattle.schema_check.specs.ColumnSchema.{schema_of_column}
use Rattle.schema_check.specs.promise.Schemas.{TypedOf}
use Rattle.layout_rules.specs.promise.Values.{each, rows_of, values_of}
use Rattle.layout_rules.specs.promise.Walk.{ChunkOk}
use Rattle.arr_export.specs.promise.ArrayTrees.{column_tree, table_tree}
use Rattle.arr_export.specs.ArrayTrees.{IsPlaceOf, flat_type, looked_up, rows_of_values}
use Rattle.arr_export.specs.SchemaSize.{nodes_of_columns}
use Rattle.arr_export.specs.promise.ValueColumns.{TypedValues, ValueColumn}
use Rattle.arr_export.specs.ValueColumns.{HasEntries, IsValueColumn, items_of, tree_of, type_of, values_by}
use Rattle.stream_face.specs.Lawful.{AreItems, AreValues, DictsAreFull, DictsHaveBytes, IsChunkOf, IsTable, LawfulColumns, column_leaves}
use Rattle.column_fill.proofs.ColumnCosts.{column-cost, few-blocks, few-present}
use Rattle.column_fill.proofs.ValuesTaken.{values-fit}
use Rattle.column_fill.specs.Tables.{FitsRows, HasDictionaryIf, NamedValues, chunk_with, column_with, columns_with, index_type, item_type, kind_by, rows_with}

-- ---- indices

index-value : (total : ℕ) (v : Value) → total ≤ 2 ^ 30 → IsPlaceOf total v → IsValueOf index_type v
index-value total Null few is = tt
index-value total (Whole (pos place)) few is = lt-ltb place (2 ^ 31) (omega (arith, few, is))
index-value total (Whole (negsuc n)) few is = absurd is
index-value total (Truth t) few is = absurd is
index-value total (Bits n) few is = absurd is
index-value total (Bytes b) few is = absurd is
index-value total (Items vs) few is = absurd is
index-value total (Fields vs) few is = absurd is

no-byte : (total : ℕ) (v : Value) → IsPlaceOf total v → length (bytes_of v) ≡ 0
no-byte total Null is = refl
no-byte total (Whole n) is = refl
no-byte total (Truth t) is = absurd is
no-byte total (Bits n) is = absurd is
no-byte total (Bytes b) is = absurd is
no-byte total (Items vs) is = absurd is
no-byte total (Fields vs) is = absurd is

no-bytes : (total : ℕ) (vs : List Value) → All (IsPlaceOf total) vs → byte_total vs ≡ 0
no-bytes total [] are = refl
no-bytes total (v ∷ vs) are =
    omega (
      arith,
      length-append (bytes_of v) (concat (map bytes_of vs)),
      no-byte total v (All-head (IsPlaceOf total) v vs are),
      no-bytes total vs (All-tail (IsPlaceOf total) v vs are),
    )

index-kind : IsColumnKind index_type
index-kind = (inr (inr (inl refl)), tt)

indices-fit : (total : ℕ) (vs : List Value) → total ≤ 2 ^ 30 → All (IsPlaceOf total) vs → length vs ≤ 2 ^ 30 → Fits index_type vs
indices-fit total vs few are short =
    values-fit index_type vs index-kind ((λ k d inside. index-value total (get_or vs k d) few (are k d inside)), omega (arith, no-bytes total vs are)) short

-- ---- one column

own-fits : (rows : ℕ) (own : TypedValues) (dictionary : Option TypedValues) → IsColumnKind (item_type own dictionary)
    → AreValues (item_type own dictionary) (values_by dictionary own.values) → HasDictionaryIf own dictionary → length own.values ≡ rows → rows ≤ 2 ^ 30
    → Fits own.kind own.values
own-fits rows own None kind items has count few = values-fit own.kind own.values kind items (omega (arith, count, few))
own-fits rows own (Some entries) kind items has count few =
    subst (λ (k : DataType). Fits k own.values) (sym has.index)
    (indices-fit (length entries.values) own.values has.few has.places (omega (arith, count, few)))

has-entries : (own : TypedValues) (dictionary : Option TypedValues) → IsColumnKind (item_type own dictionary) → HasDictionaryIf own dictionary
    → HasEntries own dictionary
has-entries own None kind has = tt
has-entries own (Some entries) kind has =
    (rw has.index tt, values-fit entries.kind entries.values kind has.values has.few, has.places)

is-column : (rows : ℕ) (c : NamedValues) → FitsRows rows c → rows ≤ 2 ^ 30 → IsValueColumn rows c.values
is-column rows c fits few = record {
  fits = own-fits rows c.values.own c.values.dictionary fits.kind fits.items fits.dictionary fits.count few;
  long = omega (arith, fits.count);
  entries = has-entries c.values.own c.values.dictionary fits.kind fits.dictionary;
}

same-type : (name : List ℕ) (own : TypedValues) (dictionary : Option TypedValues) → HasDictionaryIf own dictionary
    → type_of (record { own = own; dictionary = dictionary })
    ≡ type_of_column (column_with (record { name = name; values = record { own = own; dictionary = dictionary } }))
same-type name own None has = refl
same-type name own (Some entries) has = ap (λ (k : DataType). flat_type k (Some (flat_type entries.kind None))) has.index

own-items : (own : TypedValues) (dictionary : Option TypedValues) (items : List Value) → AreValues (item_type own dictionary) items
    → AreItems (kind_by own dictionary) items
own-items own None items are = are
own-items own (Some entries) items are = are

own-kinds : (own : TypedValues) (dictionary : Option TypedValues) → IsColumnKind (item_type own dictionary) → AreColumnKinds (kind_by own dictionary)
own-kinds own None is = is
own-kinds own (Some entries) is = is

own-dicts : (own : TypedValues) (dictionary : Option TypedValues) → HasDictionaryIf own dictionary → DictsHaveBytes (kind_by own dictionary)
own-dicts own None has = tt
own-dicts own (Some entries) has = has.bytes

-- three buffers, or two of indices and three of their dictionary, with their nodes
own-cost : (own : TypedValues) (dictionary : Option TypedValues) → HasDictionaryIf own dictionary
    → Cost (tree_of (record { own = own; dictionary = dictionary })) ≤ 7
own-cost own None has = omega (arith, column-cost own.kind own.values None, few-blocks own.kind own.values)
own-cost own (Some entries) has =
    let two : blocks_of own.kind own.values
    ≤ 2 = rw has.index (omega (arith, few-present (encoded index_type own.values).buffers)) in
    omega (
      arith,
      column-cost own.kind own.values (Some (column_tree entries.kind entries.values None)),
      column-cost entries.kind entries.values None,
      few-blocks entries.kind entries.values,
      two,
    )

-- ---- the columns

columns-kinds : (rows : ℕ) (columns : List NamedValues) → All (FitsRows rows) columns → All (λ (c : Column). AreColumnKinds c.kind) (columns_with columns)
columns-kinds rows [] fit = All-nil (λ (c : Column). AreColumnKinds c.kind)
columns-kinds rows (c ∷ cs) fit =
    let here = All-head (FitsRows rows) c cs fit in
    All-cons (λ (c : Column). AreColumnKinds c.kind) (column_with c) (columns_with cs) (own-kinds c.values.own c.values.dictionary here.kind)
    (columns-kinds rows cs (All-tail (FitsRows rows) c cs fit))

columns-dicts : (rows : ℕ) (columns : List NamedValues) → All (FitsRows rows) columns → All (λ (c : Column). DictsHaveBytes c.kind) (columns_with columns)
columns-dicts rows [] fit = All-nil (λ (c : Column). DictsHaveBytes c.kind)
columns-dicts rows (c ∷ cs) fit =
    let here = All-head (FitsRows rows) c cs fit in
    All-cons (λ (c : Column). DictsHaveBytes c.kind) (column_with c) (columns_with cs) (own-dicts c.values.own c.values.dictionary here.dictionary)
    (columns-dicts rows cs (All-tail (FitsRows rows) c cs fit))

-- what a column has in the schema and in the tables of a stream
record IsSmall (c : Column) : Type 0 where
  leaves : column_leaves (c ∷ []) ≡ 1
  nodes : nodes_of_columns (c ∷ []) ≤ 2
  levels : Depth (schema_of_column c) ≤ 2

is-small : (name : List ℕ) (own : TypedValues) (dictionary : Option TypedValues)
    → IsSmall (column_with (record { name = name; values = record { own = own; dictionary = dictionary } }))
is-small name own None = record { leaves = omega arith; nodes = omega arith; levels = omega arith }
is-small name own (Some entries) = record { leaves = omega arith; nodes = omega arith; levels = omega arith }

columns-leaves : (columns : List NamedValues) → column_leaves (columns_with columns) ≡ length columns
columns-leaves [] = refl
columns-leaves (c ∷ cs) = omega (arith, (is-small c.name c.values.own c.values.dictionary).leaves, columns-leaves cs)

columns-nodes : (columns : List NamedValues) → nodes_of_columns (columns_with columns) ≤ 2 * length columns
columns-nodes [] = omega arith
columns-nodes (c ∷ cs) = omega (arith, (is-small c.name c.values.own c.values.dictionary).nodes, columns-nodes cs)

columns-levels : (columns : List NamedValues) → depth_of_all (trees (map schema_of_column (columns_with columns))) ≤ 2
columns-levels [] = omega arith
columns-levels (c ∷ cs) = omega (arith, (is-small c.name c.values.own c.values.dictionary).levels, columns-levels cs)

pub lawful-columns : ((cs : List Column) → All (λ (c : Column). AreColumnKinds c.kind) cs → Depth (SchemaOf cs) ≤ 64 → TypedOf (SchemaOf cs) (type_of_columns cs))
    → ((cs : List Column) → Nodes (SchemaOf cs) ≡ 1 + nodes_of_columns cs) → (rows : ℕ) (columns : List NamedValues) → All (FitsRows rows) columns
    → length columns ≤ 4096 → LawfulColumns (columns_with columns)
lawful-columns typed nodes rows columns fit few =
    let kinds = columns-kinds rows columns fit in
    let levels : Depth (SchemaOf (columns_with columns)) ≤ 64 = omega (arith, columns-levels columns) in
    record {
      kinds = kinds;
      dicts = columns-dicts rows columns fit;
      few = omega (arith, columns-leaves columns, few);
      typed = typed (columns_with columns) kinds levels;
      small = omega (arith, nodes (columns_with columns), columns-nodes columns, few);
      not_deep = levels;
    }

-- ---- the rows

map-each : {X Y : Type 0} → (g : X → Y) (f : ℕ → X) (from n : ℕ) → map g (each f from n) ≡ each (λ i. g (f i)) from n
map-each g f from zero = refl
map-each g f from (suc n) = ap (λ ys. g (f from) ∷ ys) (map-each g f (suc from) n)

-- the values of a list, one behind the other
each-is : (vs : List Value) (f : ℕ → Value) (from : ℕ) → ((i : ℕ) → f (from + i) ≡ get_or vs i Null) → each f from (length vs) ≡ vs
each-is [] f from same = refl
each-is (v ∷ vs) f from same =
    let here : from + 0 ≡ from = omega arith in
    let first : f from ≡ v = ap f (sym here) ∙ same 0 in
    let rest = each-is vs f (suc from) (λ i. let next : suc from + i ≡ from + suc i = omega arith in ap f next ∙ same (suc i)) in
    ap (λ w. w ∷ each f (suc from) (length vs)) first ∙ ap (λ ws. v ∷ ws) rest

all-each : {X : Type 0} → (P : X → Type 0) (f : ℕ → X) (from n : ℕ) → ((i : ℕ) → P (f i)) → All P (each f from n)
all-each P f from zero holds = All-nil P
all-each P f from (suc n) holds = All-cons P (f from) (each f (suc from) n) (holds from) (all-each P f (suc from) n holds)

abbrev row_at : List (List Value) → ℕ → Row
row_at columns i = map (λ values. get_or values i Null) columns

-- the values of a column of the rows are those that it is made of
column-back : (columns : List (List Value)) (rows k : ℕ) → k < length columns → length (get_or columns k []) ≡ rows
    → column_values k (rows_of_values columns rows) ≡ get_or columns k []
column-back columns rows k inside count =
    map-each (λ row. get_or row k Null) (row_at columns) 0 rows
    ∙ ap (λ n. each (λ i. get_or (row_at columns i) k Null) 0 n) (sym count)
    ∙ each-is (get_or columns k []) (λ i. get_or (row_at columns i) k Null) 0
    (λ i. let at : 0 + i ≡ i = omega arith in
    ap (λ n. get_or (row_at columns n) k Null) at ∙ get_or-map (λ values. get_or values i Null) columns k [] Null inside)

as-long : (dictionary : Option TypedValues) (vs : List Value) → length (values_by dictionary vs) ≡ length vs
as-long None vs = refl
as-long (Some entries) vs = length-map vs (looked_up entries.values)

abbrev items_with : NamedValues → List Value
items_with c = items_of c.values

-- what is there behind the last column
some-column : NamedValues
some-column = record { name = []; values = record { own = record { kind = index_type; values = [] }; dictionary = None } }

module _ (rows : ℕ) (columns : List NamedValues) (fit : All (FitsRows rows) columns) where
  abbrev items : List (List Value)
  items = map items_with columns

  abbrev there : ℕ → NamedValues → NamedValues
  there k none = get_or columns k none

  module _ (k : ℕ) (none : NamedValues) (inside : k < length columns) where
    here : FitsRows rows (there k none)
    here = fit k none inside

    its-items : get_or items k [] ≡ items_with (there k none)
    its-items = get_or-map items_with columns k none [] inside

    its-values : column_values k (rows_with rows columns) ≡ items_with (there k none)
    its-values =
        let within : k < length items = omega (arith, inside, length-map columns items_with) in
        let many : length (get_or items k [])
        ≡ rows = ap length its-items ∙ as-long (there k none).values.dictionary (there k none).values.own.values ∙ here.count in
        column-back items rows k within many ∙ its-items

    its-column-items : AreItems (column_with (there k none)).kind (column_values k (rows_with rows columns))
    its-column-items =
        subst (AreItems (column_with (there k none)).kind) (sym its-values)
        (own-items (there k none).values.own (there k none).values.dictionary (items_with (there k none)) here.items)

  pub lawful-table : IsTable (columns_with columns) (rows_with rows columns)
  lawful-table = record {
    widths = all-each (λ (row : Row). length row ≡ length (columns_with columns)) (row_at items) 0 rows
        (λ i. length-map items (λ values. get_or values i Null) ∙ length-map columns items_with ∙ sym (length-map columns column_with));
    items = λ k none inside.
        let within : k < length columns = omega (arith, inside, length-map columns column_with) in
        subst (λ (c : Column). AreItems c.kind (column_values k (rows_with rows columns)))
        (sym (get_or-map column_with columns k some-column none within)) (its-column-items k some-column within);
  }

-- ---- the chunk

abbrev tree_with : NamedValues → ArrayTree
tree_with c = tree_of c.values

abbrev type_with : NamedValues → KindTree
type_with c = type_of c.values

types-are : (rows : ℕ) (columns : List NamedValues) → All (FitsRows rows) columns → map type_with columns ≡ types_of_columns (columns_with columns)
types-are rows [] fit = refl
types-are rows (c ∷ cs) fit =
    let here = All-head (FitsRows rows) c cs fit in
    ap (λ (t : KindTree). t ∷ map type_with cs) (same-type c.name c.values.own c.values.dictionary here.dictionary)
    ∙ ap (λ (ts : List KindTree). type_of_column (column_with c) ∷ ts) (types-are rows cs (All-tail (FitsRows rows) c cs fit))

are-columns : (rows : ℕ) (columns : List NamedValues) → All (FitsRows rows) columns → rows ≤ 2 ^ 30
    → All (IsValueColumn rows) (map (λ (c : NamedValues). c.values) columns)
are-columns rows [] fit few = All-nil (IsValueColumn rows)
are-columns rows (c ∷ cs) fit few =
    All-cons (IsValueColumn rows) c.values (map (λ (c : NamedValues). c.values) cs) (is-column rows c (All-head (FitsRows rows) c cs fit) few)
    (are-columns rows cs (All-tail (FitsRows rows) c cs fit) few)

columns-cost : (rows : ℕ) (columns : List NamedValues) → All (FitsRows rows) columns → cost_of_all (trees (map tree_with columns)) ≤ 7 * length columns
columns-cost rows [] fit = omega arith
columns-cost rows (c ∷ cs) fit =
    omega (
      arith,
      own-cost c.values.own c.values.dictionary (All-head (FitsRows rows) c cs fit).dictionary,
      columns-cost rows cs (All-tail (FitsRows rows) c cs fit),
    )

map-values : {Y : Type 0} → (f : ValueColumn → Y) (columns : List NamedValues) → map f (map (λ (c : NamedValues). c.values) columns)
    ≡ map (λ (c : NamedValues). f c.values) columns
map-values f [] = refl
map-values f (c ∷ cs) = ap (λ ys. f c.values ∷ ys) (map-values f cs)

module _ (chunk : (columns : List ValueColumn) (rows : ℕ) → All (IsValueColumn rows) columns → rows ≤ 2 ^ 40
    → ChunkOk (table_type (map type_of columns)) (table_tree rows (map tree_of columns)))
    (table : (columns : List ValueColumn) (rows : ℕ) → All (IsValueColumn rows) columns
    → rows_of (table_type (map type_of columns)) (table_tree rows (map tree_of columns)) ≡ rows_of_values (map items_of columns) rows)
    (back : (kind : DataType) (values : List Value) → Fits kind values → values_of (flat_type kind None) (column_tree kind values None) ≡ values) where
  own-full : (own : TypedValues) (dictionary : Option TypedValues) → IsColumnKind (item_type own dictionary) → HasDictionaryIf own dictionary
      → DictsAreFull (kind_by own dictionary) (tree_of (record { own = own; dictionary = dictionary }))
  own-full own None kind has = tt
  own-full own (Some entries) kind has =
      subst (All (λ (v : Value). v ≢ Null)) (sym (back entries.kind entries.values (values-fit entries.kind entries.values kind has.values has.few))) has.full

  module _ (rows : ℕ) (columns : List NamedValues) (fit : All (FitsRows rows) columns) (few : rows ≤ 2 ^ 30) where
    abbrev values : List ValueColumn
    values = map (λ (c : NamedValues). c.values) columns

    are : All (IsValueColumn rows) values
    are = are-columns rows columns fit few

    types : map type_of values ≡ types_of_columns (columns_with columns)
    types = map-values type_of columns ∙ types-are rows columns fit

    its-trees : map tree_of values ≡ map tree_with columns
    its-trees = map-values tree_of columns

    its-child : (k : ℕ) → k < length columns → child_at (chunk_with rows columns) k ≡ tree_with (get_or columns k some-column)
    its-child k inside =
        ap (λ (ts : List ArrayTree). get_or ts k Released) (tree_list-trees (map tree_with columns))
        ∙ get_or-map tree_with columns k some-column Released inside

    its-dicts : (k : ℕ) (none : Column) → k < length (columns_with columns)
        → DictsAreFull (get_or (columns_with columns) k none).kind (child_at (chunk_with rows columns) k)
    its-dicts k none inside =
        let within : k < length columns = omega (arith, inside, length-map columns column_with) in
        let c = get_or columns k some-column in
        let here = fit k some-column within in
        let full = own-full c.values.own c.values.dictionary here.kind here.dictionary in
        subst (λ (d : Column). DictsAreFull d.kind (child_at (chunk_with rows columns) k))
        (sym (get_or-map column_with columns k some-column none within))
        (subst (DictsAreFull (column_with c).kind) (sym (its-child k within)) full)

    pub lawful-chunk : length columns ≤ 4096 → IsChunkOf (columns_with columns) (rows_with rows columns) (chunk_with rows columns)
    lawful-chunk many =
        let ok = chunk values rows are (omega (arith, few)) in
        let back-rows = table values rows are in
        record {
          ok = subst (λ (ts : List KindTree). ChunkOk (table_type ts) (chunk_with rows columns)) types
              (subst (λ (us : List ArrayTree). ChunkOk (table_type (map type_of values)) (table_tree rows us)) its-trees ok);
          rows_are = ap (λ (ts : List KindTree). rows_of (table_type ts) (chunk_with rows columns)) (sym types)
              ∙ ap (λ (us : List ArrayTree). rows_of (table_type (map type_of values)) (table_tree rows us)) (sym its-trees)
              ∙ back-rows
              ∙ ap (λ (vs : List (List Value)). rows_of_values vs rows) (map-values items_of columns);
          small = omega (arith, columns-cost rows columns fit, many);
          dicts = its-dicts;
        }
