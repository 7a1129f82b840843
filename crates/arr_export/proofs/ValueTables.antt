-- A table of columns that are made of values is a chunk, and has these values.
use Rattle.std.proofs.Common.{◌≡◌, ◌∙◌, ℕ, ◌^◌, ◌≤◌, List, [], ◌∷◌, length, map, refl, ap, arith, Option, None, Some}
use Rattle.std.specs.List.{All}
use Rattle.std.proofs.lemmas.List.{length-map}
use Rattle.std.proofs.lemmas.List.Elements.{All-head, All-map, All-tail, All-weaker}
use Rattle.data_types.specs.promise.Value.{Value}
use Rattle.layout_rules.specs.promise.Values.{rows_of, tree_items, values_of}
use Rattle.layout_rules.specs.promise.Walk.{ChunkOk, LayoutOk}
use Rattle.col_build.specs.Encoding.{Fits}
use Rattle.data_types.specs.ColumnKinds.{table_type}
use Rattle.arr_export.specs.promise.ArrayTrees.{table_tree}
use Rattle.arr_export.specs.ArrayTrees.{AreIndices, AreLawful, HaveValues, looked_up, rows_of_values}
use Rattle.arr_export.specs.promise.ValueColumns.{TypedValues, ValueColumn}
use Rattle.arr_export.specs.ValueColumns.{HasEntries, IsValueColumn, items_of, plain_tree, plain_type, tree_of, type_of, values_by}
use Rattle.arr_export.proofs.ColumnLaw.{column-lawful, column-values}
use Rattle.arr_export.proofs.IndexLaw.{indices-lawful, indices-values}
use Rattle.arr_export.proofs.TableLaw.{table-chunk, table-values}

entries-are : (own entries : TypedValues) → HasEntries own (Some entries) → AreIndices own.kind own.values (plain_tree entries)
entries-are own entries has = record { kind_ok = has.0; live = tt; not_deep = omega arith; places = has.2 }

lawful : (own : TypedValues) (dictionary : Option TypedValues) → Fits own.kind own.values → HasEntries own dictionary
    → LayoutOk (type_of (record { own = own; dictionary = dictionary })) (tree_of (record { own = own; dictionary = dictionary }))
lawful own None fits has = column-lawful own.kind own.values fits
lawful own (Some entries) fits has =
    indices-lawful own.kind own.values (plain_type entries) (plain_tree entries) fits (entries-are own entries has)
    (column-lawful entries.kind entries.values has.1)

values-are : (own : TypedValues) (dictionary : Option TypedValues) → Fits own.kind own.values → HasEntries own dictionary
    → values_of (type_of (record { own = own; dictionary = dictionary })) (tree_of (record { own = own; dictionary = dictionary }))
    ≡ values_by dictionary own.values
values-are own None fits has = column-values own.kind own.values fits
values-are own (Some entries) fits has =
    indices-values own.kind own.values (plain_type entries) (plain_tree entries) fits (entries-are own entries has)
    ∙ ap (λ (vs : List Value). map (looked_up vs) own.values) (column-values entries.kind entries.values has.1)

as-long : (dictionary : Option TypedValues) (values : List Value) → length (values_by dictionary values) ≡ length values
as-long None values = refl
as-long (Some entries) values = length-map values (looked_up entries.values)

all-lawful : (rows : ℕ) (columns : List ValueColumn) → All (IsValueColumn rows) columns → AreLawful (map type_of columns) (map tree_of columns)
all-lawful rows [] all = tt
all-lawful rows (c ∷ cs) all =
    let here = All-head (IsValueColumn rows) c cs all in
    (tt, lawful c.own c.dictionary here.fits here.entries, all-lawful rows cs (All-tail (IsValueColumn rows) c cs all))

all-values : (rows : ℕ) (columns : List ValueColumn) → All (IsValueColumn rows) columns
    → HaveValues (map type_of columns) (map tree_of columns) (map items_of columns)
all-values rows [] all = tt
all-values rows (c ∷ cs) all =
    let here = All-head (IsValueColumn rows) c cs all in
    (values-are c.own c.dictionary here.fits here.entries, all-values rows cs (All-tail (IsValueColumn rows) c cs all))

pub value-chunk : (columns : List ValueColumn) (rows : ℕ) → All (IsValueColumn rows) columns → rows ≤ 2 ^ 40
    → ChunkOk (table_type (map type_of columns)) (table_tree rows (map tree_of columns))
value-chunk columns rows all few =
    table-chunk (map type_of columns) (map tree_of columns) rows (all-lawful rows columns all)
    (All-map (λ column. rows ≤ tree_items column) tree_of columns
    (All-weaker (IsValueColumn rows) (λ c. rows ≤ length c.own.values) (λ c is. is.long) columns all)) few

pub value-rows : (columns : List ValueColumn) (rows : ℕ) → All (IsValueColumn rows) columns
    → rows_of (table_type (map type_of columns)) (table_tree rows (map tree_of columns)) ≡ rows_of_values (map items_of columns) rows
value-rows columns rows all =
    table-values (map type_of columns) (map tree_of columns) (map items_of columns) rows (all-values rows columns all)
    (All-map (λ (vs : List Value). rows ≤ length vs) items_of columns
    (All-weaker (IsValueColumn rows) (λ c. rows ≤ length (items_of c)) (λ c is. omega (arith, is.long, as-long c.dictionary c.own.values)) columns all))
