-- What holds of columns and tables with a struct's columns in its place, since it holds of those with the struct.
use Rattle.std.proofs.Common.{arith, ◌≡◌, ◌≤◌, ◌<◌, ◌+◌, ◌∙◌, max, ℕ, zero, suc, List, [], ◌∷◌, ◌++◌, length, map, get_or, take, drop, All}
use Rattle.std.proofs.Common.{refl, sym, ap, subst}
use Rattle.std.specs.List.{AllByRecursion}
use Rattle.std.specs.Coded.{Coded-set}
use Rattle.std.proofs.Math.Logic.{∥∥₁_elim}
use Rattle.std.proofs.Props.{props}
use Rattle.std.proofs.lemmas.List.{length-map}
use Rattle.data_types.specs.ColumnForms.{AreColumnKinds, MembersAreColumns}
use Rattle.data_types.specs.ColumnView.{column_of}
use Rattle.data_types.specs.promise.Parts.{column_values, fields_of, member_columns}
use Rattle.data_types.specs.Parts.{unpacked, unpacked_columns}
use Rattle.data_types.specs.promise.Table.{Column, Row, Kind, Columns, Members, no_members, more_members}
use Rattle.data_types.specs.promise.Value.{Value, Null, Truth, Whole, Bits, Bytes, Items, Fields}
use Rattle.data_types.specs.declared.kind.ColumnType.{ColumnType}
use Rattle.tree_model.specs.promise.TreeData.{trees, more_trees}
use Rattle.tree_model.specs.Tree.{Depth, depth_of_all}
use Rattle.tree_model.specs.promise.TreeCost.{Nodes}
use Rattle.raw_schema.specs.Members.{nodes_of_all}
use Rattle.data_types.specs.promise.ColumnKinds.{type_of_columns}
use Rattle.schema_check.specs.promise.ColumnSchema.{SchemaOf, member_schemas}
use Rattle.schema_check.specs.ColumnSchema.{schema_of_column}
use Rattle.schema_check.specs.promise.Schemas.{TypedOf}
use Rattle.stage_model.specs.promise.Typing.{no_column, struct_members}
use Rattle.stage_model.specs.Typing.{column_at}
use Rattle.stream_face.specs.Lawful.{AreFieldItems, AreItems, DictsHaveBytes, HasFields, IsTable, LawfulColumns, LawfulTables, MemberDictsHaveBytes, column_leaves, leaves, member_leaves, total_rows}
use Rattle.stages.proofs.CodedColumns.{coded_columns, coded_kind}
use Rattle.stages.proofs.Spliced.{at-behind, at-front, at-middle, each-holds, length-spliced, spliced}
use Rattle.stage_kernels.specs.Unpacks.{UnpackFits}

-- ---- a fit

same-fields : (kind : Kind) (fields : Members) → kind ≡ Columns fields → struct_members kind ≡ fields
same-fields kind fields is = ap struct_members is

told-struct : (kind : Kind) (fields : Members) → kind ≡ Columns fields → kind ≡ Columns (struct_members kind)
told-struct kind fields is = is ∙ ap Columns (sym (same-fields kind fields is))

pub told : (place : ℕ) (kept : List ColumnType) (before : List Column) → ∥ UnpackFits place kept before ∥₁ → UnpackFits place kept before
told place kept before fits =
    let kind = (column_at before place).kind in
    record {
      inside = ∥∥₁_elim fits (hlevel props) (λ f. f.inside);
      fields = struct_members kind;
      is_struct = ∥∥₁_elim fits (Coded-set coded_kind kind (Columns (struct_members kind))) (λ f. told-struct kind f.fields f.is_struct);
      columns = ∥∥₁_elim fits (Coded-set coded_columns (map column_of kept) (unpacked_columns place (struct_members kind) before))
          (λ f. f.columns ∙ ap (λ fields. unpacked_columns place fields before) (sym (same-fields kind f.fields f.is_struct)));
      few_structs = ∥∥₁_elim fits (hlevel props) (λ f. f.few_structs);
    }

-- ---- a struct's columns

kinds-of : (fields : Members) → MembersAreColumns fields → All (λ c. AreColumnKinds c.kind) (member_columns fields)
kinds-of no_members ok k none small = absurd (omega (arith, small))
kinds-of (more_members name kind rest) ok zero none small = ok.0
kinds-of (more_members name kind rest) ok (suc k) none small = kinds-of rest ok.1 k none (omega (arith, small))

dicts-of : (fields : Members) → MemberDictsHaveBytes fields → All (λ c. DictsHaveBytes c.kind) (member_columns fields)
dicts-of no_members ok k none small = absurd (omega (arith, small))
dicts-of (more_members name kind rest) ok zero none small = ok.0
dicts-of (more_members name kind rest) ok (suc k) none small = dicts-of rest ok.1 k none (omega (arith, small))

leaves-of : (fields : Members) → column_leaves (member_columns fields) ≡ member_leaves fields
leaves-of no_members = refl
leaves-of (more_members name kind rest) = let e = leaves-of rest in omega (arith, e)

schemas-of : (fields : Members) → trees (map schema_of_column (member_columns fields)) ≡ member_schemas fields
schemas-of no_members = refl
schemas-of (more_members name kind rest) = λ i. more_trees (schema_of_column (record { name = name; kind = kind })) (schemas-of rest i)

-- ---- sums and depths

abbrev nodes : List Column → ℕ
nodes columns = nodes_of_all (trees (map schema_of_column columns))

abbrev depth : List Column → ℕ
depth columns = depth_of_all (trees (map schema_of_column columns))

leaves-append : (xs ys : List Column) → column_leaves (xs ++ ys) ≡ column_leaves xs + column_leaves ys
leaves-append [] ys = omega arith
leaves-append (x ∷ xs) ys = let e = leaves-append xs ys in omega (arith, e)

nodes-append : (xs ys : List Column) → nodes (xs ++ ys) ≡ nodes xs + nodes ys
nodes-append [] ys = omega arith
nodes-append (x ∷ xs) ys = let e = nodes-append xs ys in omega (arith, e)

depth-append : (xs ys : List Column) → depth (xs ++ ys) ≡ max (depth xs) (depth ys)
depth-append [] ys = omega arith
depth-append (x ∷ xs) ys = let e = depth-append xs ys in omega (arith, e)

leaves-around : (xs : List Column) (place : ℕ) → place < length xs
    → column_leaves (take place xs) + leaves (column_at xs place).kind + column_leaves (drop (place + 1) xs) ≡ column_leaves xs
leaves-around [] place inside = absurd (omega (arith, inside))
leaves-around (x ∷ xs) zero inside = omega arith
leaves-around (x ∷ xs) (suc place) inside =
    let e = leaves-around xs place (omega (arith, inside)) in
    let s : suc place + 1 ≡ suc (place + 1) = omega arith in
    let f = ap (λ n. column_leaves (drop n (x ∷ xs))) s in
    omega (arith, e, f)

nodes-around : (xs : List Column) (place : ℕ) → place < length xs
    → nodes (take place xs) + Nodes (schema_of_column (column_at xs place)) + nodes (drop (place + 1) xs) ≡ nodes xs
nodes-around [] place inside = absurd (omega (arith, inside))
nodes-around (x ∷ xs) zero inside = omega arith
nodes-around (x ∷ xs) (suc place) inside =
    let e = nodes-around xs place (omega (arith, inside)) in
    let s : suc place + 1 ≡ suc (place + 1) = omega arith in
    let f = ap (λ n. nodes (drop n (x ∷ xs))) s in
    omega (arith, e, f)

depth-around : (xs : List Column) (place : ℕ) → place < length xs
    → max (max (depth (take place xs)) (Depth (schema_of_column (column_at xs place)))) (depth (drop (place + 1) xs)) ≡ depth xs
depth-around [] place inside = absurd (omega (arith, inside))
depth-around (x ∷ xs) zero inside = omega arith
depth-around (x ∷ xs) (suc place) inside =
    let e = depth-around xs place (omega (arith, inside)) in
    let s : suc place + 1 ≡ suc (place + 1) = omega arith in
    let f = ap (λ n. depth (drop n (x ∷ xs))) s in
    omega (arith, e, f)

-- ---- the columns with the struct's in its place
module _ (place : ℕ) (fields : Members) (columns : List Column) (inside : place < length columns)
    (is_struct : (column_at columns place).kind ≡ Columns fields) where
  abbrev inner : List Column
  inner = member_columns fields

  abbrev after : List Column
  after = spliced place inner columns

  leaves-same : column_leaves after ≡ column_leaves columns
  leaves-same =
      omega (
        arith,
        leaves-append (take place columns ++ inner) (drop (place + 1) columns),
        leaves-append (take place columns) inner,
        leaves-around columns place inside,
        leaves-of fields,
        ap leaves is_struct,
      )

  abbrev own : Column
  own = column_at columns place

  schema-is : schema_of_column own ≡ schema_of_column (record { name = own.name; kind = Columns fields })
  schema-is = ap (λ kind. schema_of_column (record { name = own.name; kind = kind })) is_struct

  nodes-fewer : nodes after + 1 ≡ nodes columns
  nodes-fewer =
      omega (
        arith,
        nodes-append (take place columns ++ inner) (drop (place + 1) columns),
        nodes-append (take place columns) inner,
        nodes-around columns place inside,
        ap nodes_of_all (schemas-of fields),
        ap Nodes schema-is,
      )

  depth-less : depth after ≤ depth columns
  depth-less =
      omega (
        arith,
        depth-append (take place columns ++ inner) (drop (place + 1) columns),
        depth-append (take place columns) inner,
        depth-around columns place inside,
        ap depth_of_all (schemas-of fields),
        ap Depth schema-is,
      )

  all-after : (P : Column → Type 0) → All P columns → All P inner → All P after
  all-after P outer within =
      each-holds (λ (c : Column) (v : ℕ). P c) place inner columns inside (λ k. 0) (λ k. 0) (λ k. 0)
      (λ k before. refl) (λ j small. refl) (λ j. refl) outer within

  lawful-columns : ((cs : List Column) → All (λ c. AreColumnKinds c.kind) cs → Depth (SchemaOf cs) ≤ 64 → TypedOf (SchemaOf cs) (type_of_columns cs))
      → LawfulColumns columns → LawfulColumns after
  lawful-columns typed lawful =
      let own_kinds = kinds-of fields (subst AreColumnKinds is_struct (lawful.kinds place no_column inside)) in
      let own_dicts = dicts-of fields (subst DictsHaveBytes is_struct (lawful.dicts place no_column inside)) in
      let kinds = all-after (λ c. AreColumnKinds c.kind) lawful.kinds own_kinds in
      let not_deep : Depth (SchemaOf after) ≤ 64 = omega (arith, depth-less, lawful.not_deep) in
      record {
        kinds = kinds;
        dicts = all-after (λ c. DictsHaveBytes c.kind) lawful.dicts own_dicts;
        few = omega (arith, leaves-same, lawful.few);
        typed = typed after kinds not_deep;
        small = omega (arith, nodes-fewer, lawful.small);
        not_deep = not_deep;
      }

pub unpacked_lawful : (place : ℕ) (kept : List ColumnType) (before : List Column)
    → ((cs : List Column) → All (λ c. AreColumnKinds c.kind) cs → Depth (SchemaOf cs) ≤ 64 → TypedOf (SchemaOf cs) (type_of_columns cs))
    → ∥ UnpackFits place kept before ∥₁ → LawfulColumns before → LawfulColumns (map column_of kept)
unpacked_lawful place kept before typed fits lawful =
    let fit = told place kept before fits in
    subst LawfulColumns (sym fit.columns) (lawful-columns place fit.fields before fit.inside fit.is_struct typed lawful)

-- ---- rows

fields-count : (count : ℕ) (v : Value) → HasFields count v → length (fields_of v) ≡ count
fields-count count Null has = absurd has
fields-count count (Truth b) has = absurd has
fields-count count (Whole z) has = absurd has
fields-count count (Bits n) has = absurd has
fields-count count (Bytes bs) has = absurd has
fields-count count (Items vs) has = absurd has
fields-count count (Fields vs) has = has

-- a row of this many values, with a struct of this many at a place
pub record RowFits (place count width : ℕ) (row : Row) : Type 0 where
  pub wide : length row ≡ width
  pub fields : length (fields_of (get_or row place Null)) ≡ count

module _ (place count width : ℕ) (inside : place < width) where
  row-inside : (row : Row) → RowFits place count width row → place < length row
  row-inside row fits = let e = fits.wide in omega (arith, inside, e)

  row-wide : (row : Row) → RowFits place count width row → length (unpacked place row) + 1 ≡ width + count
  row-wide row fits =
      let a = length-spliced place (fields_of (get_or row place Null)) row (row-inside row fits) in
      omega (arith, a, fits.wide, fits.fields)

  front-values : (rows : List Row) → AllByRecursion (RowFits place count width) rows → (k : ℕ) → k < place
      → column_values k (map (unpacked place) rows) ≡ column_values k rows
  front-values [] all k before = refl
  front-values (row ∷ rows) all k before =
      λ i. at-front place (fields_of (get_or row place Null)) row (row-inside row all.0) k Null before i ∷ front-values rows all.1 k before i

  middle-values : (rows : List Row) → AllByRecursion (RowFits place count width) rows → (j : ℕ) → j < count
      → column_values (place + j) (map (unpacked place) rows) ≡ column_values j (map fields_of (column_values place rows))
  middle-values [] all j small = refl
  middle-values (row ∷ rows) all j small =
      let s : j < length (fields_of (get_or row place Null)) = let e = all.0.fields in omega (arith, e, small) in
      λ i. at-middle place (fields_of (get_or row place Null)) row (row-inside row all.0) j Null s i ∷ middle-values rows all.1 j small i

  behind-values : (rows : List Row) → AllByRecursion (RowFits place count width) rows → (j : ℕ)
      → column_values (place + count + j) (map (unpacked place) rows) ≡ column_values (place + 1 + j) rows
  behind-values [] all j = refl
  behind-values (row ∷ rows) all j =
      let inner = fields_of (get_or row place Null) in
      let first = ap (λ n. get_or (unpacked place row) (place + n + j) Null) (sym all.0.fields) ∙ at-behind place inner row (row-inside row all.0) j Null in
      λ i. first i ∷ behind-values rows all.1 j i

  widths-after : (rows : List Row) → AllByRecursion (RowFits place count width) rows → (n : ℕ) → n + 1 ≡ width + count
      → All (λ (row : Row). length row ≡ n) (map (unpacked place) rows)
  widths-after [] all n is k none small = absurd (omega (arith, small))
  widths-after (row ∷ rows) all n is zero none small = let e = row-wide row all.0 in omega (arith, e, is)
  widths-after (row ∷ rows) all n is (suc k) none small = widths-after rows all.1 n is k none (omega (arith, small))

rows-fit : (place count width : ℕ) (rows : List Row) → All (λ row. length row ≡ width) rows → All (HasFields count) (column_values place rows)
    → AllByRecursion (RowFits place count width) rows
rows-fit place count width [] wide full = tt
rows-fit place count width (row ∷ rows) wide full = (
  record { wide = wide 0 [] (omega arith); fields = fields-count count (get_or row place Null) (full 0 Null (omega arith)) },
  rows-fit place count width rows
      (λ k none small. wide (suc k) none (omega (arith, small))) (λ k none small. full (suc k) none (omega (arith, small))),
)

-- ---- the tables

tail-values : (rows : List Row) (j : ℕ) → column_values j (map (drop 1) rows) ≡ column_values (suc j) rows
tail-values [] j = refl
tail-values ([] ∷ rows) j = ap (λ (vs : List Value). Null ∷ vs) (tail-values rows j)
tail-values ((v ∷ row) ∷ rows) j = ap (λ (vs : List Value). get_or row j Null ∷ vs) (tail-values rows j)

field-items : (fields : Members) (rows : List Row) → AreFieldItems fields rows → (j : ℕ) (none : Column) → j < length (member_columns fields)
    → AreItems (get_or (member_columns fields) j none).kind (column_values j rows)
field-items no_members rows items j none small = absurd (omega (arith, small))
field-items (more_members name kind rest) rows items zero none small = items.0
field-items (more_members name kind rest) rows items (suc j) none small =
    subst (AreItems (get_or (member_columns rest) j none).kind) (tail-values rows j)
    (field-items rest (map (drop 1) rows) items.1 j none (omega (arith, small)))

module _ (place : ℕ) (fields : Members) (columns : List Column) (inside : place < length columns)
    (is_struct : (column_at columns place).kind ≡ Columns fields) where
  pub table-fits : (rows : List Row) → IsTable columns rows → AllByRecursion (RowFits place (length (member_columns fields)) (length columns)) rows
  table-fits rows table =
      let items = subst (λ kind. AreItems kind (column_values place rows)) is_struct (table.items place no_column inside) in
      rows-fit place (length (member_columns fields)) (length columns) rows table.widths items.0

  table-after : (rows : List Row) → IsTable columns rows → IsTable (unpacked_columns place fields columns) (map (unpacked place) rows)
  table-after rows table =
      let inner = member_columns fields in
      let count = length inner in
      let width = length columns in
      let all = table-fits rows table in
      let items = subst (λ kind. AreItems kind (column_values place rows)) is_struct (table.items place no_column inside) in
      record {
        widths = widths-after place count width inside rows all (length (spliced place inner columns)) (length-spliced place inner columns inside);
        items = each-holds (λ (c : Column) (vs : List Value). AreItems c.kind vs) place inner columns inside
            (λ k. column_values k (map (unpacked place) rows)) (λ k. column_values k rows) (λ j. column_values j (map fields_of (column_values place rows)))
            (front-values place count width inside rows all) (middle-values place count width inside rows all)
            (behind-values place count width inside rows all)
            table.items (field-items fields (map fields_of (column_values place rows)) items.1);
      }

  tables-after : (ahead : List (List Row)) → AllByRecursion (IsTable columns) ahead
      → AllByRecursion (IsTable (unpacked_columns place fields columns)) (map (map (unpacked place)) ahead)
  tables-after [] tables = tt
  tables-after (rows ∷ more) tables = (table-after rows tables.0, tables-after more tables.1)

rows-after : (place : ℕ) (ahead : List (List Row)) → total_rows (map (map (unpacked place)) ahead) ≡ total_rows ahead
rows-after place [] = refl
rows-after place (rows ∷ more) = let e = rows-after place more in omega (arith, e, length-map rows (unpacked place))

pub unpacked_tables : (place : ℕ) (kept : List ColumnType) (before : List Column) (ahead : List (List Row)) → ∥ UnpackFits place kept before ∥₁
    → LawfulTables before ahead → LawfulTables (map column_of kept) (map (map (unpacked place)) ahead)
unpacked_tables place kept before ahead fits lawful =
    let fit = told place kept before fits in
    subst (λ cs. LawfulTables cs (map (map (unpacked place)) ahead)) (sym fit.columns)
    (record {
      tables = tables-after place fit.fields before fit.inside fit.is_struct ahead lawful.tables;
      rows = let e = rows-after place ahead in omega (arith, e, lawful.rows);
    })
