-- What holds of picked columns and of their tables, since it holds of all columns.
use Rattle.std.proofs.Common.{arith, ◌≡◌, ◌≤◌, ◌<◌, ◌∙◌, ℕ, zero, suc, List, [], ◌∷◌, length, map, get_or, All, refl, sym, ap, subst}
use Rattle.std.specs.List.{AllByRecursion}
use Rattle.std.proofs.Math.Logic.{∥∥₁_elim}
use Rattle.std.proofs.Props.{props}
use Rattle.std.proofs.lemmas.List.{length-map}
use Rattle.data_types.specs.ColumnForms.{AreColumnKinds}
use Rattle.data_types.specs.promise.Parts.{column_values, picked}
use Rattle.data_types.specs.Parts.{AreWithin}
use Rattle.data_types.specs.promise.Table.{Column, Row}
use Rattle.data_types.specs.promise.Value.{Value, Null}
use Rattle.data_types.specs.declared.kind.ColumnType.{ColumnType}
use Rattle.tree_model.specs.promise.TreeData.{trees}
use Rattle.tree_model.specs.Tree.{Depth, depth_of_all}
use Rattle.tree_model.specs.promise.TreeCost.{Nodes}
use Rattle.raw_schema.specs.Members.{nodes_of_all}
use Rattle.data_types.specs.promise.ColumnKinds.{type_of_columns}
use Rattle.data_types.specs.ColumnKinds.{type_of_column, types_of_columns}
use Rattle.schema_check.specs.promise.ColumnSchema.{SchemaOf}
use Rattle.schema_check.specs.ColumnSchema.{schema_of_column}
use Rattle.schema_check.specs.promise.Schemas.{KidsTyped, TypedFrom, TypedOf}
use Rattle.arr_move.specs.TreeActs.{Distinct}
use Rattle.stream_face.specs.Lawful.{AreItems, DictsHaveBytes, IsTable, LawfulColumns, LawfulTables, leaves, total_rows}
use Rattle.stages.proofs.PickedColumns.{all-picked, as-many, column-at, first-within, leaves-are, rest-within, sum-picked, total}
use Rattle.stage_kernels.specs.Picks.{PickFits, no_column, picked_columns, picked_rows}

-- ---- the items

item-at : (picks : List ℕ) (row : Row) (j : ℕ) → j < length picks → get_or (picked Null picks row) j Null ≡ get_or row (get_or picks j 0) Null
item-at [] row j inside = absurd (omega (arith, inside))
item-at (p ∷ picks) row zero inside = refl
item-at (p ∷ picks) row (suc j) inside = item-at picks row j (omega (arith, inside))

pub items-same : (picks : List ℕ) (rows : List Row) (j : ℕ) → j < length picks
    → column_values j (picked_rows picks rows) ≡ column_values (get_or picks j 0) rows
items-same picks [] j inside = refl
items-same picks (row ∷ rows) j inside =
    ap (λ (v : Value). v ∷ column_values j (picked_rows picks rows)) (item-at picks row j inside)
    ∙ ap (λ (vs : List Value). get_or row (get_or picks j 0) Null ∷ vs) (items-same picks rows j inside)

nodes-are : (columns : List Column) → nodes_of_all (trees (map schema_of_column columns)) ≡ total (map (λ c. Nodes (schema_of_column c)) columns)
nodes-are [] = refl
nodes-are (c ∷ cs) = let e = nodes-are cs in omega (arith, e)

-- ---- the schema

kid-typed : (columns : List Column) (p : ℕ) → p < length columns → KidsTyped 2 (trees (map schema_of_column columns)) (trees (types_of_columns columns))
    → TypedFrom 2 (schema_of_column (get_or columns p no_column)) (type_of_column (get_or columns p no_column))
kid-typed [] p inside kids = absurd (omega (arith, inside))
kid-typed (c ∷ cs) zero inside kids = kids.0
kid-typed (c ∷ cs) (suc p) inside kids = kid-typed cs p (omega (arith, inside)) kids.1

pub kids-typed : (picks : List ℕ) (columns : List Column) → AreWithin (length columns) picks
    → KidsTyped 2 (trees (map schema_of_column columns)) (trees (types_of_columns columns))
    → KidsTyped 2 (trees (map schema_of_column (picked_columns picks columns))) (trees (types_of_columns (picked_columns picks columns)))
kids-typed [] columns within kids = tt
kids-typed (p ∷ picks) columns within kids =
    (kid-typed columns p (first-within (length columns) p picks within) kids, kids-typed picks columns (rest-within (length columns) p picks within) kids)

picked-typed : (picks : List ℕ) (columns : List Column) → AreWithin (length columns) picks → TypedOf (SchemaOf columns) (type_of_columns columns)
    → TypedOf (SchemaOf (picked_columns picks columns)) (type_of_columns (picked_columns picks columns))
picked-typed picks columns within typed = (
  record { on_level = typed.0.on_level; format = typed.0.format; meta = typed.0.meta; children = tt; index = tt; map = tt },
  kids-typed picks columns within typed.1,
  tt,
)

one-depth : (columns : List Column) (p : ℕ) → p < length columns
    → Depth (schema_of_column (get_or columns p no_column)) ≤ depth_of_all (trees (map schema_of_column columns))
one-depth [] p inside = absurd (omega (arith, inside))
one-depth (c ∷ cs) zero inside = omega arith
one-depth (c ∷ cs) (suc p) inside = let e = one-depth cs p (omega (arith, inside)) in omega (arith, e)

all-depth : (picks : List ℕ) (columns : List Column) → AreWithin (length columns) picks
    → depth_of_all (trees (map schema_of_column (picked_columns picks columns))) ≤ depth_of_all (trees (map schema_of_column columns))
all-depth [] columns within = omega arith
all-depth (p ∷ picks) columns within =
    let first = one-depth columns p (first-within (length columns) p picks within) in
    let rest = all-depth picks columns (rest-within (length columns) p picks within) in
    omega (arith, first, rest)

pub picked_lawful : (picks : List ℕ) (kept : List ColumnType) (before : List Column) → ∥ PickFits picks kept before ∥₁ → LawfulColumns before
    → LawfulColumns (picked_columns picks before)
picked_lawful picks kept before fits lawful =
    let within : AreWithin (length before) picks = λ k h. ∥∥₁_elim fits (hlevel props) (λ f. f.within k h) in
    let distinct : Distinct picks = λ i j below small. ∥∥₁_elim fits (hlevel props) (λ f. f.distinct i j below small) in
    record {
      kinds = all-picked (λ c. AreColumnKinds c.kind) picks before within lawful.kinds;
      dicts = all-picked (λ c. DictsHaveBytes c.kind) picks before within lawful.dicts;
      few =
          let a = sum-picked (λ c. leaves c.kind) before picks distinct within in
          omega (arith, a, leaves-are before, leaves-are (picked_columns picks before), lawful.few);
      typed = picked-typed picks before within lawful.typed;
      small =
          let a = sum-picked (λ c. Nodes (schema_of_column c)) before picks distinct within in
          omega (arith, a, nodes-are before, nodes-are (picked_columns picks before), lawful.small);
      not_deep = let a = all-depth picks before within in omega (arith, a, lawful.not_deep);
    }

-- ---- the tables

widths-kept : (picks : List ℕ) (columns : List Column) (rows : List Row)
    → All (λ (row : Row). length row ≡ length (picked_columns picks columns)) (picked_rows picks rows)
widths-kept picks columns [] k none small = absurd (omega (arith, small))
widths-kept picks columns (row ∷ rows) zero none small = omega (arith, length-map picks (λ p. get_or row p Null), as-many picks columns)
widths-kept picks columns (row ∷ rows) (suc k) none small = widths-kept picks columns rows k none (omega (arith, small))

table-kept : (picks : List ℕ) (columns : List Column) (rows : List Row) → AreWithin (length columns) picks → IsTable columns rows
    → IsTable (picked_columns picks columns) (picked_rows picks rows)
table-kept picks columns rows within table = record {
  widths = widths-kept picks columns rows;
  items = λ k none small.
      let inside : k < length picks = omega (arith, small, as-many picks columns) in
      subst (λ (c : Column). AreItems c.kind (column_values k (picked_rows picks rows))) (sym (column-at picks columns k none inside))
      (subst (AreItems (get_or columns (get_or picks k 0) no_column).kind) (sym (items-same picks rows k inside))
      (table.items (get_or picks k 0) no_column (within k inside)));
}

tables-kept : (picks : List ℕ) (columns : List Column) (ahead : List (List Row)) → AreWithin (length columns) picks → AllByRecursion (IsTable columns) ahead
    → AllByRecursion (IsTable (picked_columns picks columns)) (map (picked_rows picks) ahead)
tables-kept picks columns [] within tables = tt
tables-kept picks columns (rows ∷ more) within tables = (table-kept picks columns rows within tables.0, tables-kept picks columns more within tables.1)

rows-kept : (picks : List ℕ) (ahead : List (List Row)) → total_rows (map (picked_rows picks) ahead) ≡ total_rows ahead
rows-kept picks [] = refl
rows-kept picks (rows ∷ more) = let e = rows-kept picks more in omega (arith, e, length-map rows (picked Null picks))

pub picked_tables : (picks : List ℕ) (kept : List ColumnType) (columns : List Column) (ahead : List (List Row)) → ∥ PickFits picks kept columns ∥₁
    → LawfulTables columns ahead
    → LawfulTables (picked_columns picks columns) (map (picked_rows picks) ahead)
picked_tables picks kept columns ahead fits lawful =
    let within : AreWithin (length columns) picks = λ k h. ∥∥₁_elim fits (hlevel props) (λ f. f.within k h) in
    record {
      tables = tables-kept picks columns ahead within lawful.tables;
      rows = let e = rows-kept picks ahead in omega (arith, e, lawful.rows);
    }
