-- The row of totals fits its columns, which makes a table, a chunk and lawful columns of them.
use Rattle.std.proofs.Common.{arith, ◌≡◌, ◌∙◌, ◌≤◌, ◌<◌, ◌+◌, ◌*◌, ◌++◌, ◌^◌, ℕ, zero, suc, List, [], ◌∷◌, length, map, get_or, All, refl, sym, ap, subst}
use Rattle.std.specs.Prelude.{Option, None, Some, Bool, true, false, ◌&&◌}
use Rattle.std.proofs.lemmas.Bool.{false≢true}
use Rattle.std.specs.List.{AllByRecursion, concat, flat_map, list_all, sum_by}
use Rattle.std.proofs.Math.Logic.{∥∥₁_elim}
use Rattle.std.proofs.Props.{props}
use Rattle.std.proofs.lemmas.List.{length-append, length-map, map-append}
use Rattle.std.proofs.lemmas.List.Elements.{recursion_from_All}
use Rattle.std.proofs.lemmas.List.Sums.{sum_by-cons}
use Rattle.csv_read.specs.Chunks.{FitFrom, FitsKind, blocks_from, chunk_blocks, column_blocks}
use Rattle.data_types.specs.ColumnForms.{AreColumnKinds, IsColumnKind}
use Rattle.data_types.specs.ColumnView.{column_of}
use Rattle.data_types.specs.FieldText.{IsValueOf}
use Rattle.data_types.specs.promise.Parts.{column_values, picked}
use Rattle.data_types.specs.Parts.{joined_rows, AreWithin}
use Rattle.data_types.specs.promise.Table.{Column, Kind, Flat, Dict, Columns, Row}
use Rattle.data_types.specs.declared.kind.DataType.{DataType}
use Rattle.data_types.specs.promise.Value.{Value, Null, byte_total, bytes_of}
use Rattle.data_types.specs.declared.kind.ColumnType.{ColumnType}
use Rattle.data_types.specs.declared.row_fault.RowFault.{RowFault}
use Rattle.data_types.specs.promise.ColumnKinds.{type_of_columns}
use Rattle.schema_check.specs.promise.ColumnSchema.{SchemaOf}
use Rattle.schema_check.specs.promise.Schemas.{TypedOf}
use Rattle.tree_model.specs.promise.TreeCost.{Nodes}
use Rattle.tree_model.specs.Tree.{Depth}
use Rattle.unit_pass.specs.declared.pass.TheConstants.{CHUNK}
use Rattle.column_fill.proofs.ColumnBlocks.{blocks-are}
use Rattle.column_fill.proofs.ValuesTaken.{values-fit}
use Rattle.stage_model.specs.promise.Stages.{at_end}
use Rattle.stage_model.specs.Stages.{numbers_at, totals_row}
use Rattle.stage_model.specs.promise.Traffic.{Made, blocks_from as made_from, kind_blocks, kind_nodes, table_nodes}
use Rattle.stage_model.specs.Traffic.{table_blocks}
use Rattle.stage_model.specs.promise.Typing.{is_summed, no_column, totals_columns}
use Rattle.stream_face.specs.Lawful.{AreItems, AreValues, DictsHaveBytes, IsTable, LawfulColumns, LawfulTables, column_leaves, leaves, total_rows}
use Rattle.stages.proofs.ColumnSets.{same_columns}
use Rattle.total_stage.specs.Rows.{RowFits, ValueFits}
use Rattle.total_stage.specs.Fits.{CanTotal, TotalsFits}
use Rattle.total_stage.specs.Froms.{ahead_from}
use Rattle.total_stage.specs.declared.numbers.Totals.{Totals}
use Rattle.total_stage.proofs.Adding.{all-both}
use Rattle.total_stage.proofs.SummedKinds.{SummedColumn, count-fits, greatest-fits, least-fits, sum-fits}

-- ---- the rows of tables

pub joined-long : (ahead : List (List Row)) → length (joined_rows ahead) ≡ total_rows ahead
joined-long [] = refl
joined-long (rows ∷ more) = omega (arith, length-append rows (joined_rows more), joined-long more)

pub table-values : (columns : List Column) (place : ℕ) (kind : DataType) (rows : List Row) → place < length columns
    → (get_or columns place no_column).kind ≡ Flat kind → IsTable columns rows → AllByRecursion (IsValueOf kind) (column_values place rows)
table-values columns place kind rows inside is table =
    let items : AreValues kind (column_values place rows) =
    subst (λ (k : Kind). AreItems k (column_values place rows)) is (table.items place no_column inside) in
    recursion_from_All (IsValueOf kind) (column_values place rows) items.0

joined-values : (columns : List Column) (place : ℕ) (kind : DataType) (ahead : List (List Row)) → place < length columns
    → (get_or columns place no_column).kind ≡ Flat kind → AllByRecursion (IsTable columns) ahead
    → AllByRecursion (IsValueOf kind) (column_values place (joined_rows ahead))
joined-values columns place kind [] inside is tables = tt
joined-values columns place kind (rows ∷ more) inside is tables =
    subst (AllByRecursion (IsValueOf kind)) (sym (map-append (λ (row : Row). get_or row place Null) rows (joined_rows more)))
    (all-both (IsValueOf kind) (column_values place rows) (column_values place (joined_rows more)) (table-values columns place kind rows inside is tables.0)
    (joined-values columns place kind more inside is tables.1))

-- ---- the picked columns are totalled

-- a kind that is totalled is one of plain values
pub record PlainSummed (c : Column) : Type 0 where
  pub kind : DataType
  pub is : c.kind ≡ Flat kind
  pub ok : IsColumnKind kind
  pub summed : is_summed (Flat kind) ≡ true

plain-summed : (c : Column) (kind : Kind) → c.kind ≡ kind → AreColumnKinds kind → is_summed kind ≡ true → PlainSummed c
plain-summed c (Flat kind) is ok summed = record { kind = kind; is = is; ok = ok; summed = summed }
plain-summed c (Dict kind) is ok summed = absurd (false≢true summed)
plain-summed c (Columns _) is ok summed = absurd (false≢true summed)

and-both : (a b : Bool) → (a && b) ≡ true → (a ≡ true) × (b ≡ true)
and-both true true e = (refl, refl)
and-both true false e = absurd (false≢true e)
and-both false b e = absurd (false≢true e)

summed-at : (picks : List ℕ) (before : List Column) (k : ℕ) → list_all (λ c. is_summed c.kind) (picked no_column picks before) ≡ true → k < length picks
    → is_summed (get_or before (get_or picks k 0) no_column).kind ≡ true
summed-at [] before k all small = absurd (omega (arith, small))
summed-at (p ∷ picks) before zero all small =
    (and-both (is_summed (get_or before p no_column).kind) (list_all (λ c. is_summed c.kind) (picked no_column picks before)) all).0
summed-at (p ∷ picks) before (suc k) all small =
    summed-at picks before k (and-both (is_summed (get_or before p no_column).kind) (list_all (λ c. is_summed c.kind) (picked no_column picks before)) all).1
    (omega (arith, small))

pub picked-plain : (picks : List ℕ) (before : List Column) (k : ℕ) → CanTotal picks before → All (λ c. AreColumnKinds c.kind) before → k < length picks
    → PlainSummed (get_or before (get_or picks k 0) no_column)
picked-plain picks before k can kinds small =
    let p = get_or picks k 0 in
    plain-summed (get_or before p no_column) (get_or before p no_column).kind refl (kinds p no_column (can.within k small))
    (summed-at picks before k can.summed small)

abbrev pub AreSummed : List ℕ → List Column → List Row → Type 0
AreSummed picks before rows = (k : ℕ) → k < length picks → SummedColumn (get_or before (get_or picks k 0) no_column) (column_values (get_or picks k 0) rows)

-- of no rows, and of all rows of lawful tables
pub none-summed : (picks : List ℕ) (before : List Column) → CanTotal picks before → All (λ c. AreColumnKinds c.kind) before → AreSummed picks before []
none-summed picks before can kinds k small =
    let is = picked-plain picks before k can kinds small in
    record { kind = is.kind; is = is.is; ok = is.ok; summed = is.summed; values_of = tt; few = omega arith }

pub all-summed : (picks : List ℕ) (before : List Column) (ahead : List (List Row)) → CanTotal picks before → All (λ c. AreColumnKinds c.kind) before
    → LawfulTables before ahead → AreSummed picks before (joined_rows ahead)
all-summed picks before ahead can kinds lawful k small =
    let is = picked-plain picks before k can kinds small in
    let p = get_or picks k 0 in
    record {
      kind = is.kind;
      is = is.is;
      ok = is.ok;
      summed = is.summed;
      values_of = joined-values before p is.kind ahead (can.within k small) is.is lawful.tables;
      few = omega (arith, length-map (joined_rows ahead) (λ (row : Row). get_or row p Null), joined-long ahead, lawful.rows);
    }

-- ---- the row fits

abbrev FitAll : List Column → Row → Type 0
FitAll [] [] = Unit {0}
FitAll (c ∷ cs) (v ∷ vs) = ValueFits c v × FitAll cs vs
FitAll _ _ = ⊥

fit-all : (picks : List ℕ) (before : List Column) (rows : List Row) → AreSummed picks before rows
    → FitAll (flat_map totals_columns (picked no_column picks before)) (totals_row picks rows)
fit-all [] before rows are = tt
fit-all (p ∷ picks) before rows are =
    let c = get_or before p no_column in
    let is : SummedColumn c (column_values p rows) = are 0 (omega arith) in (
      count-fits _ c (column_values p rows) is,
      (
        sum-fits _ c (column_values p rows) is,
        (
          least-fits _ c (column_values p rows) is,
          (greatest-fits _ c (column_values p rows) is, fit-all picks before rows (λ k small. are (suc k) (omega (arith, small)))),
        ),
      ),
    )

fit-each : (columns : List Column) (row : Row) → FitAll columns row → RowFits columns row
fit-each [] [] fit = record { width = refl; each = λ k none small. absurd (omega (arith, small)) }
fit-each (c ∷ cs) (v ∷ vs) fit =
    let rest = fit-each cs vs fit.1 in
    record { width = ap suc rest.width; each = by-place fit.0 rest }
  where
    by-place : ValueFits c v → RowFits cs vs → (k : ℕ) (none : Column) → k < length (c ∷ cs) → ValueFits (get_or (c ∷ cs) k none) (get_or (v ∷ vs) k Null)
    by-place here rest zero none small = here
    by-place here rest (suc k) none small = rest.each k none (omega (arith, small))
fit-each [] (v ∷ vs) fit = absurd fit
fit-each (c ∷ cs) [] fit = absurd fit

pub row-fits : (picks : List ℕ) (before : List Column) (rows : List Row) → AreSummed picks before rows
    → RowFits (flat_map totals_columns (picked no_column picks before)) (totals_row picks rows)
row-fits picks before rows are = fit-each _ _ (fit-all picks before rows are)

-- ---- what a row that fits its columns makes of them

one-value : (kind : DataType) (value : Value) → IsValueOf kind value → bytes_of value ≡ [] → AreValues kind (value ∷ [])
one-value kind value is none =
    let bytes = ap (λ (bytes : List ℕ). length (bytes ++ [])) none in
    (only, omega (arith, bytes))
  where
    only : All (IsValueOf kind) (value ∷ [])
    only zero d small = is
    only (suc k) d small = absurd (omega (arith, small))

pub one-table : (columns : List Column) (row : Row) → RowFits columns row → IsTable columns (row ∷ [])
one-table columns row fits = record {
  widths = width;
  items = λ k none small.
      let is = fits.each k none small in
      subst (λ (kind : Kind). AreItems kind (get_or row k Null ∷ [])) (sym is.is) (one-value is.kind (get_or row k Null) is.value_of is.no_bytes);
}
  where
    width : All (λ (r : Row). length r ≡ length columns) (row ∷ [])
    width zero d small = fits.width
    width (suc k) d small = absurd (omega (arith, small))

abbrev FitBehind : ℕ → List Column → Row → Type 0
FitBehind place columns row = (j : ℕ) (none : Column) → j < length columns → ValueFits (get_or columns j none) (get_or row (place + j) Null)

behind-first : (place : ℕ) (c : Column) (cs : List Column) (row : Row) → FitBehind place (c ∷ cs) row → ValueFits c (get_or row place Null)
behind-first place c cs row fit = subst (λ (n : ℕ). ValueFits c (get_or row n Null)) (omega arith) (fit 0 c (omega arith))

behind-rest : (place : ℕ) (c : Column) (cs : List Column) (row : Row) → FitBehind place (c ∷ cs) row → FitBehind (place + 1) cs row
behind-rest place c cs row fit = λ j none small.
    subst (λ (n : ℕ). ValueFits (get_or cs j none) (get_or row n Null)) (omega arith) (fit (suc j) none (omega (arith, small)))

pub from-row : (columns : List Column) (row : Row) → RowFits columns row → FitBehind 0 columns row
from-row columns row fits = λ j none small. subst (λ (n : ℕ). ValueFits (get_or columns j none) (get_or row n Null)) (omega arith) (fits.each j none small)

pub fit-from : (place : ℕ) (columns : List Column) (row : Row) → FitBehind place columns row → FitFrom place columns (row ∷ [])
fit-from place [] row fit = tt
fit-from place (c ∷ cs) row fit =
    let is = behind-first place c cs row fit in (
      subst (λ (kind : Kind). FitsKind kind (get_or row place Null ∷ [])) (sym is.is)
          (values-fit is.kind (get_or row place Null ∷ []) is.ok (one-value is.kind (get_or row place Null) is.value_of is.no_bytes) (omega arith)),
      fit-from (place + 1) cs row (behind-rest place c cs row fit),
    )

pub made-blocks : (place : ℕ) (columns : List Column) (row : Row) → FitBehind place columns row
    → blocks_from place columns (row ∷ []) ≡ made_from Made place columns (row ∷ [])
made-blocks place [] row fit = refl
made-blocks place (c ∷ cs) row fit =
    let is = behind-first place c cs row fit in
    let values = get_or row place Null ∷ [] in
    let one = one-value is.kind (get_or row place Null) is.value_of is.no_bytes in
    let here : column_blocks c.kind values ≡ kind_blocks Made c.kind values =
    subst (λ (kind : Kind). column_blocks kind values ≡ kind_blocks Made kind values) (sym is.is) (blocks-are is.kind values is.ok one.0) in
    let rest = made-blocks (place + 1) cs row (behind-rest place c cs row fit) in
    omega (arith, here, rest)

pub made-nodes : (place : ℕ) (columns : List Column) (row : Row) → FitBehind place columns row
    → sum_by (λ c. kind_nodes Made c.kind) columns ≡ length columns
made-nodes place [] row fit = refl
made-nodes place (c ∷ cs) row fit =
    let one : kind_nodes Made c.kind ≡ 1 = ap (kind_nodes Made) (behind-first place c cs row fit).is in
    let rest = made-nodes (place + 1) cs row (behind-rest place c cs row fit) in
    sum_by-cons (λ (c : Column). kind_nodes Made c.kind) c cs ∙ omega (arith, one, rest)

flat-leaves : (place : ℕ) (columns : List Column) (row : Row) → FitBehind place columns row → column_leaves columns ≡ length columns
flat-leaves place [] row fit = refl
flat-leaves place (c ∷ cs) row fit =
    let one : leaves c.kind ≡ 1 = ap leaves (behind-first place c cs row fit).is in
    omega (arith, one, flat-leaves (place + 1) cs row (behind-rest place c cs row fit))

-- ---- the columns and the tables of totals

totals-long : (cs : List Column) → length (flat_map totals_columns cs) ≡ 4 * length cs
totals-long [] = refl
totals-long (c ∷ cs) = omega (arith, totals-long cs)

pub can-total : (picks : List ℕ) (kept : List ColumnType) (before : List Column) → ∥ TotalsFits picks kept before ∥₁ → CanTotal picks before
can-total picks kept before fits = record {
  within = λ k h. ∥∥₁_elim fits (hlevel props) (λ f. f.can.within k h);
  summed = ∥∥₁_elim fits (hlevel props) (λ f. f.can.summed);
}

pub kept-are : (picks : List ℕ) (kept : List ColumnType) (before : List Column) → ∥ TotalsFits picks kept before ∥₁
    → map column_of kept ≡ flat_map totals_columns (picked no_column picks before)
kept-are picks kept before fits =
    same_columns (map column_of kept) (flat_map totals_columns (picked no_column picks before)) (λ (f : TotalsFits picks kept before). f.columns) fits

pub few-kept : (picks : List ℕ) (kept : List ColumnType) (before : List Column) → ∥ TotalsFits picks kept before ∥₁ → length (map column_of kept) ≤ 4096
few-kept picks kept before fits =
    let few : 4 * length picks ≤ 4096 = ∥∥₁_elim fits (hlevel props) (λ f. f.few) in
    let same = ap (length {A = Column}) (kept-are picks kept before fits) in
    let picked_long = length-map picks (λ p. get_or before p no_column) in
    omega (arith, few, same, totals-long (picked no_column picks before), picked_long)

pub kept-fit : (picks : List ℕ) (kept : List ColumnType) (before : List Column) (rows : List Row) → ∥ TotalsFits picks kept before ∥₁
    → AreSummed picks before rows → RowFits (map column_of kept) (totals_row picks rows)
kept-fit picks kept before rows fits are =
    subst (λ (cs : List Column). RowFits cs (totals_row picks rows)) (sym (kept-are picks kept before fits)) (row-fits picks before rows are)

-- the law of schemas
abbrev SchemasAreTyped : Type 0
SchemasAreTyped = (columns : List Column) → All (λ c. AreColumnKinds c.kind) columns → Depth (SchemaOf columns) ≤ 64
    → TypedOf (SchemaOf columns) (type_of_columns columns)

pub totals-lawful : (picks : List ℕ) (kept : List ColumnType) → SchemasAreTyped → Nodes (SchemaOf (map column_of kept)) ≤ CHUNK
    → Depth (SchemaOf (map column_of kept)) ≤ 64 → (before : List Column) → ∥ TotalsFits picks kept before ∥₁ → LawfulColumns before
    → LawfulColumns (map column_of kept)
totals-lawful picks kept typed small not_deep before fits lawful =
    let fit = kept-fit picks kept before [] fits (none-summed picks before (can-total picks kept before fits) lawful.kinds) in
    let kinds : All (λ c. AreColumnKinds c.kind) (map column_of kept) = λ k none inside.
    let is = fit.each k none inside in subst AreColumnKinds (sym is.is) is.ok in
    record {
      kinds = kinds;
      dicts = λ k none inside. subst DictsHaveBytes (sym (fit.each k none inside).is) tt;
      few = omega (
        arith,
        flat-leaves 0 (map column_of kept) (totals_row picks []) (from-row (map column_of kept) (totals_row picks []) fit),
        few-kept picks kept before fits,
      );
      typed = typed (map column_of kept) kinds not_deep;
      small = small;
      not_deep = not_deep;
    }

end-lawful : (columns : List Column) (row : Row) (ending : Option RowFault) → RowFits columns row → LawfulTables columns (at_end ending (row ∷ []))
end-lawful columns row None fits = record { tables = (one-table columns row fits, tt); rows = omega arith }
end-lawful columns row (Some fault) fits = record { tables = tt; rows = omega arith }

-- where none have begun
pub totals-tables : (sums : List Totals) (picks : List ℕ) (kept : List ColumnType) (given : Bool) (ending : Option RowFault) (before : List Column)
    (tables : List (List Row)) → sums ≡ [] → ∥ TotalsFits picks kept before ∥₁ → LawfulColumns before → LawfulTables before tables
    → LawfulTables (map column_of kept) (ahead_from sums picks given ending tables)
totals-tables sums picks kept true ending before tables none fits columns lawful = record { tables = tt; rows = omega arith }
totals-tables sums picks kept false ending before tables none fits columns lawful =
    subst (λ (s : List Totals). LawfulTables (map column_of kept) (ahead_from s picks false ending tables)) (sym none)
    (end-lawful (map column_of kept) (totals_row picks (joined_rows tables)) ending
    (kept-fit picks kept before (joined_rows tables) fits (all-summed picks before tables (can-total picks kept before fits) columns.kinds lawful)))
