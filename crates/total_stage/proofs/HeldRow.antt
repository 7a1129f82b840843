-- Builders that hold the columns of a row, one after the other.
use Rattle.std.proofs.Common.{arith, ◌≡◌, ◌∙◌, ◌≤◌, ◌<◌, ◌+◌, ◌++◌, ℕ, zero, suc, ℤ, List}
use Rattle.std.proofs.Common.{[], ◌∷◌, length, map, take, get_or, refl, sym, ap, subst, below_more}
use Rattle.std.proofs.Math.Seq.{take-length}
use Rattle.std.proofs.lemmas.List.{get_or-map, length-append, length-map}
use Rattle.std.specs.Prelude.{Option}
use Rattle.col_build.specs.Holding.{Holds}
use Rattle.col_build.specs.declared.builder.Builder.{Builder}
use Rattle.csv_read.specs.Body.{HoldsKind}
use Rattle.data_types.specs.ColumnView.{column_of}
use Rattle.data_types.specs.promise.Table.{Column, Kind, Flat, Row}
use Rattle.data_types.specs.promise.Value.{Value, Null}
use Rattle.data_types.specs.declared.kind.ColumnType.{ColumnType}
use Rattle.data_types.specs.declared.kind.DataType.{DataType}
use Rattle.column_fill.proofs.ValuesTaken.{value-taken}
use Rattle.stage_model.specs.Stages.{totals_row}
use Rattle.total_stage.specs.Rows.{RowFits, Takes, ValueFits}
use Rattle.total_stage.specs.Sums.{AreSums}
use Rattle.total_stage.specs.Totals.{number_value}
use Rattle.total_stage.specs.declared.numbers.Totals.{Totals}

-- the first n columns of the row
pub record HoldFirst (builders : List Builder) (columns : List Column) (row : Row) (done : ℕ) : Type 0 where
  pub count : length builders ≡ done
  pub each : (j : ℕ) → j < done → (b : Builder) (c : Column) → HoldsKind (get_or builders j b) (get_or columns j c).kind (get_or row j Null ∷ [])

push-before : {X : Type 0} (xs : List X) (x d : X) (j : ℕ) → j < length xs → get_or (xs ++ x ∷ []) j d ≡ get_or xs j d
push-before [] x d j small = absurd (omega (arith, small))
push-before (y ∷ xs) x d zero small = refl
push-before (y ∷ xs) x d (suc j) small = push-before xs x d j (omega (arith, small))

push-at : {X : Type 0} (xs : List X) (x d : X) (j : ℕ) → j ≡ length xs → get_or (xs ++ x ∷ []) j d ≡ x
push-at [] x d zero same = refl
push-at [] x d (suc j) same = absurd (omega (arith, same))
push-at (y ∷ xs) x d zero same = absurd (omega (arith, same))
push-at (y ∷ xs) x d (suc j) same = push-at xs x d j (omega (arith, same))

-- one column more
pub hold-more : (builders more : List Builder) (builder : Builder) (columns : List Column) (row : Row) (done : ℕ) (column : Column) (value : Value)
    → HoldFirst builders columns row done → more ≡ builders ++ builder ∷ [] → ((c : Column) → get_or columns done c ≡ column) → get_or row done Null ≡ value
    → HoldsKind builder column.kind (value ∷ [])
    → HoldFirst more columns row (done + 1)
hold-more builders more builder columns row done column value held pushed is same holds =
    subst (λ (bs : List Builder). HoldFirst bs columns row (done + 1)) (sym pushed) (record {
      count = omega (arith, length-append builders (builder ∷ []), held.count);
      each = below_more (λ (j : ℕ). (b : Builder) (c : Column)
          → HoldsKind (get_or (builders ++ builder ∷ []) j b) (get_or columns j c).kind (get_or row j Null ∷ [])) done
          (λ j small b c.
          subst (λ (it : Builder). HoldsKind it (get_or columns j c).kind (get_or row j Null ∷ []))
          (sym (push-before builders builder b j (omega (arith, small, held.count)))) (held.each j small b c))
          (λ b c.
          subst (λ (it : Builder). HoldsKind it (get_or columns done c).kind (get_or row done Null ∷ []))
          (sym (push-at builders builder b done (sym held.count)))
          (subst (λ (v : Value). HoldsKind builder (get_or columns done c).kind (v ∷ [])) (sym same)
          (subst (λ (it : Column). HoldsKind builder it.kind (value ∷ [])) (sym (is c)) holds)));
    })

-- the column and the value at a place
pub column-is : (columns : List ColumnType) (k : ℕ) (column : ColumnType) → k < length columns → column ≡ get_or columns k column
    → (c : Column) → get_or (map column_of columns) k c ≡ column_of column
column-is columns k column small is c = get_or-map column_of columns k column c small ∙ ap column_of (sym is)

pub value-is : (columns : List ColumnType) (values : List (Option ℤ)) (k : ℕ) (d : Option ℤ)
    → RowFits (map column_of columns) (map number_value values) → k < length columns
    → get_or (map number_value values) k Null ≡ number_value (get_or values k d)
value-is columns values k d fits small =
    get_or-map number_value values k d Null
    (omega (arith, fits.width, small, length-map columns column_of, length-map values number_value))

pub fits-at : (columns : List ColumnType) (values : List (Option ℤ)) (k : ℕ) (column : ColumnType) (d : Option ℤ)
    → RowFits (map column_of columns) (map number_value values) → k < length columns → column ≡ get_or columns k column
    → ValueFits (column_of column) (number_value (get_or values k d))
fits-at columns values k column d fits small is =
    let here = fits.each k (column_of column) (omega (arith, small, length-map columns column_of)) in
    subst (λ (c : Column). ValueFits c (number_value (get_or values k d))) (column-is columns k column small is (column_of column))
    (subst (ValueFits (get_or (map column_of columns) k (column_of column))) (value-is columns values k d fits small) here)

-- the values of all columns
pub row-all : (sums : List Totals) (picks : List ℕ) (rows : List Row) (row : Row) (done : ℕ) → AreSums sums picks rows → done ≡ length sums
    → row ≡ totals_row (take done picks) rows → row ≡ totals_row picks rows
row-all sums picks rows row done are all is =
    let e : done ≡ length picks = all ∙ are.count in
    is ∙ ap (λ (n : ℕ). totals_row (take n picks) rows) e ∙ ap (λ (ps : List ℕ). totals_row ps rows) (take-length picks)

-- a new builder takes a value of its type
pub new-takes : (builder : Builder) (kind : DataType) (column : Column) (value : Value) (fits : ValueFits column value) → column.kind ≡ Flat kind
    → Holds builder kind [] → Takes builder value
new-takes builder kind column value fits is holds =
    let both : ◌≡◌ {A = Kind} (Flat kind) (Flat fits.kind) = sym is ∙ fits.is in
    let same : kind ≡ fits.kind = cc in
    let none = ap (length {A = ℕ}) fits.no_bytes in
    record {
      kind = fits.kind;
      values = [];
      holds = subst (λ (k : DataType). Holds builder k []) same holds;
      few = omega arith;
      taken = value-taken fits.kind [] value fits.ok fits.value_of (omega (arith, none));
    }
