-- The rows of records by those of the first ones.
use Rattle.std.proofs.Common.{◌≡◌, ◌<◌, ◌+◌, ◌++◌, ◌∙◌, ◌⊎◌, ℕ, zero, suc, List, [], ◌∷◌, length, take, drop, Result, Ok, Err, refl, sym, ap, subst, arith, inl}
use Rattle.std.proofs.Common.{inr}
use Rattle.data_types.specs.promise.Table.{Column, Row}
use Rattle.data_types.specs.declared.row_fault.RowFault.{RowFault}
use Rattle.csv_model.specs.promise.Batches.{row_before, rows_before}
use Rattle.csv_model.specs.promise.Reading.{Record, body_from, row_of, with_row}
use Rattle.csv_read.specs.BodyRows.{with_rows}
use Rattle.csv_read.proofs.Widths.{ok-row}

-- ---- the first records, and a fault among them
-- each record spells a row
pub rows-count : (mark : List ℕ) (number : ℕ) (columns : List Column) (records : List Record) (rows : List Row)
    → body_from mark number columns records ≡ Ok rows → length rows ≡ length records
rows-count mark number columns [] rows is =
    let e : ◌≡◌ {A = Result (List Row) RowFault} (Ok []) (Ok rows) = is in let one : [] ≡ rows = cc in ap length (sym one)
rows-count mark number columns (fields ∷ records) rows is =
    let parts = ok-row (row_of mark number columns fields) (body_from mark (number + 1) columns records) rows is in
    let rest = rows-count mark (number + 1) columns records parts.1 parts.3 in
    omega (arith, ap length parts.4, rest)

-- the next records are as many as a batch takes, or the last ones
pub few-taken : (batch : ℕ) (records : List Record)
    → (length (take batch records) ≡ batch) ⊎ ((length (take batch records) < batch) × (drop batch records ≡ []))
few-taken zero records = inl refl
few-taken (suc batch) [] = inr (omega arith, refl)
few-taken (suc batch) (fields ∷ records) = elim (few-taken batch records) [
  | inl long ↦ inl (omega (arith, long))
  | inr short ↦ inr (omega (arith, short.0), short.1)
]

-- a fault among the next records is the fault of all, and there are fewer rows before it
with-err : (row : Result Row RowFault) (few all : Result (List Row) RowFault) (before : List Row) (batch : ℕ) (fault : RowFault)
    → ((g : RowFault) → few ≡ Err g → (all ≡ Err g) × (length before < batch)) → with_row row few ≡ Err fault
    → (with_row row all ≡ Err fault) × (length (row_before row before) < suc batch)
with-err (Err own) few all before batch fault same is = (is, omega arith)
with-err (Ok values) (Err own) all before batch fault same is =
    let e : ◌≡◌ {A = Result (List Row) RowFault} (Err own) (Err fault) = is in
    let inner = same own refl in
    (ap (with_row (Ok values)) inner.0 ∙ e, omega (arith, inner.1))
with-err (Ok values) (Ok rows) all before batch fault same is =
    let never : ◌≡◌ {A = Result (List Row) RowFault} (Ok (values ∷ rows)) (Err fault) = is in absurd (cc)

pub refused : (mark : List ℕ) (number batch : ℕ) (columns : List Column) (records : List Record) (fault : RowFault)
    → body_from mark number columns (take batch records) ≡ Err fault
    → (body_from mark number columns records ≡ Err fault) × (length (rows_before mark number columns records) < batch)
refused mark number zero columns records fault is = let never : ◌≡◌ {A = Result (List Row) RowFault} (Ok []) (Err fault) = is in absurd (cc)
refused mark number (suc batch) columns [] fault is = let never : ◌≡◌ {A = Result (List Row) RowFault} (Ok []) (Err fault) = is in absurd (cc)
refused mark number (suc batch) columns (fields ∷ records) fault is =
    with-err (row_of mark number columns fields) (body_from mark (number + 1) columns (take batch records)) (body_from mark (number + 1) columns records)
    (rows_before mark (number + 1) columns records) batch fault
    (λ g e. refused mark (number + 1) batch columns records g e) is

-- ---- rows behind those of other records
pub none-before : (spelled : Result (List Row) RowFault) → with_rows [] spelled ≡ spelled
none-before (Ok rows) = refl
none-before (Err fault) = refl

one-onto : (values : Row) (rows : List Row) (rest : Result (List Row) RowFault) → with_row (Ok values) (with_rows rows rest) ≡ with_rows (values ∷ rows) rest
one-onto values rows (Ok others) = refl
one-onto values rows (Err fault) = refl

-- the rows of some records are behind those of the records before them
pub body-split : (mark : List ℕ) (number : ℕ) (columns : List Column) (some others : List Record) (rows : List Row)
    → body_from mark number columns some ≡ Ok rows
    → (body_from mark number columns (some ++ others) ≡ with_rows rows (body_from mark (number + length rows) columns others))
    × (rows_before mark number columns (some ++ others) ≡ rows ++ rows_before mark (number + length rows) columns others)
body-split mark number columns [] others rows is =
    let e : ◌≡◌ {A = Result (List Row) RowFault} (Ok []) (Ok rows) = is in
    let none : [] ≡ rows = cc in
    let first : number + 0 ≡ number = omega arith in
    subst (λ (rs : List Row). (body_from mark number columns others ≡ with_rows rs (body_from mark (number + length rs) columns others))
    × (rows_before mark number columns others ≡ rs ++ rows_before mark (number + length rs) columns others)) none (
      sym (none-before (body_from mark (number + 0) columns others) ∙ ap (λ (n : ℕ). body_from mark n columns others) first),
      sym (ap (λ (n : ℕ). rows_before mark n columns others) first),
    )
body-split mark number columns (fields ∷ some) others rows is =
    let parts = ok-row (row_of mark number columns fields) (body_from mark (number + 1) columns some) rows is in
    let inner = body-split mark (number + 1) columns some others parts.1 parts.3 in
    let next : number + 1 + length parts.1 ≡ number + suc (length parts.1) = omega arith in
    subst (λ (rs : List Row). (body_from mark number columns (fields ∷ some ++ others) ≡ with_rows rs (body_from mark (number + length rs) columns others))
    × (rows_before mark number columns (fields ∷ some ++ others) ≡ rs ++ rows_before mark (number + length rs) columns others)) (sym parts.4) (
      ap (λ (r : Result Row RowFault). with_row r (body_from mark (number + 1) columns (some ++ others))) parts.2
          ∙ ap (with_row (Ok parts.0)) inner.0
          ∙ one-onto parts.0 parts.1 (body_from mark (number + 1 + length parts.1) columns others)
          ∙ ap (λ (n : ℕ). with_rows (parts.0 ∷ parts.1) (body_from mark n columns others)) next,
      ap (λ (r : Result Row RowFault). row_before r (rows_before mark (number + 1) columns (some ++ others))) parts.2
          ∙ ap (λ (rs : List Row). parts.0 ∷ rs) inner.1
          ∙ ap (λ (n : ℕ). parts.0 ∷ parts.1 ++ rows_before mark n columns others) next,
    )
