-- Reading the records of a text into the columns of a body.
use Rattle.std.proofs.Common.{◌≡◌, ◌≤◌, ◌<◌, ◌+◌, ◌^◌, ◌++◌, ◌∙◌, ℕ, zero, suc, List, [], ◌∷◌, length, take, drop, get_or, Result, Ok, Err, refl, sym, ap}
use Rattle.std.proofs.Common.{subst, arith, inl, inr, length-append, append_assoc, append-nil}
use Rattle.std.proofs.lemmas.List.{map-append, take-append-drop}
use Rattle.std.specs.List.{concat}
use Rattle.col_build.specs.declared.builder.Builder.{Builder}
use Rattle.data_types.specs.promise.Table.{Column, Kind, Row}
use Rattle.data_types.specs.promise.Value.{Value, Null, byte_total, bytes_of}
use Rattle.csv_model.specs.promise.Reading.{Record, body_from, row_of, with_row}
use Rattle.data_types.specs.declared.row_fault.RowFault.{RowFault}
use Rattle.csv_read.specs.Body.{HoldEach, HoldsBody, HoldsKind, IsBodyFault, column_values}
use Rattle.csv_read.specs.BodyRows.{AddsRow, HasBatch, HasRoomFor, HasRows, IsColumnOf, IsRowsFault, RefusesRow, RowsSoFar, with_rows}
use Rattle.csv_read.specs.RecordReader.{RecordsLeft, Takes}
use Rattle.csv_read.specs.declared.body.BodyFault.{BodyFault}
use Rattle.csv_read.specs.declared.body.BodyFault.TheVariants as faults
use Rattle.csv_read.specs.declared.body_columns.BodyColumns.{BodyColumns}
use Rattle.field_codec.specs.declared.form.FieldForm.{FieldForm}
use Rattle.field_codec.specs.declared.form.FieldForm.TheVariants.{Truths}
use Rattle.csv_read.proofs.Bodies.{few-taken, none-before, refused, rows-count}
use Rattle.csv_read.proofs.Widths.{widths-from}
use Rattle.col_build.proofs.FitsFacts.{total-push}

-- ---- sizes

-- a field is no longer than its record
field-short : (fields : Record) (j : ℕ) → length (get_or fields j []) ≤ length (concat fields)
field-short [] zero = omega arith
field-short [] (suc j) = omega arith
field-short (f ∷ fields) zero = omega (arith, length-append f (concat fields))
field-short (f ∷ fields) (suc j) = omega (arith, field-short fields j, length-append f (concat fields))

column-push : (j : ℕ) (rows : List Row) (values : Row)
    → byte_total (column_values j (rows ++ values ∷ [])) ≡ byte_total (column_values j rows) + length (bytes_of (get_or values j Null))
column-push j rows values = ap byte_total (map-append _ rows (values ∷ [])) ∙ total-push (column_values j rows) (get_or values j Null)

-- ---- records, one after the other

one-before : (rows : List Row) (values : Row) (rest : Result (List Row) RowFault)
    → with_rows rows (with_row (Ok values) rest) ≡ with_rows (rows ++ values ∷ []) rest
one-before rows values (Ok others) = ap (λ (rs : List Row). Ok rs) (sym (append_assoc rows (values ∷ []) others))
one-before rows values (Err fault) = refl

-- under the same mark, for a record of the same number
spelled-by : (mark own : List ℕ) (number other : ℕ) (columns : List Column) (fields : Record) (spelled : Result Row RowFault) → own ≡ mark → other ≡ number
    → row_of own other columns fields ≡ spelled
    → row_of mark number columns fields ≡ spelled
spelled-by mark own number other columns fields spelled same equal is =
    subst (λ (n : ℕ). row_of mark n columns fields ≡ spelled) equal (subst (λ (m : List ℕ). row_of m other columns fields ≡ spelled) same is)

-- before the first record
pub none-read : (number batch : ℕ) (columns : List Column) (made : BodyColumns) (from : RecordsLeft) → HasRows made columns []
    → RowsSoFar made.mark number batch columns from made from
none-read number batch columns made from has =
    let first : number + 0 ≡ number = omega arith in
    record {
      rows = [];
      others = batch;
      count = omega arith;
      holds = has;
      marked = refl;
      spelled = sym (none-before (body_from made.mark (number + 0) columns (take batch from.records))
          ∙ ap (λ (n : ℕ). body_from made.mark n columns (take batch from.records)) first);
      rest = refl;
      few = omega arith;
      short = λ j within. omega arith;
    }

-- there is room for one more record
pub room-for : (mark : List ℕ) (number batch : ℕ) (columns : List Column) (from to : RecordsLeft) (made : BodyColumns) (fields : Record) (rest : ℕ)
    → from.size ≤ 2 ^ 30
    → RowsSoFar mark number batch columns from made to → Takes to.size fields rest → HasRoomFor made.forms.items made.builders.items fields
room-for mark number batch columns from to made fields rest small so_far takes = record {
  columns = columns;
  rows = so_far.rows;
  held = so_far.holds.held;
  few = omega (arith, so_far.few, small);
  narrow = omega (arith, takes.count, so_far.few, small);
  bytes = λ j within. omega (arith, so_far.short j within, field-short fields j, takes.bytes, small);
}

pub rows-few : (mark : List ℕ) (number batch : ℕ) (columns : List Column) (from to : RecordsLeft) (made : BodyColumns) → from.size ≤ 2 ^ 30
    → RowsSoFar mark number batch columns from made to → made.rows ≤ 2 ^ 30
rows-few mark number batch columns from to made small so_far = omega (arith, so_far.few, so_far.holds.height, small)

-- ---- one more record
-- the next record is the first of those that are still to come
take-next : (others : ℕ) (records rest : List Record) (fields : Record) → records ≡ fields ∷ rest → take (suc others) records ≡ fields ∷ take others rest
take-next others records rest fields is = ap (take (suc others)) is

drop-next : (others : ℕ) (records rest : List Record) (fields : Record) → records ≡ fields ∷ rest → drop (suc others) records ≡ drop others rest
drop-next others records rest fields is = ap (drop (suc others)) is

one-fewer : (others : ℕ) → 1 ≤ others → (fewer : ℕ) × (others ≡ suc fewer)
one-fewer zero some = absurd (omega (arith, some))
one-fewer (suc fewer) some = (fewer, refl)

-- one more record was read and its row was added
pub one-read : (mark : List ℕ) (number batch : ℕ) (columns : List Column) (from before after : RecordsLeft) (old new : BodyColumns) (fields : Record) (n : ℕ)
    → RowsSoFar mark number batch columns from old before → old.rows < batch → n ≡ number + old.rows → Takes before.size fields after.size
    → before.records ≡ fields ∷ after.records → AddsRow n fields old new → RowsSoFar mark number batch columns from new after
one-read mark number batch columns from before after old new fields n so_far below is takes left adds =
    let rows = so_far.rows in
    let added = adds columns rows so_far.holds in
    let (others, fewer) = one-fewer so_far.others (omega (arith, below, so_far.count, so_far.holds.height)) in
    let longer = length-append rows (added.values ∷ []) in
    let here : n ≡ number + length rows = omega (arith, is, so_far.holds.height) in
    let next : number + length rows + 1 ≡ number + length (rows ++ added.values ∷ []) = omega (arith, longer) in
    let rest = body_from mark (number + length rows + 1) columns (take others after.records) in
    let taken : take so_far.others before.records ≡ fields ∷ take others after.records =
    ap (λ (k : ℕ). take k before.records) fewer ∙ take-next others before.records after.records fields left in
    record {
      rows = rows ++ added.values ∷ [];
      others = others;
      count = omega (arith, so_far.count, fewer, longer);
      holds = added.holds;
      marked = added.marked ∙ so_far.marked;
      spelled = so_far.spelled
          ∙ ap (λ (rs : List Record). with_rows rows (body_from mark (number + length rows) columns rs)) taken
          ∙ ap (λ (r : Result Row RowFault). with_rows rows (with_row r rest))
          (spelled-by mark old.mark (number + length rows) n columns fields (Ok added.values) so_far.marked here added.spelled)
          ∙ one-before rows added.values rest
          ∙ ap (λ (k : ℕ). with_rows (rows ++ added.values ∷ []) (body_from mark k columns (take others after.records))) next;
      rest = so_far.rest ∙ ap (λ (k : ℕ). drop k before.records) fewer ∙ drop-next others before.records after.records fields left;
      few = omega (arith, so_far.few, takes.shorter, longer);
      short = λ j within. omega (arith, so_far.short j within, column-push j rows added.values, added.short j within, field-short fields j, takes.bytes);
    }

-- ---- the last record, and one that is refused
none-of : {A : Type 0} (n : ℕ) (xs : List A) → xs ≡ [] → (take n xs ≡ []) × (drop n xs ≡ [])
none-of zero xs is = (refl, is)
none-of (suc n) xs is = (ap (take (suc n)) is, ap (drop (suc n)) is)

-- all of them were read
pub all-read : (mark : List ℕ) (number batch : ℕ) (columns : List Column) (from to : RecordsLeft) (made : BodyColumns)
    → RowsSoFar mark number batch columns from made to → batch ≤ made.rows → HasBatch mark number batch columns from made to
all-read mark number batch columns from to made so_far full =
    let none : so_far.others ≡ 0 = omega (arith, full, so_far.count, so_far.holds.height) in
    record {
      rows = so_far.rows;
      holds = so_far.holds;
      spelled = so_far.spelled ∙ ap (λ (k : ℕ). with_rows so_far.rows (body_from mark (number + length so_far.rows) columns (take k to.records))) none
          ∙ ap (λ (rs : List Row). Ok rs) (append-nil so_far.rows);
      few = so_far.few;
      behind = sym (so_far.rest ∙ ap (λ (k : ℕ). drop k to.records) none);
    }

-- there are no more records
pub no-more : (mark : List ℕ) (number batch : ℕ) (columns : List Column) (from before after : RecordsLeft) (made : BodyColumns)
    → RowsSoFar mark number batch columns from made before → before.records ≡ [] → after.records ≡ [] → after.size ≤ before.size
    → HasBatch mark number batch columns from made after
no-more mark number batch columns from before after made so_far end stays fewer =
    let none = none-of so_far.others before.records end in
    record {
      rows = so_far.rows;
      holds = so_far.holds;
      spelled = so_far.spelled ∙ ap (λ (rs : List Record). with_rows so_far.rows (body_from mark (number + length so_far.rows) columns rs)) none.0
          ∙ ap (λ (rs : List Row). Ok rs) (append-nil so_far.rows);
      few = omega (arith, so_far.few, fewer);
      behind = stays ∙ sym (so_far.rest ∙ none.1);
    }

-- a record that spells no row is the first one
pub first-refused : (mark : List ℕ) (number batch : ℕ) (columns : List Column) (from to : RecordsLeft) (made : BodyColumns) (fields : Record)
    (rest : List Record) (n : ℕ) (fault : BodyFault)
    → RowsSoFar mark number batch columns from made to → made.rows < batch → n ≡ number + made.rows → to.records ≡ fields ∷ rest
    → RefusesRow fault n fields made → IsRowsFault fault (body_from mark number columns (take batch from.records))
first-refused mark number batch columns from to made fields rest n (faults.Row fault) so_far below is left refuses =
    let rows = so_far.rows in
    let (others, fewer) = one-fewer so_far.others (omega (arith, below, so_far.count, so_far.holds.height)) in
    let here : n ≡ number + length rows = omega (arith, is, so_far.holds.height) in
    let taken : take so_far.others to.records ≡ fields ∷ take others rest =
    ap (λ (k : ℕ). take k to.records) fewer ∙ take-next others to.records rest fields left in
    so_far.spelled
    ∙ ap (λ (rs : List Record). with_rows rows (body_from mark (number + length rows) columns rs)) taken
    ∙ ap (λ (r : Result Row RowFault). with_rows rows (with_row r (body_from mark (number + length rows + 1) columns (take others rest))))
    (spelled-by mark made.mark (number + length rows) n columns fields (Err fault) so_far.marked here (refuses columns rows so_far.holds))
first-refused mark number batch columns from to made fields rest n faults.NoMemory so_far below is left refuses = tt

-- ---- the builders alone

holds-kind : (builder : Builder) (kind : Kind) (values : List Value) (form : FieldForm) (column : Column) → column.kind ≡ kind
    → IsColumnOf form builder column values → HoldsKind builder kind values
holds-kind builder kind values form column same is = subst (λ (k : Kind). HoldsKind builder k values) (sym is.flat ∙ same) is.holds

pub hold-each : (made : BodyColumns) (columns : List Column) (rows : List Row) → HasRows made columns rows → HoldEach made.builders.items columns rows
hold-each made columns rows has = record {
  count = has.held.builders_count;
  each = λ j b c within. holds-kind _ _ _ (get_or made.forms.items j Truths) (get_or columns j c) refl (has.held.each j Truths b c within);
}

-- more records than there are
all-taken : {A : Type 0} (n : ℕ) (xs : List A) → drop n xs ≡ [] → take n xs ≡ xs
all-taken {A = A} n xs none = sym (append-nil (take n xs)) ∙ ap (λ (rest : List A). take n xs ++ rest) (sym none) ∙ take-append-drop n xs

taken-whole : (batch : ℕ) (records : List Record) → length (take batch records) < batch → take batch records ≡ records
taken-whole batch records short = elim (few-taken batch records) [
  | inl long ↦ absurd (omega (arith, short, long))
  | inr behind ↦ all-taken batch records behind.1
]

-- records that were read as one batch, which has room for all
pub whole-body : (mark : List ℕ) (made : BodyColumns) (columns : List Column) (from to : RecordsLeft) (batch : ℕ) → from.size ≤ 2 ^ 30 → 2 ^ 30 < batch
    → HasBatch mark 1 batch columns from made to
    → HoldsBody mark made.builders.items columns from.records
whole-body mark made columns from to batch small large has =
    let count = rows-count mark 1 columns (take batch from.records) has.rows has.spelled in
    let all : take batch from.records ≡ from.records = taken-whole batch from.records (omega (arith, count, has.few, small, large)) in
    let spelled : body_from mark 1 columns from.records ≡ Ok has.rows = ap (body_from mark 1 columns) (sym all) ∙ has.spelled in
    record {
      rows = has.rows;
      spelled = spelled;
      few = omega (arith, has.few, small);
      held = record { held = hold-each made columns has.rows has.holds; widths = widths-from mark 1 columns from.records has.rows spelled };
    }

-- the fault of the first records is that of all
pub body-refused : (mark : List ℕ) (columns : List Column) (records : List Record) (batch : ℕ) (fault : BodyFault)
    → IsRowsFault fault (body_from mark 1 columns (take batch records)) → IsBodyFault fault mark columns records
body-refused mark columns records batch (faults.Row fault) refuses = (refused mark 1 batch columns records fault refuses).0
body-refused mark columns records batch faults.NoMemory refuses = tt
