-- The batches of records, one after the other.
use Rattle.std.proofs.Common.{◌≡◌, ◌≤◌, ◌<◌, ◌+◌, ◌-◌, ◌++◌, ◌==◌, ◌∙◌, ℕ, Bool, true, false, if◌then◌else◌, List, [], ◌∷◌, length, take, drop, None, Some}
use Rattle.std.proofs.Common.{Result, Ok, Err, refl, sym, ap, subst, arith, inl, inr, append-nil}
use Rattle.std.proofs.lemmas.Bool.{cases_Bool, eqb-true}
use Rattle.std.proofs.lemmas.List.{take-append-drop}
use Rattle.std.specs.List.{filter, onto_first}
use Rattle.col_build.specs.declared.builder.Builder.{Builder}
use Rattle.data_types.specs.promise.Table.{Column, Row}
use Rattle.data_types.specs.declared.row_fault.RowFault.{RowFault}
use Rattle.csv_model.specs.promise.Batches.{Chunks, batches_if, cut, rows_before}
use Rattle.csv_model.specs.Batches.{whole_batches}
use Rattle.csv_model.specs.promise.Reading.{Record, body_from}
use Rattle.csv_read.specs.BatchesLeft.{BatchesLeft, IsNextBatch, batches_left, behind, columns_in}
use Rattle.csv_read.specs.BodyRows.{with_rows}
use Rattle.csv_read.proofs.Bodies.{body-split, few-taken, refused, rows-count}

-- ---- cutting

not-same : (n m : ℕ) → n < m → (n == m) ≡ false
not-same n m below = elim (cases_Bool (n == m)) [
  | inl same ↦ absurd (omega (arith, eqb-true n m same, below))
  | inr other ↦ other
]

is-same : (n m : ℕ) → n ≡ m → (n == m) ≡ true
is-same n m same = elim (cases_Bool (n == m)) [
  | inl equal ↦ equal
  | inr other ↦ absurd (let never : (m == m) ≡ false = subst (λ (k : ℕ). (k == m) ≡ false) same other in grind (arith, never))
]

other-than : (room : ℕ) → 2 ≤ room → (room == 1) ≡ false
other-than room two = elim (cases_Bool (room == 1)) [
  | inl same ↦ absurd (omega (arith, eqb-true room 1 same, two))
  | inr other ↦ other
]

abbrev cut-step : Bool → ℕ → ℕ → Row → List Row → List (List Row)
cut-step one batch room row rows = if one then (row ∷ []) ∷ cut batch batch rows else onto_first row (cut batch (room - 1) rows)

-- a full batch
cut-full : (batch room : ℕ) (first rest : List Row) → 1 ≤ room → length first ≡ room → cut batch room (first ++ rest) ≡ first ∷ cut batch batch rest
cut-full batch room [] rest some long = absurd (omega (arith, some, long))
cut-full batch room (row ∷ []) rest some long = ap (λ (one : Bool). cut-step one batch room row rest) (is-same room 1 (omega (arith, long)))
cut-full batch room (row ∷ next ∷ first) rest some long =
    ap (λ (one : Bool). cut-step one batch room row (next ∷ first ++ rest)) (other-than room (omega (arith, long)))
    ∙ ap (onto_first row) (cut-full batch (room - 1) (next ∷ first) rest (omega (arith, long)) (omega (arith, long)))

-- a batch that is not full
cut-short : (batch room : ℕ) (first : List Row) → 1 ≤ length first → length first < room → cut batch room first ≡ first ∷ []
cut-short batch room [] some short = absurd (omega (arith, some))
cut-short batch room (row ∷ []) some short = ap (λ (one : Bool). cut-step one batch room row []) (other-than room (omega (arith, short)))
cut-short batch room (row ∷ next ∷ first) some short =
    ap (λ (one : Bool). cut-step one batch room row (next ∷ first)) (other-than room (omega (arith, short)))
    ∙ ap (onto_first row) (cut-short batch (room - 1) (next ∷ first) (omega arith) (omega (arith, short)))

-- no rows are a full batch
abbrev full : ℕ → List Row → Bool
full batch part = length part == batch

none-full : (batch : ℕ) (rows : List Row) → length rows < batch → whole_batches batch rows ≡ []
none-full batch [] short = refl
none-full batch (row ∷ rows) short =
    ap (filter (full batch)) (cut-short batch batch (row ∷ rows) (omega arith) short)
    ∙ ap (λ (is : Bool). if is then (row ∷ rows) ∷ [] else []) (not-same (length (row ∷ rows)) batch short)

first-full : (batch : ℕ) (first rest : List Row) → 1 ≤ batch → length first ≡ batch → whole_batches batch (first ++ rest) ≡ first ∷ whole_batches batch rest
first-full batch first rest some long =
    ap (filter (full batch)) (cut-full batch batch first rest some long)
    ∙ ap (λ (is : Bool). if is then first ∷ whole_batches batch rest else whole_batches batch rest) (is-same (length first) batch long)

-- ---- reading

before-err : (batch : ℕ) (rows : List Row) (fault : RowFault) → length rows < batch
    → batches_if (Err fault) batch rows ≡ record { chunks = []; ending = Some fault }
before-err batch rows fault short = ap (λ (parts : List (List Row)). record { chunks = parts; ending = Some fault }) (none-full batch rows short)

-- a full batch, and whatever is behind it
full-behind : (batch : ℕ) (rows before : List Row) (others : Result (List Row) RowFault) → 1 ≤ batch → length rows ≡ batch
    → batches_if (with_rows rows others) batch (rows ++ before) ≡ behind rows (batches_if others batch before)
full-behind batch rows before (Ok others) some long =
    ap (λ (parts : List (List Row)). record { chunks = parts; ending = None }) (cut-full batch batch rows others some long)
full-behind batch rows before (Err fault) some long =
    ap (λ (parts : List (List Row)). record { chunks = parts; ending = Some fault }) (first-full batch rows before some long)

-- a batch that is not full, which is the last one
last-behind : (batch : ℕ) (rows before : List Row) → 1 ≤ length rows → length rows < batch
    → batches_if (Ok (rows ++ [])) batch (rows ++ before) ≡ behind rows (record { chunks = []; ending = None })
last-behind batch rows before some short =
    ap (λ (rs : List Row). batches_if (Ok rs) batch (rows ++ before)) (append-nil rows)
    ∙ ap (λ (parts : List (List Row)). record { chunks = parts; ending = None }) (cut-short batch batch rows some short)

-- the batches of records by the first of them
first-batch : (mark : List ℕ) (number batch : ℕ) (columns : List Column) (records : List Record) (rows : List Row) → 1 ≤ batch → 1 ≤ length rows
    → body_from mark number columns (take batch records) ≡ Ok rows
    → batches_if (body_from mark number columns records) batch (rows_before mark number columns records)
    ≡ behind rows (batches_if (body_from mark (number + length rows) columns (drop batch records)) batch
    (rows_before mark (number + length rows) columns (drop batch records)))
first-batch mark number batch columns records rows some there is =
    let split = body-split mark number columns (take batch records) (drop batch records) rows is in
    let all : take batch records ++ drop batch records ≡ records = take-append-drop batch records in
    let count = rows-count mark number columns (take batch records) rows is in
    ap (λ (rs : List Record). batches_if (body_from mark number columns rs) batch (rows_before mark number columns rs)) (sym all)
    ∙ ap (λ (r : Result (List Row) RowFault). batches_if r batch (rows_before mark number columns (take batch records ++ drop batch records))) split.0
    ∙ ap (batches_if (with_rows rows (body_from mark (number + length rows) columns (drop batch records))) batch) split.1
    ∙ elim (few-taken batch records) [
      | inl long ↦ full-behind batch rows (rows_before mark (number + length rows) columns (drop batch records))
          (body_from mark (number + length rows) columns (drop batch records)) some (omega (arith, count, long))
      | inr short ↦
          subst (λ (rest : List Record). batches_if (with_rows rows (body_from mark (number + length rows) columns rest)) batch
          (rows ++ rows_before mark (number + length rows) columns rest)
          ≡ behind rows (batches_if (body_from mark (number + length rows) columns rest) batch (rows_before mark (number + length rows) columns rest)))
          (sym short.1)
          (last-behind batch rows [] there (omega (arith, count, short.0)))
    ]

-- ---- what is left

abbrev left : ℕ → BatchesLeft → Chunks
left batch s = batches_left batch s

pub next-in-turn : (batch : ℕ) (builders : List Builder) (old new : BatchesLeft) → 1 ≤ batch → new.columns ≡ old.columns → new.mark ≡ old.mark
    → (found : IsNextBatch batch builders old new)
    → batches_left batch old ≡ behind found.rows (batches_left batch new)
next-in-turn batch builders old new some columns mark found =
    let number : old.read + 1 + length found.rows ≡ new.read + 1 = omega (arith, found.read) in
    let at : ℕ → List Record → Chunks =
    λ n records. batches_if (body_from old.mark n (columns_in old) records) batch (rows_before old.mark n (columns_in old) records) in
    let here : at (old.read + 1 + length found.rows) (drop batch old.records) ≡ left batch new =
    ap (λ (n : ℕ). at n (drop batch old.records)) number
    ∙ ap (at (new.read + 1)) (sym found.left)
    ∙ ap (λ (m : List ℕ). left batch (record { columns = old.columns; mark = m; read = new.read; records = new.records; builders = new.builders })) (sym mark)
    ∙ ap (λ cs. left batch (record { columns = cs; mark = new.mark; read = new.read; records = new.records; builders = new.builders })) (sym columns) in
    first-batch old.mark (old.read + 1) batch (columns_in old) old.records found.rows some found.some found.spelled
    ∙ ap (behind found.rows) here

pub end-in-turn : (batch : ℕ) (s : BatchesLeft) → s.records ≡ [] → batches_left batch s ≡ record { chunks = []; ending = None }
end-in-turn batch s end = ap (λ (rs : List Record). left batch (record { columns = s.columns; mark = s.mark; read = s.read; records = rs; builders = s.builders })) end

pub fault-in-turn : (batch : ℕ) (s : BatchesLeft) (fault : RowFault) → body_from s.mark (s.read + 1) (columns_in s) (take batch s.records) ≡ Err fault
    → batches_left batch s ≡ record { chunks = []; ending = Some fault }
fault-in-turn batch s fault is =
    let both = refused s.mark (s.read + 1) batch (columns_in s) s.records fault is in
    ap (λ (r : Result (List Row) RowFault). batches_if r batch (rows_before s.mark (s.read + 1) (columns_in s) s.records)) both.0
    ∙ before-err batch (rows_before s.mark (s.read + 1) (columns_in s) s.records) fault both.1
