-- From one batch to the next.
use Rattle.std.proofs.Common.{◌≡◌, ◌≤◌, ◌+◌, ◌^◌, ◌∙◌, ℕ, zero, suc, List, [], ◌∷◌, length, take, drop, refl, sym, ap, arith}
use Rattle.col_build.specs.declared.builder.Builder.{Builder}
use Rattle.csv_model.specs.promise.Reading.{Record, body_from}
use Rattle.csv_read.specs.BatchesLeft.{BatchesLeft, IsNextBatch, at_end, columns_in}
use Rattle.csv_read.specs.BodyRows.{HasBatch}
use Rattle.csv_read.specs.RecordReader.{RecordsLeft}
use Rattle.csv_read.specs.declared.body_columns.BodyColumns.{BodyColumns}
use Rattle.csv_read.proofs.Bodies.{rows-count}
use Rattle.csv_read.proofs.BodyRead.{hold-each}
use Rattle.csv_read.proofs.Widths.{widths-from}

abbrev Reads : BatchesLeft → ℕ → RecordsLeft → BodyColumns → RecordsLeft → Type 0
Reads s batch from made to = HasBatch s.mark (s.read + 1) batch (columns_in s) from made to

-- behind a batch, under a mark, which stays
abbrev pub under : BatchesLeft → List ℕ → ℕ → RecordsLeft → List Builder → BatchesLeft
under s mark rows to builders = record { columns = s.columns; mark = mark; read = s.read + rows; records = to.records; builders = builders }

abbrev pub after : BatchesLeft → ℕ → RecordsLeft → List Builder → BatchesLeft
after s rows to builders = under s s.mark rows to builders

-- at the end nothing is left
pub ended : (s : BatchesLeft) (mark : List ℕ) (records : List Record) (builders : List Builder) → mark ≡ s.mark → records ≡ [] → builders ≡ []
    → ◌≡◌ {A = BatchesLeft} (record { columns = s.columns; mark = mark; read = s.read; records = records; builders = builders }) (at_end s)
ended s mark records builders same none empty = rw (same, none, empty) refl

none-taken : (batch : ℕ) (records : List Record) → 1 ≤ batch → length (take batch records) ≡ 0 → records ≡ []
none-taken zero records some is = absurd (omega (arith, some))
none-taken (suc batch) [] some is = refl
none-taken (suc batch) (fields ∷ records) some is = absurd (omega (arith, is))

-- there is room for what is left
pub next-room : (s : BatchesLeft) (batch : ℕ) (from to : RecordsLeft) (made : BodyColumns) → s.read + from.size ≤ 2 ^ 30 → Reads s batch from made to
    → s.read + made.rows + to.size ≤ 2 ^ 30
next-room s batch from to made room has = omega (arith, room, has.few, has.holds.height)

-- the builders hold the next batch
pub next-batch : (s : BatchesLeft) (batch : ℕ) (from to : RecordsLeft) (made : BodyColumns) → s.read + from.size ≤ 2 ^ 30 → s.records ≡ from.records
    → Reads s batch from made to → 1 ≤ made.rows
    → IsNextBatch batch made.builders.items s (after s made.rows to made.builders.items)
next-batch s batch from to made room same has some = record {
  rows = has.rows;
  spelled = ap (λ (rs : List Record). body_from s.mark (s.read + 1) (columns_in s) (take batch rs)) same ∙ has.spelled;
  some = omega (arith, some, has.holds.height);
  few = omega (arith, has.few, room);
  held = record {
    held = hold-each made (columns_in s) has.rows has.holds;
    widths = widths-from s.mark (s.read + 1) (columns_in s) (take batch from.records) has.rows has.spelled;
  };
  read = ap (λ (n : ℕ). s.read + n) has.holds.height;
  left = has.behind ∙ ap (drop batch) (sym same);
}

-- a batch of no rows is at the end
pub next-end : (s : BatchesLeft) (batch : ℕ) (from to : RecordsLeft) (made : BodyColumns) → 1 ≤ batch → s.records ≡ from.records → Reads s batch from made to
    → made.rows ≡ 0 → s.records ≡ []
next-end s batch from to made some same has none =
    let count = rows-count s.mark (s.read + 1) (columns_in s) (take batch from.records) has.rows has.spelled in
    same ∙ none-taken batch from.records some (omega (arith, count, none, has.holds.height))
