use Rattle.std.proofs.Common.{◌≡◌, ◌≤◌, ◌+◌, ◌∙◌, ℕ, List, [], inr, map, refl, subst, sym, arith}
use Rattle.data_types.specs.ColumnView.{column_of}
use Rattle.field_codec.specs.TextColumns.{AreAllowed, AreProper}
use Rattle.col_build.specs.declared.builder.Builder.{Builder}
use Rattle.csv_read.specs.BatchesLeft.{BatchesLeft, IsNextBatch}
use Rattle.csv_read.specs.BodyRows.{HasBatch, HasRows}
use Rattle.csv_read.specs.ColumnForms.{AreForms, AreKept, AreReady}
use Rattle.csv_read.proofs.BatchNext.{after, next-batch, next-end, next-room, under}
use Rattle.csv_read.proofs.EmptiedBuilders.{rows-kept}
use Rattle.csv_read.proofs.batches.BatchReader.next.Goals as goal

pub begin-requires-clause-proper : goal.begin-requires-clause-proper
begin-requires-clause-proper g c = subst (λ cs. AreProper (map column_of cs)) (sym c.as_slice.ensures.value) c.self.invariant.0

pub begin-requires-clause-allowed : goal.begin-requires-clause-allowed
begin-requires-clause-allowed g c = subst (λ cs. AreAllowed (map column_of cs)) (sym c.as_slice.ensures.value) c.self.invariant.1

pub begin-requires-clause-forms : goal.begin-requires-clause-forms
begin-requires-clause-forms g c = subst (λ cs. AreForms c.self.inside.body.forms.items (map column_of cs)) (sym c.as_slice.ensures.value) c.self.invariant.2

pub begin-requires-clause-builders : goal.begin-requires-clause-builders
begin-requires-clause-builders g c = subst (λ cs. AreReady c.self.inside.body.builders.items (map column_of cs)) (sym c.as_slice.ensures.value) c.self.invariant.4

pub returns-then-self-eq0-clause-end : goal.returns-then-self-eq0-clause-end
returns-then-self-eq0-clause-end g c = λ _.
    let inside = c.self.inside in
    let columns = map column_of inside.columns.items in
    let s : BatchesLeft = record {
      columns = inside.columns.items;
      mark = inside.body.mark;
      read = inside.read;
      records = inside.records.records;
      builders = inside.body.builders.items;
    } in
    let begun : HasRows c.begin.new.self columns [] =
    subst (λ cs. HasRows c.begin.new.self (map column_of cs) []) c.as_slice.ensures.value c.in-Ok.ensures.rows in
    let made = c.read_rows.new.made in
    let reads =
    subst (λ (m : List ℕ). HasBatch m (inside.read + 1) c.args.batch columns inside.records made c.read_rows.new.records) c.begin.ensures.mark
    (c.in-Ok-read_rows.ensures.rows columns begun) in
    let view : s ≡ c.args.self.now = c.self.view_is in
    subst (λ (o : BatchesLeft). o.records ≡ []) view
    (next-end s c.args.batch inside.records c.read_rows.new.records made c.requires.some refl reads c.if-self-eq0.true)

pub invariant_of-self-in-Ok-read_rows : goal.invariant_of-self-in-Ok-read_rows
invariant_of-self-in-Ok-read_rows g c =
    let inside = c.self.inside in
    let columns = map column_of inside.columns.items in
    let s : BatchesLeft = record {
      columns = inside.columns.items;
      mark = inside.body.mark;
      read = inside.read;
      records = inside.records.records;
      builders = inside.body.builders.items;
    } in
    let begun : HasRows c.begin.new.self columns [] =
    subst (λ cs. HasRows c.begin.new.self (map column_of cs) []) c.as_slice.ensures.value c.in-Ok.ensures.rows in
    let made = c.read_rows.new.made in
    let reads =
    subst (λ (m : List ℕ). HasBatch m (inside.read + 1) c.args.batch columns inside.records made c.read_rows.new.records) c.begin.ensures.mark
    (c.in-Ok-read_rows.ensures.rows columns begun) in
    let forms = c.note.ensures.forms ∙ c.in-Ok-read_rows.ensures.forms ∙ c.begin.ensures.forms in (
      c.self.invariant.0,
      c.self.invariant.1,
      rw forms c.self.invariant.2,
      next-room s c.args.batch inside.records c.read_rows.new.records made c.self.invariant.3 reads,
      inr (subst (λ (bs : List Builder). AreKept bs columns) (sym c.note.ensures.builders) (rows-kept made columns reads.rows reads.holds)),
    )

pub returns-else-self-eq0-clause-batch : goal.returns-else-self-eq0-clause-batch
returns-else-self-eq0-clause-batch g c = λ _.
    let inside = c.self.inside in
    let columns = map column_of inside.columns.items in
    let s : BatchesLeft = record {
      columns = inside.columns.items;
      mark = inside.body.mark;
      read = inside.read;
      records = inside.records.records;
      builders = inside.body.builders.items;
    } in
    let begun : HasRows c.begin.new.self columns [] =
    subst (λ cs. HasRows c.begin.new.self (map column_of cs) []) c.as_slice.ensures.value c.in-Ok.ensures.rows in
    let made = c.read_rows.new.made in
    let reads =
    subst (λ (m : List ℕ). HasBatch m (inside.read + 1) c.args.batch columns inside.records made c.read_rows.new.records) c.begin.ensures.mark
    (c.in-Ok-read_rows.ensures.rows columns begun) in
    let view : s ≡ c.args.self.now = c.self.view_is in
    let to = c.read_rows.new.records in
    let kept = c.note.new.self.builders.items in
    let some : 1 ≤ made.rows = omega (arith, c.if-self-eq0.false) in
    let mark : c.note.new.self.mark ≡ inside.body.mark = c.note.ensures.mark ∙ c.in-Ok-read_rows.ensures.mark ∙ c.begin.ensures.mark in
    let next : IsNextBatch c.args.batch kept s (after s made.rows to kept) =
    subst (λ (bs : List Builder). IsNextBatch c.args.batch bs s (after s made.rows to bs)) (sym c.note.ensures.builders)
    (next-batch s c.args.batch inside.records to made c.self.invariant.3 refl reads some) in
    subst (λ (o : BatchesLeft). IsNextBatch c.args.batch kept o (under s c.note.new.self.mark made.rows to kept)) view
    (subst (λ (m : List ℕ). IsNextBatch c.args.batch kept s (under s m made.rows to kept)) (sym mark) next)
