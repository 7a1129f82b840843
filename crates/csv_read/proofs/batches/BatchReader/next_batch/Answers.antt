use Rattle.std.proofs.Common.{◌≡◌, ◌≤◌, ◌∙◌, Bool, List, Result, Ok, true, ap, length, subst, sym}
use Rattle.col_build.specs.declared.builder.Builder.{Builder}
use Rattle.csv_model.specs.promise.Batches.{Chunks}
use Rattle.data_types.specs.promise.Table.{Row}
use Rattle.csv_read.specs.BatchesLeft.{BatchesLeft, IsNextBatch, batches_left, behind, columns_in, first_rows, next_rows}
use Rattle.csv_read.specs.Body.{HoldRows}
use Rattle.csv_read.specs.declared.body.BodyFault.{BodyFault}
use Rattle.csv_read.proofs.batches.BatchReader.next_batch.Goals as goal

ok : (a b : Bool) → a ≡ b → ◌≡◌ {A = Result Bool BodyFault} (Ok a) (Ok b)
ok a b e = ap (λ (x : Bool). Ok x) e

-- the rows of the first batch are those that were found
first : (batch : _) (old new : BatchesLeft) (rows : List Row) → batches_left batch old ≡ behind rows (batches_left batch new) → next_rows batch old ≡ rows
first batch old new rows ahead = ap (λ (b : Chunks). first_rows b.chunks) ahead

pub of-requires-clause-held : goal.of-requires-clause-held
of-requires-clause-held g c =
    let old = c.args.self.now in
    let new = c.next.new.self in
    let found : IsNextBatch c.args.batch new.builders old new = c.in_ok-next.ensures.batch (ok c.in_ok-next.field-0 true c.if-not-branch.false) in
    let ahead =
    c.batches_are_read_in_turn.ensures.next c.args.batch new.builders old new c.requires.some c.next.ensures.columns c.next.ensures.mark found in
    let builders = c.replace-builders.ensures.value in
    let held : HoldRows c.self.inside.body.builders.items (columns_in old) found.rows =
    subst (λ (bs : List Builder). HoldRows bs (columns_in old) found.rows) (sym (ap (λ (s : BatchesLeft). s.builders) c.self.view_is)) found.held in
    let named = subst (λ (rows : List Row). HoldRows c.self.inside.body.builders.items (columns_in old) rows) (sym (first c.args.batch old new found.rows ahead)) held in
    rw (builders, c.of-from.ensures) named

pub of-requires-clause-few : goal.of-requires-clause-few
of-requires-clause-few g c =
    let old = c.args.self.now in
    let new = c.next.new.self in
    let found : IsNextBatch c.args.batch new.builders old new = c.in_ok-next.ensures.batch (ok c.in_ok-next.field-0 true c.if-not-branch.false) in
    let ahead =
    c.batches_are_read_in_turn.ensures.next c.args.batch new.builders old new c.requires.some c.next.ensures.columns c.next.ensures.mark found in
    rw c.of-from.ensures (subst (λ (rows : List Row). length rows ≤ 1073741824) (sym (first c.args.batch old new found.rows ahead)) found.few)

pub returns-clause-batch : goal.returns-clause-batch
returns-clause-batch g c =
    let old = c.args.self.now in
    let new = c.next.new.self in
    let found : IsNextBatch c.args.batch new.builders old new = c.in_ok-next.ensures.batch (ok c.in_ok-next.field-0 true c.if-not-branch.false) in
    let ahead =
    c.batches_are_read_in_turn.ensures.next c.args.batch new.builders old new c.requires.some c.next.ensures.columns c.next.ensures.mark found in
    let rows : found.rows ≡ c.of.result.rows =
    sym (c.of.ensures.rows ∙ ap (next_rows c.args.batch) c.of-from.ensures ∙ first c.args.batch old new found.rows ahead) in
    let left = sym (ap (batches_left c.args.batch) c.self.view_is) in
    (c.of.ensures.columns ∙ ap (λ (s : BatchesLeft). s.columns) c.of-from.ensures, ahead ∙ (λ i. behind (rows i) (left i)))
