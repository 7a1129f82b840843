use Rattle.std.proofs.lemmas.Grind.{common_steps}
use Rattle.std.proofs.Common.{Ok, ◌≡◌, ◌≤◌, ◌+◌, ◌*◌, ◌∙◌, List, length, map, ap, arith, refl, sym, subst}
use Rattle.std.proofs.lemmas.Int.{ints}
use Rattle.csv_model.specs.promise.Batches.{Chunks}
use Rattle.col_build.specs.declared.builder.Builder.{Builder}
use Rattle.csv_read.specs.BatchesLeft.{BatchesLeft, IsNextBatch, batches_left, columns_in}
use Rattle.csv_read.specs.Body.{HoldRows}
use Rattle.csv_read.specs.Chunks.{chunk_blocks, chunk_of}
use Rattle.data_types.specs.ColumnView.{column_of}
use Rattle.data_types.specs.promise.Table.{Column}
use Rattle.data_types.specs.declared.kind.ColumnType.{ColumnType}
use Rattle.raw_array.specs.promise.Members.{ArrayTree, Cost}
use Rattle.unit_pass.specs.promise.Tally.{risen}
use Rattle.csv_source.specs.NextChunks.{IsNextChunk}
use Rattle.csv_source.proofs.Chunks.{chunk-same, next-chunk, next-short}
use Rattle.csv_source.proofs.PlainKinds.{plain-columns}
use Rattle.csv_source.proofs.next_chunk.next_chunk.Goals as goal

pub returns-in-Ok : goal.returns-in-Ok
returns-in-Ok g c =
    let batches = c.args.batches.now in
    let read = c.next.new.self in
    let new = c.export.new.self in
    let before = c.args.pass.now in
    let after = c.export.new.pass in
    let chunk = c.in-Ok.chunk in
    let columns = columns_in batches in
    let found : IsNextBatch c.args.batch read.builders batches read = c.next.ensures.batch (c.in-Ok-true.is ∙ ap Ok c.in-Ok-true.field-0-test) in
    let same : columns_in read ≡ columns = ap (map column_of) c.next.ensures.columns in
    let lent = subst (λ (bs : List Builder). HoldRows bs columns found.rows) (sym c.builders.ensures) found.held in
    let count = c.count_rows-rows.ensures columns found.rows lent in
    let held = subst (λ (cs : List Column). HoldRows read.builders cs found.rows) (sym same) found.held in
    let is : chunk ≡ chunk_of columns found.rows =
    c.in-Ok.ensures.chunk found.rows held (omega (arith, ints, count)) ∙ ap (λ (cs : List Column). chunk_of cs found.rows) same in
    let fit = c.batch_rows_fit.ensures.fit read.builders columns found.rows found.held in
    let cost = subst (λ (cs : List ColumnType). Cost chunk ≤ 1 + 4 * length cs) c.next.ensures.columns c.in-Ok.ensures.cost in
    let blocks = c.in-Ok.ensures.blocks found.rows held ∙ ap (λ (cs : List Column). risen before.blocks (chunk_blocks cs found.rows)) same in
    let nodes = c.in-Ok.ensures.nodes ∙ ap (λ (cs : List ColumnType). risen before.nodes (1 + length cs)) c.next.ensures.columns in
    let next : IsNextChunk c.args.batch chunk batches read before after =
    next-chunk c.args.batch read.builders chunk batches read before after found
    (plain-columns columns c.columns-columns.ensures.proper c.columns-columns.ensures.allowed) c.requires.short c.requires.few
    (c.batches_are_read_in_turn.ensures.next c.args.batch read.builders batches read c.requires.some_rows c.next.ensures.columns c.next.ensures.mark found)
    is
    (c.chunks_have_their_rows.ensures.chunk columns found.rows fit (omega (arith, found.few)))
    (c.chunks_have_their_rows.ensures.rows columns found.rows fit found.held.widths)
    cost blocks nodes in
    record {
      chunk = λ _. subst (λ (tree : ArrayTree). IsNextChunk c.args.batch tree batches new before after) (sym c.put.ensures)
          (chunk-same c.args.batch chunk batches read new before after next (ap (batches_left c.args.batch) c.export.ensures.stays));
      ending = ap (λ (s : BatchesLeft). (batches_left c.args.batch s).ending) c.export.ensures.stays
          ∙ sym (ap (λ (b : Chunks). b.ending)
          (c.batches_are_read_in_turn.ensures.next c.args.batch read.builders batches read c.requires.some_rows
          c.next.ensures.columns c.next.ensures.mark found));
      short = next-short c.args.batch batches.records c.export.new.self.records
          (ap (λ (s : BatchesLeft). s.records) c.export.ensures.stays ∙ found.left) c.requires.short;
      columns = ap (λ (s : BatchesLeft). s.columns) c.export.ensures.stays ∙ c.next.ensures.columns;
      units = grind (arith, common_steps);
      end = grind (arith, common_steps);
      end_stays = grind (arith, common_steps);
      end_counts = grind (arith, common_steps);
      fault = tt;
      fault_counts = tt;
      refuses = tt;
      units_back = tt;
    }

pub returns-in-Err-export : goal.returns-in-Err-export
returns-in-Err-export g c =
    let read = c.next.new.self in
    let found : IsNextBatch c.args.batch read.builders c.args.batches.now read = c.next.ensures.batch (c.in-Ok-true.is ∙ ap Ok c.in-Ok-true.field-0-test) in
    record {
      short = next-short c.args.batch c.args.batches.now.records c.export.new.self.records
          (ap (λ (s : BatchesLeft). s.records) c.export.ensures.stays ∙ found.left) c.requires.short;
      columns = ap (λ (s : BatchesLeft). s.columns) c.export.ensures.stays ∙ c.next.ensures.columns;
      chunk = tt;
      units = tt;
      end = tt;
      end_stays = tt;
      ending = tt;
      end_counts = tt;
      fault = grind (arith, common_steps);
      fault_counts = grind (arith, common_steps);
      refuses = c.requires.empty;
      units_back = grind (arith, common_steps);
    }

pub returns-in-Ok-false : goal.returns-in-Ok-false
returns-in-Ok-false g c =
    record {
      columns = c.next.ensures.columns;
      chunk = grind (arith, common_steps);
      units = grind (arith, common_steps);
      end = grind (arith, common_steps);
      end_stays = grind (arith, common_steps);
      ending = grind (arith, common_steps);
      end_counts = λ _. refl;
      fault = tt;
      fault_counts = tt;
      refuses = tt;
      units_back = tt;
      short = grind (arith, common_steps);
    }

pub returns-in-Err : goal.returns-in-Err
returns-in-Err g c =
    record {
      columns = c.next.ensures.columns;
      chunk = tt;
      units = tt;
      end = tt;
      end_stays = tt;
      ending = tt;
      end_counts = tt;
      fault = grind (arith, common_steps);
      fault_counts = λ _ _. refl;
      refuses = c.requires.empty;
      units_back = refl;
      short = grind (arith, common_steps);
    }

pub count_rows-rows-requires : goal.count_rows-rows-requires
count_rows-rows-requires g c =
    record {
      some = grind (arith, common_steps);
      held = grind (arith, common_steps);
    }

pub export-requires : goal.export-requires
export-requires g c =
    record {
      held = grind (arith, common_steps);
      few = grind (arith, common_steps);
      units = grind (arith, common_steps);
    }
