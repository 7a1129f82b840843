use Rattle.std.proofs.Common.{rules, ◌≡◌, ◌<◌, ◌++◌, ◌∙◌, ℕ, map, ap, sym, subst, arith}
use Rattle.std.specs.List.{concat}
use Rattle.csv.specs.Writing.{default_writer, row_text}
use Rattle.arr_import.specs.Cols.{window_of}
use Rattle.csv_write.specs.ChunkTexts.{HasRow, rows_at}
use Rattle.csv_write.specs.Lines.{HasLines, MemoryWriter}
use Rattle.csv_write.proofs.ChunkTexts.{lines-are, rows-there}
use Rattle.csv_write.proofs.csv_text.CsvText.add_read.Goals as goal

pub write_rows-requires : goal.write_rows-requires
write_rows-requires c =
    let (mark, columns, written, h, (ts, children, reads)) = c.requires in
    let count = c.count_rows-rows.ensures.count in
    let small = c.count_rows-rows.ensures.small in (
      ts,
      reads,
      λ i lt.
          rows-there mark ts c.args.self.now.forms.items columns (window_of c.args.chunk.now) children h.forms (omega (arith, small, count)) i
          (omega (arith, lt, count)),
    )

pub returns : goal.returns
returns c mark columns written h =
    let (_, _, _, _, (ts, children, reads)) = c.requires in
    let w = window_of c.args.chunk.now in
    let forms = c.args.self.now.forms.items in
    let rows = c.count_rows-rows.result in
    let count = c.count_rows-rows.ensures.count in
    let small = c.count_rows-rows.ensures.small in
    let has : (i : ℕ) → i < rows → HasRow ts i =
    λ i lt. rows-there mark ts forms columns w children h.forms (omega (arith, small, count)) i (omega (arith, lt, count)) in
    let marked = c.as_slice.ensures ∙ h.marked in
    let same =
    ap (λ m. concat (map (row_text default_writer) (rows_at m ts rows))) marked
    ∙ ap (λ n. concat (map (row_text default_writer) (rows_at mark ts n))) count
    ∙ lines-are mark ts forms columns w children h.forms in
    let old : c.deref_mut.result.now ≡ c.args.self.now.writer.value = search rules in
    let lines = subst (λ (w : MemoryWriter). HasLines w written) (sym old) h.lines in
    record {
      lines = subst (λ text. HasLines c.write_rows.new.writer (written ++ text)) same (c.in_ok-write_rows.ensures ts written reads has lines);
      forms = h.forms;
      marked = h.marked;
    }
