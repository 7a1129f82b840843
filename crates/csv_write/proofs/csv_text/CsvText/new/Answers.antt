use Rattle.std.proofs.Common.{rules, ◌≡◌, [], map, subst, sym}
use Rattle.csv_model.specs.Text.{header_text}
use Rattle.data_types.specs.ColumnView.{column_of}
use Rattle.csv_write.specs.Lines.{HasLines, MemoryWriter}
use Rattle.csv_write.proofs.csv_text.CsvText.new.Goals as goal

pub returns : goal.returns
returns c =
    let same : c.in_ok-writer.writer.value ≡ c.write_names.new.writer = search rules in
    let lines = c.in_ok-write_names.ensures [] c.new_writer-writer.ensures in
    record {
      lines = subst (λ (w : MemoryWriter). HasLines w (header_text (map column_of c.args.columns.now))) (sym same) lines;
      forms = c.in_ok-forms.ensures;
      marked = c.in_ok-mark.ensures;
    }
