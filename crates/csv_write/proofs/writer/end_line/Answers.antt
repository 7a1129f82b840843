use Rattle.csv_write.proofs.Lines.{row-written}
use Rattle.csv_write.proofs.writer.end_line.Goals as goal
use Rattle.csv_write.proofs.writer.end_line.Goals.{in-Ok, in-Err}

pub returns : goal.returns
returns c =
    elim c.match-end_record.branch [
      | in-Ok w ↦
          let done = w.in-Ok.ensures in
          rw w.result-is (λ text fields h. row-written c.args.writer.now c.end_record.new.self text fields h done.bytes done.fields done.wrote done.same)
      | in-Err w ↦ rw w.result-is tt
    ]
