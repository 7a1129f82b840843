use Rattle.csv_write.proofs.Lines.{field-written}
use Rattle.csv_write.proofs.writer.write_text.Goals as goal
use Rattle.csv_write.proofs.writer.write_text.Goals.{in-Ok, in-Err}

pub returns : goal.returns
returns c =
    elim c.match-write_field.branch [
      | in-Ok w ↦
          let done = w.in-Ok.ensures in
          rw w.result-is (λ text fields few h. field-written c.args.writer.now c.write_field.new.self text fields h c.args.field.now few done.text
          done.same done.count done.wrote)
      | in-Err w ↦ rw w.result-is tt
    ]
