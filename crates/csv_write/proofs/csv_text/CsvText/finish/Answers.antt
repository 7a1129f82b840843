use Rattle.std.proofs.lemmas.Result.{IfOk-weaker}
use Rattle.csv_write.proofs.csv_text.CsvText.finish.Goals as goal

pub returns : goal.returns
returns c =
    IfOk-weaker c.finish_lines.result _ _ (λ text made mark columns written has. made written (rw c.into_inner.ensures has.lines)) c.finish_lines.ensures
