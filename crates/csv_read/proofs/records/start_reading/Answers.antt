use Rattle.std.proofs.Common.{◌≡◌, ◌∙◌, ℕ, List, Option, length, ap}
use Rattle.std.specs.Prelude.{option_map}
use Rattle.csv.specs.Reading.{strip_bom}
use Rattle.csv_read.specs.RecordReader.{text_left, told_by}
use Rattle.csv_read.proofs.RecordReading.{strip-shorter}
use Rattle.csv_read.proofs.records.start_reading.Goals as goal

pub returns-clause-bytes : goal.returns-clause-bytes
returns-clause-bytes g c =
    let text = told_by (g.R.Read.remaining c.args.source) in
    let source = c.from_reader.ensures.source ∙ ap (λ (o : Option (List ℕ)). option_map strip_bom o) c.requires.told in
    let left : text_left g.R.Read.remaining c.from_reader.result ≡ strip_bom text = ap told_by source in
    rw left (strip-shorter text)
