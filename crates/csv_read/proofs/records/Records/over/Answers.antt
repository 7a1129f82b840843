use Rattle.std.proofs.Common.{◌≡◌, ◌∙◌, List, length, arith, sym, ap, subst}
use Rattle.std.specs.Prelude.{All}
use Rattle.csv_model.specs.promise.Reading.{Record}
use Rattle.csv_read.specs.RecordReader.{records_left}
use Rattle.csv_read.specs.Texts.{AreTexts}
use Rattle.csv_read.proofs.TextRecords.{texts-read}
use Rattle.csv_read.proofs.records.Records.over.Goals as goal

pub invariant_of-result : goal.invariant_of-result
invariant_of-result g c =
    let records = ap (λ r. records_left g.R.Read.remaining r) c.in_ok-reader.ensures.ok ∙ c.start_reading.ensures.records in (
      λ text _. (
        λ j within. absurd (omega (arith, within, ap (λ (r : Record). length r) c.new-2.ensures.fields)),
        subst (λ (rs : List Record). All AreTexts rs) (sym records) (texts-read _ (c.requires.texts text)),
      ),
      tt,
    )
