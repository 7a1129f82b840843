use Rattle.std.proofs.Common.{subst}
use Rattle.csv_write.specs.Readings.{Reads}
use Rattle.csv_write.proofs.Readings.{item-there}
use Rattle.csv_write.proofs.reading.item_text.Goals as goal

pub is_valid-requires : goal.is_valid-requires
is_valid-requires c =
    let (column, reads, has) = c.requires in
    item-there c.in-Plain.way c.in-Plain.items column c.args.i (subst (λ r. Reads r column) c.in-Plain.is reads) has
