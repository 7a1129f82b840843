use Rattle.std.proofs.Common.{map, subst, sym}
use Rattle.data_types.specs.ColumnView.{column_of}
use Rattle.field_codec.specs.TextColumns.{AreAllowed, AreProper}
use Rattle.csv_read.proofs.batches.BatchReader.start.Goals as goal

pub empty-requires-clause-proper : goal.empty-requires-clause-proper
empty-requires-clause-proper g c = subst (λ cs. AreProper (map column_of cs)) (sym c.as_slice.ensures.value) c.requires.proper

pub empty-requires-clause-allowed : goal.empty-requires-clause-allowed
empty-requires-clause-allowed g c = subst (λ cs. AreAllowed (map column_of cs)) (sym c.as_slice.ensures.value) c.requires.allowed
