use Rattle.std.proofs.Common.{rules, ◌≡◌, map, subst}
use Rattle.data_types.specs.ColumnView.{column_of}
use Rattle.field_codec.specs.TextColumns.{AreAllowed, AreProper}
use Rattle.csv_read.proofs.batches.BatchReader.columns.Goals as goal

pub returns-clause-proper : goal.returns-clause-proper
returns-clause-proper g c =
    let same : c.self.inside.columns.items ≡ c.args.self.now.columns = search rules in
    subst (λ cs. AreProper (map column_of cs)) same c.self.invariant.0

pub returns-clause-allowed : goal.returns-clause-allowed
returns-clause-allowed g c =
    let same : c.self.inside.columns.items ≡ c.args.self.now.columns = search rules in
    subst (λ cs. AreAllowed (map column_of cs)) same c.self.invariant.1
