use Rattle.std.proofs.Common.{List, map, subst}
use Rattle.data_types.specs.ColumnView.{column_of}
use Rattle.data_types.specs.declared.kind.ColumnType.{ColumnType}
use Rattle.field_codec.specs.TextColumns.{AreAllowed, AreProper}
use Rattle.csv_source.proofs.columns.TextColumns.as_slice.Goals as goal

pub returns-clause-proper : goal.returns-clause-proper
returns-clause-proper c = subst (λ (cs : List ColumnType). AreProper (map column_of cs)) c.self.view_is c.self.invariant.2

pub returns-clause-allowed : goal.returns-clause-allowed
returns-clause-allowed c = subst (λ (cs : List ColumnType). AreAllowed (map column_of cs)) c.self.view_is c.self.invariant.3
