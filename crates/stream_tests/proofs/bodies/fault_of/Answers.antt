use Rattle.std.proofs.Common.{List, map, subst, sym}
use Rattle.data_types.specs.ColumnView.{column_of}
use Rattle.data_types.specs.declared.kind.ColumnType.{ColumnType}
use Rattle.field_codec.specs.TextColumns.{AreAllowed, AreProper}
use Rattle.stream_tests.proofs.bodies.fault_of.Goals as goal

pub read_body-requires-clause-proper : goal.read_body-requires-clause-proper
read_body-requires-clause-proper g c =
    subst (λ (columns : List ColumnType). AreProper (map column_of columns)) (sym c.as_slice.ensures.value) c.in_ok-named.ensures.proper

pub read_body-requires-clause-allowed : goal.read_body-requires-clause-allowed
read_body-requires-clause-allowed g c =
    subst (λ (columns : List ColumnType). AreAllowed (map column_of columns)) (sym c.as_slice.ensures.value) c.in_ok-named.ensures.allowed
