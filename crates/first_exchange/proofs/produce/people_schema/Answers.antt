use Rattle.std.proofs.Common.{◌∙◌, ap, map}
use Rattle.data_types.specs.ColumnView.{column_of}
use Rattle.first_exchange.proofs.People.{kinds-ok}
use Rattle.first_exchange.proofs.produce.people_schema.Goals as goal

pub export_schema-requires-clause-kinds : goal.export_schema-requires-clause-kinds
export_schema-requires-clause-kinds c =
    kinds-ok c.as_slice.result.now (ap (map column_of) c.as_slice.ensures.value ∙ c.in_ok-columns.ensures)
