use Rattle.std.proofs.Common.{◌≤◌, arith, sym, subst, length, map}
use Rattle.std.proofs.lemmas.List.{length-map}
use Rattle.field_codec.specs.TextColumns.{AreProper}
use Rattle.data_types.specs.ColumnView.{column_of}
use Rattle.csv_source.proofs.PlainKinds.{proper-flat, proper-kinds}
use Rattle.csv_source.proofs.source.CsvSourceArrayStream.get_schema.Goals as goal

pub export_schema-requires-clause-small : goal.export_schema-requires-clause-small
export_schema-requires-clause-small g c =
    let columns = map column_of c.columns.result.now in
    let proper = subst (λ cs. AreProper (map column_of cs)) (sym c.columns.ensures.columns) c.columns.ensures.proper in
    let few = subst (λ cs. length cs ≤ 1024) (sym c.columns.ensures.columns) c.args.self.now.few in
    omega (arith, c.schema_size.ensures.flat_nodes columns (proper-flat columns proper), length-map c.columns.result.now column_of, few)

pub export_schema-requires-clause-not_deep : goal.export_schema-requires-clause-not_deep
export_schema-requires-clause-not_deep g c =
    let columns = map column_of c.columns.result.now in
    let proper = subst (λ cs. AreProper (map column_of cs)) (sym c.columns.ensures.columns) c.columns.ensures.proper in
    omega (arith, c.schema_size.ensures.flat_depth columns (proper-flat columns proper))

pub export_schema-requires-clause-kinds : goal.export_schema-requires-clause-kinds
export_schema-requires-clause-kinds g c =
    proper-kinds c.columns.result.now (subst (λ cs. AreProper (map column_of cs)) (sym c.columns.ensures.columns) c.columns.ensures.proper)
