use Rattle.std.proofs.Common.{arith, ◌≤◌, map}
use Rattle.std.proofs.lemmas.List.{length-map}
use Rattle.data_types.specs.ColumnView.{column_of}
use Rattle.schema_check.specs.promise.ColumnSchema.{SchemaOf}
use Rattle.tree_model.specs.Tree.{Depth}
use Rattle.csv_source.proofs.PlainKinds.{have-kinds, no-dicts, plain-columns, plain-leaves, proper-flat}
use Rattle.csv_source.proofs.Tables.{left-lawful}
use Rattle.csv_source.proofs.source.CsvSourceArrayStream.lawful_facts.Goals as goal

pub returns-clause-columns : goal.returns-clause-columns
returns-clause-columns g c = λ _.
    let source = c.args.self.now in
    let columns = map column_of source.batches.columns in
    let plain = plain-columns columns c.columns-columns.ensures.proper c.columns-columns.ensures.allowed in
    let flat = proper-flat columns c.columns-columns.ensures.proper in
    let long = length-map source.batches.columns column_of in
    let deep : Depth (SchemaOf columns) ≤ 64 = omega (arith, c.schema_size.ensures.flat_depth columns flat) in
    record {
      kinds = have-kinds columns plain;
      dicts = no-dicts columns plain;
      few = omega (arith, plain-leaves columns plain, long, source.few);
      typed = c.column_schemas_are_lawful.ensures columns (have-kinds columns plain) deep;
      small = omega (arith, c.schema_size.ensures.flat_nodes columns flat, long, source.few);
      not_deep = deep;
    }

pub returns-clause-tables : goal.returns-clause-tables
returns-clause-tables g c = λ _.
    let source = c.args.self.now in
    let columns = map column_of source.batches.columns in
    left-lawful source.batch source.batches (plain-columns columns c.columns-columns.ensures.proper c.columns-columns.ensures.allowed) source.short
