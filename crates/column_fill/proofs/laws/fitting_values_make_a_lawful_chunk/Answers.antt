use Rattle.column_fill.proofs.LawfulTables.{lawful-chunk, lawful-columns, lawful-table}
use Rattle.column_fill.proofs.laws.fitting_values_make_a_lawful_chunk.Goals as goal

pub returns-clause-columns : goal.returns-clause-columns
returns-clause-columns c = lawful-columns c.column_schemas_are_lawful.ensures c.schema_size.ensures.nodes

pub returns-clause-table : goal.returns-clause-table
returns-clause-table c = lawful-table

pub returns-clause-chunk : goal.returns-clause-chunk
returns-clause-chunk c = λ rows columns fit many few.
    lawful-chunk c.columns_of_values_make_a_chunk.ensures.chunk c.columns_of_values_make_a_chunk.ensures.rows c.encoded_columns_are_lawful.ensures.values
    rows columns fit few many
