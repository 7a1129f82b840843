use Rattle.list_cols.proofs.NestedLaw.{nested-chunk, nested-rows}
use Rattle.list_cols.proofs.nest_laws.nested_tables_have_their_rows.Goals as goal

pub returns-clause-chunk : goal.returns-clause-chunk
returns-clause-chunk c column types rows fit = nested-chunk column types rows fit

pub returns-clause-rows : goal.returns-clause-rows
returns-clause-rows c column types rows fit = nested-rows column types rows fit
