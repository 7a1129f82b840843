use Rattle.csv_read.proofs.RowsOfBuilders.{from-each, held-fit, held-some}
use Rattle.csv_read.proofs.chunk.batch_rows_fit.Goals as goal

pub returns-clause-some : goal.returns-clause-some
returns-clause-some c builders columns rows held = held-some 0 builders columns rows (from-each builders columns rows held.held)

pub returns-clause-fit : goal.returns-clause-fit
returns-clause-fit c builders columns rows held = held-fit 0 builders columns rows (from-each builders columns rows held.held)
