use Rattle.array_laws.proofs.ColumnForm.{fit-of, range-of}
use Rattle.array_laws.proofs.column_laws.columns_can_be_taken.Goals as goal

pub returns-clause-range : goal.returns-clause-range
returns-clause-range c = range-of

pub returns-clause-fit : goal.returns-clause-fit
returns-clause-fit c types t picks live ok within = fit-of types t live ok picks within
