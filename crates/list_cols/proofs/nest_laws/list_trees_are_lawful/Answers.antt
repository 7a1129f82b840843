use Rattle.list_cols.proofs.ListTreeLaw.{list-lawful, list-values}
use Rattle.list_cols.proofs.nest_laws.list_trees_are_lawful.Goals as goal

pub returns-clause-lawful : goal.returns-clause-lawful
returns-clause-lawful c kind lists fit = list-lawful kind lists fit

pub returns-clause-values : goal.returns-clause-values
returns-clause-values c kind lists fit = list-values kind lists fit
