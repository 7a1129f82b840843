use Rattle.arr_export.proofs.IndexLaw.{indices-lawful, indices-values}
use Rattle.arr_export.proofs.laws.indexed_columns_are_lawful.Goals as goal

pub returns-clause-lawful : goal.returns-clause-lawful
returns-clause-lawful c values type dictionary fits are lawful = indices-lawful values type dictionary fits are lawful

pub returns-clause-values : goal.returns-clause-values
returns-clause-values c values type dictionary fits are = indices-values values type dictionary fits are
