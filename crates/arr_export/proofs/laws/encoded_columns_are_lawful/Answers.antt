use Rattle.arr_export.proofs.ColumnLaw.{column-lawful, column-values}
use Rattle.arr_export.proofs.laws.encoded_columns_are_lawful.Goals as goal

pub returns-clause-lawful : goal.returns-clause-lawful
returns-clause-lawful c values fits = column-lawful values fits

pub returns-clause-values : goal.returns-clause-values
returns-clause-values c values fits = column-values values fits
