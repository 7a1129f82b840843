use Rattle.array_laws.proofs.WindowTree.{window-chunk, window-fits, window-has_rows, window-has_values, window-items, window-lawful}
use Rattle.array_laws.proofs.laws.windows_are_parts.Goals as goal

pub returns-clause-lawful : goal.returns-clause-lawful
returns-clause-lawful c = window-lawful

pub returns-clause-values : goal.returns-clause-values
returns-clause-values c = window-has_values

pub returns-clause-chunk : goal.returns-clause-chunk
returns-clause-chunk c = window-chunk

pub returns-clause-rows : goal.returns-clause-rows
returns-clause-rows c = window-has_rows

pub returns-clause-items : goal.returns-clause-items
returns-clause-items c = window-items

pub returns-clause-fits : goal.returns-clause-fits
returns-clause-fits c = window-fits
