use Rattle.array_laws.proofs.ColumnCosts.{cost-packed, cost-picked, cost-unpacked}
use Rattle.array_laws.proofs.column_laws.taken_columns_cost_no_more.Goals as goal

pub returns-clause-picked : goal.returns-clause-picked
returns-clause-picked c = cost-picked

pub returns-clause-packed : goal.returns-clause-packed
returns-clause-packed c = cost-packed

pub returns-clause-unpacked : goal.returns-clause-unpacked
returns-clause-unpacked c = cost-unpacked
