use Rattle.array_laws.proofs.JoinedWindows.{rows-joined, values-joined}
use Rattle.array_laws.proofs.laws.windows_join.Goals as goal

pub returns-clause-values : goal.returns-clause-values
returns-clause-values c = values-joined

pub returns-clause-rows : goal.returns-clause-rows
returns-clause-rows c = rows-joined
