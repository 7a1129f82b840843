use Rattle.std.proofs.Common.{[], arith}
use Rattle.csv.specs.Reading.{default_config}
use Rattle.csv_model.proofs.AllRecords.{next-leaves, next-shorter}
use Rattle.csv_model.proofs.LeftRecords.{left-more, left-none, next-small}
use Rattle.csv_model.proofs.laws.records_are_read_in_turn.Goals as goal

pub returns-clause-next : goal.returns-clause-next
returns-clause-next c s xs q between is = left-more default_config s xs q between is

pub returns-clause-end : goal.returns-clause-end
returns-clause-end c s xs is = left-none default_config s xs is

pub returns-clause-between : goal.returns-clause-between
returns-clause-between c s xs q is = (next-leaves default_config s [] [] xs q is).between

pub returns-clause-shorter : goal.returns-clause-shorter
returns-clause-shorter c s xs q between is = next-shorter default_config s [] [] xs q between is

pub returns-clause-bytes : goal.returns-clause-bytes
returns-clause-bytes c s xs q is = omega (arith, (next-small default_config s [] [] xs q is).bytes)

pub returns-clause-count : goal.returns-clause-count
returns-clause-count c s xs q is = omega (arith, (next-small default_config s [] [] xs q is).count)
