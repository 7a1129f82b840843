use Rattle.std.proofs.Common.{refl}
use Rattle.csv_read.proofs.BatchLaw.{end-in-turn, fault-in-turn, next-in-turn}
use Rattle.csv_read.proofs.batch_laws.batches_are_read_in_turn.Goals as goal

pub returns-clause-all : goal.returns-clause-all
returns-clause-all c = λ batch bytes columns mark. refl

pub returns-clause-next : goal.returns-clause-next
returns-clause-next c = λ batch builders old new some columns mark found. next-in-turn batch builders old new some columns mark found

pub returns-clause-end : goal.returns-clause-end
returns-clause-end c = λ batch s end. end-in-turn batch s end

pub returns-clause-fault : goal.returns-clause-fault
returns-clause-fault c = λ batch s fault refuses. fault-in-turn batch s fault refuses
