use Rattle.pipe_top.proofs.MemoryFaults.{of-fault}
use Rattle.pipe_top.proofs.laws.memory_stands_alone.Goals as goal

pub returns : goal.returns
returns c = record { faults = of-fault }
