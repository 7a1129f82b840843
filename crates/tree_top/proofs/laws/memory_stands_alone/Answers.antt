use Rattle.tree_top.proofs.MemoryFaults.{of-fault}
use Rattle.tree_top.proofs.laws.memory_stands_alone.Goals as goal

pub returns : goal.returns
returns c = of-fault
