-- The fault of a run whose chain of stages gives no text.
use Rattle.csv_write.specs.declared.fault.DriveFault.{DriveFault}
use Rattle.csv_write.specs.declared.fault.DriveFault.TheVariants as chain
use Rattle.run_model.specs.promise.Answer.{fault_of_row}
use Rattle.run_model.specs.declared.fault.RunFault.{RunFault}
use Rattle.run_model.specs.declared.fault.RunFault.TheVariants as run

-- ---- the fault of a chain
-- the fault of a run whose chain of stages gives no text
abbrev pub fault_of_chain : DriveFault → RunFault
fault_of_chain (chain.Row fault) = fault_of_row fault
fault_of_chain chain.NoMemory = run.NoMemory
