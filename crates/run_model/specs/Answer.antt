-- The fault of a run by that of the check of its tree, and the options of the chain over rows that are made.
use Rattle.std.specs.Prelude.{None, Some}
use Rattle.tree_check.specs.declared.fault.CheckFault.{CheckFault}
use Rattle.tree_check.specs.declared.fault.CheckFault.TheVariants as check
use Rattle.run_model.specs.declared.fault.RunFault.{RunFault}
use Rattle.run_model.specs.declared.fault.RunFault.TheVariants as run
use Rattle.run_model.specs.promise.Answer.{chain_schema, chain_stages}
use Rattle.run_model.specs.promise.Words.{Options}

-- the fault of a run whose tree has no report
abbrev pub fault_of_check : CheckFault → RunFault
fault_of_check (check.Tree fault) = run.Tree fault
fault_of_check check.NoMemory = run.NoMemory

-- the options of the chain over rows that are made: the numbers as taken, and no mark
abbrev pub chain_of : Options → Options
chain_of options = record options { schema = Some chain_schema; null = None; stages = chain_stages }
