-- An answer: the text that is to be written, or the fault that is to be reported.
use Rattle.std.specs.Prelude.{ℕ, List, Option, None, Some, Result, Ok, Err}
use Rattle.tree_top.specs.declared.fault.TreeRunFault.{TreeRunFault}

pub data Answer : Type 0 where
  Text : List ℕ → Answer
  Fault : TreeRunFault → Answer

-- an answer, where there is no fault before it
abbrev pub unless : {F : Type 0} → (F → TreeRunFault) → Option F → Answer → Answer
unless fault_of None answer = answer
unless fault_of (Some fault) answer = Fault (fault_of fault)

-- an answer by what was read, where it was; else the fault
abbrev pub by : {K F : Type 0} → (F → TreeRunFault) → Result K F → (K → Answer) → Answer
by fault_of (Ok read) said = said read
by fault_of (Err fault) said = Fault (fault_of fault)
