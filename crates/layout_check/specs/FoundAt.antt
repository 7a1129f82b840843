-- What the code's answer at a node says.
use Rattle.std.specs.Prelude.{Option, None, Some, Result, Ok, Err}
use Rattle.layout_check.specs.declared.failing.Failing.{Failing}
use Rattle.layout_rules.specs.promise.Walk.{Fault}
use Rattle.data_types.specs.promise.Ways.{Steps}

-- the fault of a rule that fails at the node there
abbrev pub fault_there : Steps → Failing → Fault
fault_there path f = record { path = path; rule = f.rule; numbers = f.numbers }

abbrev pub found_at : {X : Type 0} → Steps → Result X Failing → Option Fault
found_at path (Ok x) = None
found_at path (Err f) = Some (fault_there path f)
