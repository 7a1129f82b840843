-- What an answer says.
use Rattle.std.specs.Prelude.{Option, None, Some, Result, Ok, Err}
use Rattle.layout_rules.specs.declared.rule.LayoutFault.{LayoutFault}
use Rattle.layout_rules.specs.promise.Walk.{Fault}
use Rattle.data_types.specs.promise.Ways.{steps_of}

abbrev pub fault_of : LayoutFault → Fault
fault_of f = record { path = steps_of f.path; rule = f.rule; numbers = record { place = f.place; left = f.left; right = f.right } }

abbrev pub found : {X : Type 0} → Result X LayoutFault → Option Fault
found (Ok x) = None
found (Err f) = Some (fault_of f)
