-- What the answers of the checks of arrays say.
use Rattle.std.specs.Prelude.{Option, None, Some, Result, Ok, Err}
use Rattle.layout_rules.specs.Found.{fault_of}
use Rattle.root_check.specs.declared.own.OwnFault.{OwnFault}
use Rattle.root_check.specs.declared.children.FaultyChild.{FaultyChild}
use Rattle.root_check.specs.promise.Children.{ChildFault}

abbrev pub found_own : {X : Type 0} → Result X OwnFault → Option OwnFault
found_own (Ok x) = None
found_own (Err fault) = Some fault

abbrev pub child_fault_of : FaultyChild → ChildFault
child_fault_of f = record { child = f.child; fault = fault_of f.fault }

abbrev pub found_child : {X : Type 0} → Result X FaultyChild → Option ChildFault
found_child (Ok x) = None
found_child (Err fault) = Some (child_fault_of fault)
