-- The fault of one child.
use Rattle.std.specs.Prelude.{ℕ, Option, option_map}
use Rattle.layout_rules.specs.promise.Walk.{Fault}
use Rattle.root_check.specs.promise.Children.{ChildFault}

abbrev pub at_child : ℕ → Option Fault → Option ChildFault
at_child k found = option_map (λ fault. record { child = k; fault = fault }) found
