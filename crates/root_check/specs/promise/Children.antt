-- The first child, by number, at which a rule of arrays fails ("Arrow Columnar Format", "Physical memory layout").
use Rattle.std.specs.Prelude.{ℕ, suc, List, [], ◌∷◌, Option, None, option_map}
use Rattle.std.specs.Option.{option_or}
use Rattle.raw_array.specs.promise.Members.{ArrayTree}
use Rattle.data_types.specs.promise.KindTrees.{KindTree}
use Rattle.layout_rules.specs.promise.Walk.{Fault, first_fault}

-- a child's number, and its first fault: the way to the node begins at the child
pub record ChildFault : Type 0 where
  pub child : ℕ
  pub fault : Fault

-- the first of the children from number k on that has a fault
abbrev pub children_fault : List KindTree → ℕ → List ArrayTree → Option ChildFault
children_fault [] k children = None
children_fault (kid ∷ kids) k [] = None
children_fault (kid ∷ kids) k (child ∷ rest) =
    option_or (option_map (λ found. record { child = k; fault = found }) (first_fault kid child)) (children_fault kids (suc k) rest)
