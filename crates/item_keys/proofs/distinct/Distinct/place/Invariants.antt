use Rattle.std.proofs.Common.{ℕ, List}
use Rattle.item_keys.specs.Distinct.{AreTaken, Numbers}
use Rattle.item_keys.proofs.Found.{AreOthers}
use Rattle.item_keys.proofs.distinct.Distinct.place.Given as goal

-- the slots so far are taken, by others
abbrev pub invariant-loop-step : goal.invariant-loop-step
invariant-loop-step l = record {
  taken : AreTaken l.self.slots.items l.text l.step;
  others : (texts : List (List ℕ)) → Numbers l.self texts → AreOthers texts l.self.slots.items l.text l.step;
}
