use Rattle.std.proofs.Common.{◌≡◌, ◌≤◌, ℕ, List, length}
use Rattle.std.specs.Borrow.{Bor}
use Rattle.stage_plan.specs.PlanWords.{place_among}
use Rattle.stage_plan.proofs.NamedPlaces.{place_behind}
use Rattle.stage_plan.proofs.places.places_by_name.Given as goal

-- the map has the places of the columns that were gone over, from the last
abbrev pub invariant-loop-place : goal.invariant-loop-place
invariant-loop-place l = record {
  within : l.place ≤ length l.columns;
  known : (name : Bor (List ℕ)) → place_among l.known name.now ≡ place_behind l.columns l.place name.now;
}

abbrev pub decreases-loop-place : goal.decreases-loop-place
decreases-loop-place l = l.place
