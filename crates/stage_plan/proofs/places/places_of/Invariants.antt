use Rattle.std.proofs.Common.{◌≡◌, take, false}
use Rattle.std.specs.Prelude.{is_none}
use Rattle.std.specs.List.{list_any}
use Rattle.stage_model.specs.promise.Typing.{place_if, places_of}
use Rattle.stage_plan.specs.PlanWords.{columns_in}
use Rattle.stage_plan.proofs.places.places_of.Given as goal

abbrev pub invariant-loop-name : goal.invariant-loop-name
invariant-loop-name l = record {
  found : l.places.items ≡ places_of (columns_in l.columns) (take l.name-index l.names);
  all : list_any (λ name. is_none (place_if (columns_in l.columns) name)) (take l.name-index l.names) ≡ false;
}
